-- A loop over the records of a list: what its iterator has left are the records from a word on. Assumes nothing.
use Prim.Native.Nat.{ℕ, ◌+◌, ◌-◌, ◌≤◌, ◌<◌}
use mathlib.Core.Path.{◌≡◌, refl, sym, ◌∙◌, ap}
use mathlib.Core.List.{List, [], ◌∷◌, tail}
use native.Mathlib.Omega.{arith}
use native.Mathlib.Decide.{ℕ_discrete}
use lib.ListN.{length, get_or}
use Rattle.std.specs.declared.iter.Enumerate.{Enumerate}
use Rattle.recorder.specs.declared.records.Records.{Records}
use Rattle.simulation.specs.Index.{size_at, fields_at, records_in}
use Rattle.recorder.specs.Records.{left}
use Rattle.simulation.proofs.Offsets.{fields_count, field_in}
use Rattle.recorder.specs.Record.{Stmt, assign, reg, sized, signal_words, stmt_words}
use Rattle.recorder.specs.Read.{read_signal, read_stmt}
use Rattle.recorder.proofs.Roundtrip.{signal_said, stmt_said}
use Rattle.simulation.proofs.Found.{read_at}
use Rattle.simulation.proofs.Steps.{Walked, walked_fields, walked_there, left_from, left_next, left_out, within}
use Rattle.evaluation.specs.Late.{no_signal, signal_at}
use Rattle.evaluation.specs.Loads.{Stated, stmt_in}
use Rattle.evaluation.specs.Ticks.{ReadSignals}

pub record Ahead (l : List ℕ) (at : ℕ) (rest : List (List ℕ)) : Type 0 where
  pub are : rest ≡ left_from l at

-- all of them at first
pub turns_start : {l : List ℕ} {s z : Records} → s ≡ z → z.rest.now ≡ l → Ahead l 0 (left s)
turns_start g e = record { are = ap left g ∙ ap records_in e }

pub turns_numbered : {l : List ℕ} {s z : Enumerate Records} {w : Records} → s ≡ z → z.iter ≡ w → w.rest.now ≡ l → Ahead l 0 (left s.iter)
turns_numbered g f e = record { are = ap (λ (z : Enumerate Records). left z.iter) g ∙ ap left f ∙ ap records_in e }

-- none is left: no record stands there
pub turns_out : {l : List ℕ} {at : ℕ} {rest : List (List ℕ)} → Ahead l at rest → rest ≡ [] → 0 ≡ size_at l at
turns_out {l} {at} e n = go (ℕ_discrete (size_at l at) 0)
  where
    go : Dec (size_at l at ≡ 0) → 0 ≡ size_at l at
    go (yes z) = sym z
    go (no z) = let h = ap length (sym n ∙ e.are ∙ left_next l at (size_at l at) refl z) in absurd (omega (arith, h))

-- the next one, with the fields r
module _ {l : List ℕ} {at : ℕ} {rest rest' : List (List ℕ)} {r : List ℕ} (e : Ahead l at rest) (q : rest ≡ r ∷ rest') where
  some : size_at l at ≡ 0 → ⊥
  some z = let h = ap length (sym q ∙ e.are ∙ left_out l at (size_at l at) refl z) in absurd (omega (arith, h))

  both : r ∷ rest' ≡ fields_at l at (size_at l at) ∷ left_from l (at + size_at l at)
  both = sym q ∙ e.are ∙ left_next l at (size_at l at) refl some

  pub turn_size : length r + 1 ≡ size_at l at
  turn_size = omega (arith, some, ap (λ (rs : List (List ℕ)). length (get_or rs 0 [])) both, fields_count l at (size_at l at) (within l at (size_at l at) refl some))

  pub turn_some : length r + 1 ≡ 0 → ⊥
  turn_some z = absurd (omega (arith, z))

  pub turn_next : Ahead l (at + (length r + 1)) rest'
  turn_next = record { are = ap tail both ∙ ap (λ (n : ℕ). left_from l (at + n)) (sym turn_size) }

  pub turn_within : at + (length r + 1) ≤ length l
  turn_within = within l at (length r + 1) turn_size turn_some

  pub turn_is : {k : ℕ} → Walked l at k → get_or (records_in l) k [] ≡ r
  turn_is w = walked_fields w (length r + 1) turn_size turn_some ∙ ap (fields_at l at) turn_size ∙ sym (ap (λ (rs : List (List ℕ)). get_or rs 0 []) both)

  pub turn_there : {k : ℕ} → Walked l at k → k < length (records_in l)
  turn_there w = walked_there w (length r + 1) turn_size turn_some

  word : (j : ℕ) → j < length r → get_or r j 0 ≡ get_or l (at + 1 + j) 0
  word j h =
      let s : j < size_at l at - 1 = omega (arith, turn_size) in
      ap (λ (rs : List (List ℕ)). get_or (get_or rs 0 []) j 0) both ∙ sym (field_in l at (size_at l at) j s)

  pub turn_first : 0 < length r → get_or r 0 0 ≡ get_or l (at + 1) 0
  turn_first h = let z : at + 1 + 0 ≡ at + 1 = omega arith in word 0 h ∙ ap (λ (n : ℕ). get_or l n 0) z

  pub turn_second : 1 < length r → get_or r 1 0 ≡ get_or l (at + 2) 0
  turn_second h = let z : at + 1 + 1 ≡ at + 2 = omega arith in word 1 h ∙ ap (λ (n : ℕ). get_or l n 0) z

  -- a signal has three fields
  pub signal_turn : {k : ℕ} → ReadSignals l → Walked l at k → length r ≡ 3
  signal_turn {k} h w =
      let said : signal_words (signal_at l k) ≡ sized (get_or (records_in l) k []) = signal_said (get_or (records_in l) k []) (read_at read_signal (records_in l) h.readable k (turn_there w) no_signal) in
      omega (arith, ap length said, ap length (turn_is w))

  pub signal_first : {k : ℕ} → ReadSignals l → Walked l at k → get_or r 0 0 ≡ get_or l (at + 1) 0
  signal_first h w = turn_first (omega (arith, signal_turn h w))

  pub signal_second : {k : ℕ} → ReadSignals l → Walked l at k → get_or r 1 0 ≡ get_or l (at + 2) 0
  signal_second h w = turn_second (omega (arith, signal_turn h w))

  -- a statement at least as many
  pub stmt_turn : {k : ℕ} {signals : List ℕ} → Stated signals l → Walked l at k → 3 ≤ length r
  stmt_turn {k} h w =
      let said : stmt_words (stmt_in l k) ≡ sized (get_or (records_in l) k []) = stmt_said (get_or (records_in l) k []) (read_at read_stmt (records_in l) h.readable k (turn_there w) (assign 0 0)) in
      omega (arith, least (stmt_in l k), ap length said, ap length (turn_is w))
    where
      least : (x : Stmt) → 4 ≤ length (stmt_words x)
      least (assign t e) = omega arith
      least (reg t n c d p e) = omega arith
