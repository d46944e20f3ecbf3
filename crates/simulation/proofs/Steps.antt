-- A loop over the records of a list: at word `at` record k begins. Assumes nothing.
use Prim.Native.Nat.{ℕ, ◌+◌, ◌-◌, ◌≤◌, ◌<◌}
use mathlib.Core.Path.{◌≡◌, refl, sym, ◌∙◌, ap, subst}
use mathlib.Core.List.{List, [], ◌∷◌}
use native.Mathlib.Omega.{arith}
use native.Mathlib.Nat.{add-zero}
use lib.ListN.{length, get_or, take, drop, length-drop, length-map, drop_of_length-le, get_or-eq_default}
use lib.Seq.{drop-drop, get_or-drop}
use Rattle.recorder.specs.declared.Cut.{Cut}
use Rattle.recorder.specs.declared.Cut.TheVariants.{Record, End, Broken}
use Rattle.recorder.specs.Read as read
use Rattle.recorder.specs.Read.{split}
use Rattle.recorder.specs.Standing.{cut_at}
use Rattle.recorder.proofs.Reading.{split_as, record_within}
use Rattle.simulation.specs.Index.{size_of, size_at, fields_at, records_in, widths_in, start_of}
use Rattle.simulation.proofs.Offsets.{fields_count, start_first, start_next, start_past}

pub record Walked (l : List ℕ) (at k : ℕ) : Type 0 where
  pub inside : at ≤ length l
  pub behind_at : k ≤ at
  pub reached : k ≤ length (records_in l)
  pub begins : at ≡ start_of l k
  pub left : drop k (records_in l) ≡ (split (drop at l)).records
  pub whole : (split l).whole ≡ (split (drop at l)).whole

pub walked_start : (l : List ℕ) → Walked l 0 0
walked_start l = record { inside = omega arith; behind_at = omega arith; reached = omega arith; begins = start_first l; left = refl; whole = refl }

-- the width of record k
pub width_of : (l : List ℕ) (k : ℕ) → get_or (widths_in l) k 0 ≡ get_or (get_or (records_in l) k []) 1 0
width_of l k = lib.ListN.get_or-map (λ (r : List ℕ). get_or r 1 0) (records_in l) k []

pub length_widths : (l : List ℕ) → length (widths_in l) ≡ length (records_in l)
length_widths l = length-map (records_in l) (λ (r : List ℕ). get_or r 1 0)

-- WHAT IS LEFT, by what stands there

abbrev pub left_from : List ℕ → ℕ → List (List ℕ)
left_from l at = (split (drop at l)).records

module _ (l : List ℕ) (at size : ℕ) (e : size ≡ size_at l at) where
  is_record : (c : Cut) → (size ≡ 0 → ⊥) → size ≡ size_of c → cut_at l at ≡ c → cut_at l at ≡ Record (size - 1)
  is_record (Record n) d q p = let z : n ≡ size - 1 = omega arith in p ∙ ap Record z
  is_record End d q p = absurd (d q)
  is_record Broken d q p = absurd (d q)

  here : (size ≡ 0 → ⊥) → cut_at l at ≡ Record (size - 1)
  here d = is_record (cut_at l at) d e refl

  pub within : (size ≡ 0 → ⊥) → at + size ≤ length l
  within d = let h = record_within l at (sym (here d)) in omega arith

  pub split_next : (size ≡ 0 → ⊥) → split (drop at l) ≡ read.before (fields_at l at size) (split (drop (at + size) l))
  split_next d =
      let z : at + 1 + (size - 1) ≡ at + size = omega arith in
      split_as l at (sym (here d)) ∙ ap (λ (j : ℕ). read.before (fields_at l at size) (split (drop j l))) z

  pub left_next : (size ≡ 0 → ⊥) → left_from l at ≡ fields_at l at size ∷ left_from l (at + size)
  left_next d = ap (λ (t : read.Cut). t.records) (split_next d)

  none_left : (c : Cut) → size ≡ 0 → size ≡ size_of c → cut_at l at ≡ c → left_from l at ≡ []
  none_left (Record n) z q p = absurd (omega arith)
  none_left End z q p = ap (λ (t : read.Cut). t.records) (split_as l at (sym p))
  none_left Broken z q p = ap (λ (t : read.Cut). t.records) (split_as l at (sym p))

  pub left_out : size ≡ 0 → left_from l at ≡ []
  left_out z = none_left (cut_at l at) z e refl

-- RECORD k

module _ {l : List ℕ} {at k : ℕ} (w : Walked l at k) (size : ℕ) (e : size ≡ size_at l at) where
  module _ (d : size ≡ 0 → ⊥) where
    next_left : drop k (records_in l) ≡ fields_at l at size ∷ left_from l (at + size)
    next_left = w.left ∙ left_next l at size e d

    pub walked_within : at + size ≤ length l
    walked_within = within l at size e d

    pub walked_there : k < length (records_in l)
    walked_there = omega (arith, length-drop k (records_in l), ap length next_left)

    pub walked_fields : get_or (records_in l) k [] ≡ fields_at l at size
    walked_fields = ap (λ (j : ℕ). get_or (records_in l) j []) (sym (add-zero k)) ∙ sym (get_or-drop k (records_in l) 0 []) ∙ ap (λ (t : List (List ℕ)). get_or t 0 []) next_left

    pub walked_width : get_or (widths_in l) k 0 ≡ get_or (fields_at l at size) 1 0
    walked_width = width_of l k ∙ ap (λ (r : List ℕ). get_or r 1 0) walked_fields

    walked_begins : at + size ≡ start_of l (k + 1)
    walked_begins = omega (arith, w.begins, start_next l k walked_there, ap length walked_fields, fields_count l at size walked_within)

    pub walked_next : Walked l (at + size) (k + 1)
    walked_next = record {
      inside = walked_within;
      behind_at = omega (arith, w.behind_at);
      reached = omega (arith, walked_there);
      begins = walked_begins;
      left = sym (drop-drop 1 k (records_in l)) ∙ ap (drop 1) next_left;
      whole = w.whole ∙ ap (λ (t : read.Cut). t.whole) (split_next l at size e d);
    }

  -- none: all were seen
  pub walked_out : size ≡ 0 → k ≡ length (records_in l)
  walked_out z = omega (arith, w.reached, length-drop k (records_in l), ap length (w.left ∙ left_out l at size e z))

-- no record left: whatever is asked for begins no later
pub walked_stop : {l : List ℕ} {at i : ℕ} → Walked l at i → (k : ℕ) → i ≡ length (records_in l) → i ≤ k → at ≡ start_of l k
walked_stop {l} {at} {i} w k e h = w.begins ∙ ap (start_of l) e ∙ start_past l k (omega arith)

pub width_past : (l : List ℕ) (i : ℕ) → length (records_in l) ≤ i → 0 ≡ get_or (widths_in l) i 0
width_past l i h = sym (get_or-eq_default (widths_in l) 0 (subst (λ (n : ℕ). n ≤ i) (sym (length_widths l)) h))
