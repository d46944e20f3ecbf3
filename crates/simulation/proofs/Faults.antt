-- The tests of single records against their rules, and the loops that look for the first that fails. Assumes nothing.
use Prim.Native.Nat.{ℕ, zero, suc, ◌+◌, ◌≤◌, ◌<◌, min}
use mathlib.Core.Path.{◌≡◌, refl, sym, ◌∙◌, ap, subst}
use mathlib.Core.Bool.{Bool, true, false, ◌&&◌}
use mathlib.Core.List.{List, [], ◌∷◌}
use Rattle.std.specs.Prelude.{Option, None, Some}
use native.Mathlib.Omega.{arith}
use native.Mathlib.Numerals.{add-one}
use lib.Dec.{eqb, leb}
use lib.ListN.{length, get_or}
use borrow.Author.Tests.{le-leb, lt-leb, eq-eqb, ne_eqb, eqb-true, eqb-false}
use Rattle.bits.specs.Bits.{pick}
use Rattle.recorder.specs.Record.{Signal}
use Rattle.recorder.specs.Read.{read_signal}
use Rattle.simulation.specs.Wellformed.{drives, count_of, statements, signal_fits, in_range, fits, first_failing}
use Rattle.simulation.specs.Fault.{stands}
use Rattle.simulation.proofs.Tally.{drives_stands}

-- THE LOOP

module _ (p : ℕ → List ℕ → Bool) (n : ℕ) (r : List ℕ) (left : List (List ℕ)) where
  pub failing_next : p n r ≡ true → first_failing p n (r ∷ left) ≡ first_failing p (n + 1) left
  failing_next h = rw h (ap (λ (k : ℕ). first_failing p k left) (sym (add-one n)))

  pub failing_here : p n r ≡ false → Some n ≡ first_failing p n (r ∷ left)
  failing_here h = sym (rw h)

-- what a loop keeps: what it still has to find is what there is to find
pub record Seeking (p : ℕ → List ℕ → Bool) (rs : List (List ℕ)) (n : ℕ) (left : List (List ℕ)) : Type 0 where
  pub sought : first_failing p n left ≡ first_failing p 0 rs

module _ {p : ℕ → List ℕ → Bool} {rs : List (List ℕ)} where
  pub seeking_start : Seeking p rs 0 rs
  seeking_start = record { sought = refl }

  module _ {n : ℕ} {left : List (List ℕ)} (s : Seeking p rs n left) where
    pub seeking_next : (r : List ℕ) (rest : List (List ℕ)) → left ≡ r ∷ rest → p n r ≡ true → Seeking p rs (n + 1) rest
    seeking_next r rest e h = record { sought = sym (ap (first_failing p n) e ∙ failing_next p n r rest h) ∙ s.sought }

    pub seeking_here : (r : List ℕ) (rest : List (List ℕ)) → left ≡ r ∷ rest → p n r ≡ false → Some n ≡ first_failing p 0 rs
    seeking_here r rest e h = failing_here p n r rest h ∙ ap (first_failing p n) (sym e) ∙ s.sought

    pub seeking_none : left ≡ [] → None ≡ first_failing p 0 rs
    seeking_none e = ap (first_failing p n) (sym e) ∙ s.sought

-- where the record's number is given beside it
module _ {p : ℕ → List ℕ → Bool} {rs : List (List ℕ)} {i n : ℕ} {left : List (List ℕ)} (s : Seeking p rs i left) (q : n ≡ i) {r : List ℕ} {rest : List (List ℕ)} (e : left ≡ r ∷ rest) where
  at_n : Seeking p rs n left
  at_n = subst (λ (j : ℕ). Seeking p rs j left) (sym q) s

  pub seeking_found : p n r ≡ false → Some n ≡ first_failing p 0 rs
  seeking_found h = seeking_here at_n r rest e h

  pub seeking_more : p n r ≡ true → {j : ℕ} → j ≡ i + 1 → Seeking p rs j rest
  seeking_more h k = subst (λ (j : ℕ). Seeking p rs j rest) (ap (λ (m : ℕ). m + 1) q ∙ sym k) (seeking_next at_n r rest e h)

-- COUNTING THE STATEMENTS ON ONE SIGNAL

pub record Counting (n : ℕ) (rs left : List (List ℕ)) (k : ℕ) : Type 0 where
  pub so_far : min (k + count_of (drives n) left) 2 ≡ min (count_of (drives n) rs) 2
  pub small : k ≤ 2

pub counting_start : (n : ℕ) (rs : List (List ℕ)) → Counting n rs rs 0
counting_start n rs = record { so_far = ap (λ (i : ℕ). min i 2) (omega arith); small = omega arith }

module _ {n : ℕ} {rs left : List (List ℕ)} {k : ℕ} (c : Counting n rs left k) {r : List ℕ} {rest : List (List ℕ)} (e : left ≡ r ∷ rest) where
  counted_one : (b : Bool) → drives n r ≡ b → min (k + pick b (suc (count_of (drives n) rest)) (count_of (drives n) rest)) 2 ≡ min (count_of (drives n) rs) 2
  counted_one b h =
      ap (λ (v : Bool). min (k + pick v (suc (count_of (drives n) rest)) (count_of (drives n) rest)) 2) (sym h)
      ∙ ap (λ (l : List (List ℕ)). min (k + count_of (drives n) l) 2) (sym e)
      ∙ c.so_far

  by_target : (b : Bool) (o : Option ℕ) → o ≡ pick b (Some (get_or r 1 0)) None → (t : ℕ) → o ≡ Some t → (b ≡ true) × (t ≡ get_or r 1 0)
  by_target true o q t h = let z : Some t ≡ Some (get_or r 1 0) = sym h ∙ q in (refl, cc)
  by_target false o q t h = let z : ◌≡◌ {A = Option ℕ} (Some t) None = sym h ∙ q in absurd cc

  pub counting_here : {t : ℕ} → Some t ≡ pick (stands r) (Some (get_or r 1 0)) None → t ≡ n → {k' : ℕ} → k' ≡ min (k + 1) 2 → Counting n rs rest k'
  counting_here {t} q h g =
      let s = by_target (stands r) (Some t) q t refl in
      let z = counted_one true (drives_stands n r ∙ ap (λ (v : Bool). v && eqb (get_or r 1 0) n) s.0 ∙ eq-eqb (get_or r 1 0) n (sym s.1 ∙ h)) in
      record { so_far = omega arith; small = omega arith }

  pub counting_other : {t : ℕ} → Some t ≡ pick (stands r) (Some (get_or r 1 0)) None → (t ≡ n → ⊥) → Counting n rs rest k
  counting_other {t} q h =
      let s = by_target (stands r) (Some t) q t refl in
      record { so_far = counted_one false (drives_stands n r ∙ ap (λ (v : Bool). v && eqb (get_or r 1 0) n) s.0 ∙ ne_eqb (get_or r 1 0) n (λ z. h (s.1 ∙ z))); small = c.small }

  pub counting_none : None ≡ pick (stands r) (Some (get_or r 1 0)) None → Counting n rs rest k
  counting_none q = record { so_far = counted_one false (drives_stands n r ∙ ap (λ (v : Bool). v && eqb (get_or r 1 0) n) (go (stands r) q)); small = c.small }
    where
      go : (b : Bool) → None ≡ pick b (Some (get_or r 1 0)) None → b ≡ false
      go true p = absurd cc
      go false p = refl

pub counting_end : {n : ℕ} {rs left : List (List ℕ)} {k : ℕ} → Counting n rs left k → left ≡ [] → k ≡ min (count_of (drives n) rs) 2
counting_end {n} {rs} {left} {k} c e = let q = c.so_far in let g = ap (λ (l : List (List ℕ)). count_of (drives n) l) e in let z = c.small in omega arith

-- SIGNALS

signal_read : (r : List ℕ) → length r ≡ 3 → read_signal r ≡ Some (record { label = get_or r 0 0; width = get_or r 1 0; owner = get_or r 2 0 })
signal_read [] h = absurd (omega arith)
signal_read (a ∷ []) h = absurd (omega arith)
signal_read (a ∷ b ∷ []) h = absurd (omega arith)
signal_read (a ∷ b ∷ c ∷ []) h = refl
signal_read (a ∷ b ∷ c ∷ d ∷ l) h = absurd (omega arith)

pub signal_other : (widest k : ℕ) (r : List ℕ) → (length r ≡ 3 → ⊥) → false ≡ fits (signal_fits widest k) (read_signal r)
signal_other widest k [] h = refl
signal_other widest k (a ∷ []) h = refl
signal_other widest k (a ∷ b ∷ []) h = refl
signal_other widest k (a ∷ b ∷ c ∷ []) h = absurd (h refl)
signal_other widest k (a ∷ b ∷ c ∷ d ∷ l) h = refl

module _ (widest k : ℕ) (r : List ℕ) (three_long : length r ≡ 3) where
  abbrev label : ℕ
  label = get_or r 0 0

  abbrev width : ℕ
  width = get_or r 1 0

  as_read : fits (signal_fits widest k) (read_signal r) ≡ (leb label 15 && in_range widest width && eqb k (statements label))
  as_read = ap (fits (signal_fits widest k)) (signal_read r three_long)

  pub signal_unknown : 15 < label → false ≡ fits (signal_fits widest k) (read_signal r)
  signal_unknown h = sym (as_read ∙ rw (lt-leb label 15 h))

  pub signal_narrow : label ≤ 15 → width < 1 → false ≡ fits (signal_fits widest k) (read_signal r)
  signal_narrow a h = sym (as_read ∙ rw (le-leb label 15 a, lt-leb 1 width h))

  pub signal_broad : label ≤ 15 → 1 ≤ width → widest < width → false ≡ fits (signal_fits widest k) (read_signal r)
  signal_broad a b h = sym (as_read ∙ rw (le-leb label 15 a, le-leb 1 width b, lt-leb width widest h))

  pub signal_counted : label ≤ 15 → 1 ≤ width → width ≤ widest → (j : ℕ) → statements label ≡ j → eqb k j ≡ fits (signal_fits widest k) (read_signal r)
  signal_counted a b c j e = sym (as_read ∙ rw (le-leb label 15 a, le-leb 1 width b, le-leb width widest c) (ap (eqb k) e))

pub statements_some : (label : ℕ) → (label ≡ 0 → ⊥) → statements label ≡ 1
statements_some zero h = absurd (h refl)
statements_some (suc label) h = refl

-- more than one is as wrong as two
same_count : (k label : ℕ) → eqb (min k 2) (statements label) ≡ eqb k (statements label)
same_count k zero = go (eqb k 0) refl
  where
    go : (b : Bool) → eqb k 0 ≡ b → eqb (min k 2) 0 ≡ b
    go true e = let z = eqb-true k 0 e in eq-eqb (min k 2) 0 (omega arith)
    go false e = ne_eqb (min k 2) 0 (λ z. eqb-false k 0 e (omega arith))
same_count k (suc label) = go (eqb k 1) refl
  where
    go : (b : Bool) → eqb k 1 ≡ b → eqb (min k 2) 1 ≡ b
    go true e = let z = eqb-true k 1 e in eq-eqb (min k 2) 1 (omega arith)
    go false e = ne_eqb (min k 2) 1 (λ z. eqb-false k 1 e (omega arith))

pub signal_counts : (widest k : ℕ) (r : List ℕ) → fits (signal_fits widest (min k 2)) (read_signal r) ≡ fits (signal_fits widest k) (read_signal r)
signal_counts widest k r = go (read_signal r)
  where
    go : (o : Option Signal) → fits (signal_fits widest (min k 2)) o ≡ fits (signal_fits widest k) o
    go None = refl
    go (Some s) = ap (λ (b : Bool). leb s.label 15 && in_range widest s.width && b) (same_count k s.label)
