-- Counting the statements on each signal. Assumes nothing.
use Prim.Native.Nat.{ℕ, zero, suc, ◌+◌, ◌≤◌, ◌<◌, min}
use mathlib.Core.Path.{◌≡◌, refl, sym, ◌∙◌, ap, subst}
use mathlib.Core.Bool.{Bool, true, false, ◌&&◌}
use mathlib.Core.List.{List, [], ◌∷◌}
use native.Mathlib.Omega.{arith}
use native.Mathlib.Decide.{dec_lt, ℕ_discrete}
use lib.Dec.{eqb, leb}
use lib.ListN.{length, get_or, set, replicate, length-set}
use lib.Seq.{get_or-set_same, get_or-set_other, set_out}
use borrow.Author.Tests.{le-leb, lt-leb, eq-eqb, ne_eqb}
use Rattle.std.specs.Prelude.{None, Some}
use Rattle.bits.specs.Bits.{pick}
use Rattle.simulation.specs.Wellformed.{drives, count_of}
use Rattle.simulation.specs.Fault.{stands, Tallied}

-- zeros
pub get_d_zeros : (n i : ℕ) → ◌≡◌ {A = ℕ} (get_or (replicate n 0) i 0) 0
get_d_zeros zero i = refl
get_d_zeros (suc n) zero = refl
get_d_zeros (suc n) (suc i) = get_d_zeros n i

-- A RECORD'S TARGET

module _ (r : List ℕ) where
  pub stands_short : length r < 2 → stands r ≡ false
  stands_short h = rw (lt-leb 2 (length r) h)

  pub stands_not : 1 < get_or r 0 0 → stands r ≡ false
  stands_not h = go (leb 2 (length r))
    where
      go : (b : Bool) → (b && leb (get_or r 0 0) 1) ≡ false
      go true = lt-leb (get_or r 0 0) 1 h
      go false = refl

  pub stands_so : 2 ≤ length r → get_or r 0 0 ≤ 1 → stands r ≡ true
  stands_so h g = rw (le-leb 2 (length r) h) (le-leb (get_or r 0 0) 1 g)

  pub target_none : (t o : ℕ) → stands r ≡ false → o ≡ pick (stands r) t o
  target_none t o h = rw h

  pub target_some : (t v o : ℕ) → stands r ≡ true → t ≡ v → t ≡ pick (stands r) v o
  target_some t v o h e = rw h e

pub drives_stands : (s : ℕ) (r : List ℕ) → drives s r ≡ (stands r && eqb (get_or r 1 0) s)
drives_stands s [] = refl
drives_stands s (k ∷ []) = refl
drives_stands s (k ∷ t ∷ l) = ap (λ (b : Bool). b && leb k 1 && eqb t s) (sym (le-leb 2 (suc (suc (length l))) (omega arith)))

-- THE LOOP: what is counted and what is left

pub record Tallying (rs left : List (List ℕ)) (table : List ℕ) : Type 0 where
  pub so_far : (i : ℕ) → i < length table → min (get_or table i 0 + count_of (drives i) left) 2 ≡ min (count_of (drives i) rs) 2
  pub small : (i : ℕ) → get_or table i 0 ≤ 2

pub tallying_start : (rs : List (List ℕ)) (n : ℕ) → Tallying rs rs (replicate n 0)
tallying_start rs n = record { so_far = λ i h. ap (λ (k : ℕ). min (k + count_of (drives i) rs) 2) (get_d_zeros n i) ∙ omega arith; small = λ i. let z = get_d_zeros n i in omega arith }

module _ (rs : List (List ℕ)) (r : List ℕ) (left : List (List ℕ)) (table : List ℕ) (t : ℕ) (w : Tallying rs (r ∷ left) table) (e : t ≡ pick (stands r) (get_or r 1 0) (length table)) where
  at_target : (i : ℕ) → i < length table → (b : Bool) → stands r ≡ b → t ≡ pick b (get_or r 1 0) (length table) → Dec (i ≡ t) → min (get_or (set table t (min (get_or table t 0 + 1) 2)) i 0 + count_of (drives i) left) 2 ≡ min (get_or table i 0 + count_of (drives i) (r ∷ left)) 2
  at_target i h false s q p =
      ap (λ (l : List ℕ). min (get_or l i 0 + count_of (drives i) left) 2) (set_out table t (min (get_or table t 0 + 1) 2) (omega arith))
      ∙ sym (ap (λ (b : Bool). min (get_or table i 0 + pick b (suc (count_of (drives i) left)) (count_of (drives i) left)) 2) (drives_stands i r ∙ ap (λ (b : Bool). b && eqb (get_or r 1 0) i) s))
  at_target i h true s q (yes p) =
      let d : drives i r ≡ true = drives_stands i r ∙ ap (λ (b : Bool). b && eqb (get_or r 1 0) i) s ∙ eq-eqb (get_or r 1 0) i (omega arith) in
      let g : get_or (set table t (min (get_or table t 0 + 1) 2)) i 0 ≡ min (get_or table i 0 + 1) 2 = ap (λ (j : ℕ). get_or (set table j (min (get_or table j 0 + 1) 2)) i 0) (sym p) ∙ get_or-set_same table i (min (get_or table i 0 + 1) 2) 0 h in
      ap (λ (k : ℕ). min (k + count_of (drives i) left) 2) g
      ∙ (let z : min (min (get_or table i 0 + 1) 2 + count_of (drives i) left) 2 ≡ min (get_or table i 0 + suc (count_of (drives i) left)) 2 = omega arith in z)
      ∙ sym (ap (λ (b : Bool). min (get_or table i 0 + pick b (suc (count_of (drives i) left)) (count_of (drives i) left)) 2) d)
  at_target i h true s q (no p) =
      let d : drives i r ≡ false = drives_stands i r ∙ ap (λ (b : Bool). b && eqb (get_or r 1 0) i) s ∙ ne_eqb (get_or r 1 0) i (λ z. p (omega arith)) in
      ap (λ (k : ℕ). min (k + count_of (drives i) left) 2) (get_or-set_other table t i (min (get_or table t 0 + 1) 2) 0 p)
      ∙ sym (ap (λ (b : Bool). min (get_or table i 0 + pick b (suc (count_of (drives i) left)) (count_of (drives i) left)) 2) d)

  smaller : (i : ℕ) → Dec (i ≡ t) → get_or (set table t (min (get_or table t 0 + 1) 2)) i 0 ≤ 2
  smaller i (no p) = let z = w.small i in omega (arith, get_or-set_other table t i (min (get_or table t 0 + 1) 2) 0 p)
  smaller i (yes p) = inside (dec_lt t (length table))
    where
      inside : Dec (t < length table) → get_or (set table t (min (get_or table t 0 + 1) 2)) i 0 ≤ 2
      inside (yes q) = omega (arith, ap (λ (j : ℕ). get_or (set table t (min (get_or table t 0 + 1) 2)) j 0) p, get_or-set_same table t (min (get_or table t 0 + 1) 2) 0 q)
      inside (no q) = let z = w.small i in omega (arith, ap (λ (l : List ℕ). get_or l i 0) (set_out table t (min (get_or table t 0 + 1) 2) (omega arith)))

  pub tallying_more : {table' : List ℕ} → table' ≡ set table t (min (get_or table t 0 + 1) 2) → Tallying rs left table'
  tallying_more q = subst (Tallying rs left) (sym q) (record { so_far = λ i h. let k = subst (λ (n : ℕ). i < n) (length-set table t (min (get_or table t 0 + 1) 2)) h in at_target i k (stands r) refl e (ℕ_discrete i t) ∙ w.so_far i k; small = λ i. smaller i (ℕ_discrete i t) })

-- by the record's target, if it has one
module _ {rs : List (List ℕ)} {left : List (List ℕ)} {table : List ℕ} (w : Tallying rs left table) {r : List ℕ} {rest : List (List ℕ)} (q : left ≡ r ∷ rest) where
  pub tallying_some : {t : ℕ} → Some t ≡ pick (stands r) (Some (get_or r 1 0)) None → {table' : List ℕ} → table' ≡ set table t (min (get_or table t 0 + 1) 2) → Tallying rs rest table'
  tallying_some {t} e {table'} h = tallying_more rs r rest table t (subst (λ (l : List (List ℕ)). Tallying rs l table) q w) (go (stands r) e) h
    where
      go : (b : Bool) → Some t ≡ pick b (Some (get_or r 1 0)) None → t ≡ pick b (get_or r 1 0) (length table)
      go true p = cc
      go false p = absurd cc

  pub tallying_none : None ≡ pick (stands r) (Some (get_or r 1 0)) None → Tallying rs rest table
  tallying_none e = tallying_more rs r rest table (length table) (subst (λ (l : List (List ℕ)). Tallying rs l table) q w) (go (stands r) e) (sym (set_out table (length table) _ (omega arith)))
    where
      go : (b : Bool) → None ≡ pick b (Some (get_or r 1 0)) None → length table ≡ pick b (get_or r 1 0) (length table)
      go true p = absurd cc
      go false p = refl

pub tallying_end : {rs left : List (List ℕ)} {table : List ℕ} → Tallying rs left table → left ≡ [] → Tallied rs table
tallying_end {rs} {left} {table} w e = record { tally_at = λ i h. let q = w.so_far i h in let g = ap (λ (l : List (List ℕ)). count_of (drives i) l) e in let z = w.small i in omega arith }
