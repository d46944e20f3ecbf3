-- Tests of all or one of some words, word by word.
use Prim.Native.Nat.{ℕ, zero, suc, ◌+◌, ◌≤◌, ◌<◌}
use mathlib.Core.Path.{◌≡◌, refl, sym, ◌∙◌, ap}
use mathlib.Core.Bool.{Bool, true, false, ◌&&◌, ◌||◌, not}
use mathlib.Core.List.{List, [], ◌∷◌}
use native.Mathlib.Omega.{arith}
use native.Mathlib.Nat.{not-suc-le-zero}
use lib.ListN.{length, get_or, take, drop, length-drop, drop_of_length-le}
use lib.Seq.{get_or-drop, length-take-le, get_or-take}
use Rattle.settle.specs.Tests.{all, any}

drop_next : (w : List ℕ) (i : ℕ) → i < length w → drop i w ≡ get_or w i 0 ∷ drop (i + 1) w
drop_next [] i h = absurd (not-suc-le-zero h)
drop_next (a ∷ w) zero h = refl
drop_next (a ∷ w) (suc i) h = let z : suc (i + 1) ≡ suc i + 1 = omega arith in drop_next w i (omega arith) ∙ ap (λ (k : ℕ). get_or w i 0 ∷ drop k (a ∷ w)) z

module _ (p : ℕ → Bool) (l : List ℕ) (at n : ℕ) where
  abbrev part : List ℕ
  part = take n (drop at l)

  -- the first i passed; the first i failed
  pub record Passed (i : ℕ) : Type 0 where
    pub some : i ≤ n
    pub rest : all p (take n (drop at l)) ≡ all p (drop i (take n (drop at l)))

  pub record Failed (i : ℕ) : Type 0 where
    pub some : i ≤ n
    pub rest : any p (take n (drop at l)) ≡ any p (drop i (take n (drop at l)))

  pub passed_none : Passed 0
  passed_none = record { some = omega arith; rest = refl }

  pub failed_none : Failed 0
  failed_none = record { some = omega arith; rest = refl }

  module _ (h : at + n ≤ length l) where
    part_length : length part ≡ n
    part_length = length-take-le n (drop at l) (omega (arith, length-drop at l, h))

    part_at : (i : ℕ) → i < n → get_or part i 0 ≡ get_or l (at + i) 0
    part_at i q = get_or-take n (drop at l) i 0 q ∙ get_or-drop at l i 0

    next : (i : ℕ) → i < n → drop i part ≡ get_or l (at + i) 0 ∷ drop (i + 1) part
    next i q = drop_next part i (omega (arith, part_length, q)) ∙ ap (λ (a : ℕ). a ∷ drop (i + 1) part) (part_at i q)

    over : (i : ℕ) → n ≤ i → drop i part ≡ []
    over i q = let z : length part ≤ i = omega (arith, part_length, q) in drop_of_length-le part z

    pub passed_more : {i e : ℕ} {b : Bool} → Passed i → i < n → e ≡ get_or l (at + i) 0 → b ≡ p e → not b ≡ false → Passed (i + 1)
    passed_more {i} {e} {b} s q u v t =
        record { some = omega arith; rest = s.rest ∙ ap (all p) (next i q) ∙ ap (λ (c : Bool). c && all p (drop (i + 1) part)) (sym (ap p u) ∙ sym v ∙ yes b t) }
      where
        yes : (c : Bool) → not c ≡ false → c ≡ true
        yes true z = refl
        yes false z = sym z

    pub passed_stop : {i e : ℕ} {b : Bool} → Passed i → i < n → e ≡ get_or l (at + i) 0 → b ≡ p e → not b ≡ true → false ≡ all p (take n (drop at l))
    passed_stop {i} {e} {b} s q u v t = sym (s.rest ∙ ap (all p) (next i q) ∙ ap (λ (c : Bool). c && all p (drop (i + 1) part)) (sym (ap p u) ∙ sym v ∙ no b t))
      where
        no : (c : Bool) → not c ≡ true → c ≡ false
        no true z = sym z
        no false z = refl

    pub passed_all : {i : ℕ} → Passed i → n ≤ i → true ≡ all p (take n (drop at l))
    passed_all {i} s q = sym (s.rest ∙ ap (all p) (over i q))

    pub failed_more : {i e : ℕ} {b : Bool} → Failed i → i < n → e ≡ get_or l (at + i) 0 → b ≡ p e → b ≡ false → Failed (i + 1)
    failed_more {i} s q u v t = record { some = omega arith; rest = s.rest ∙ ap (any p) (next i q) ∙ ap (λ (c : Bool). c || any p (drop (i + 1) part)) (sym (ap p u) ∙ sym v ∙ t) }

    pub failed_stop : {i e : ℕ} {b : Bool} → Failed i → i < n → e ≡ get_or l (at + i) 0 → b ≡ p e → b ≡ true → true ≡ any p (take n (drop at l))
    failed_stop {i} s q u v t = sym (s.rest ∙ ap (any p) (next i q) ∙ ap (λ (c : Bool). c || any p (drop (i + 1) part)) (sym (ap p u) ∙ sym v ∙ t))

    pub failed_all : {i : ℕ} → Failed i → n ≤ i → false ≡ any p (take n (drop at l))
    failed_all {i} s q = sym (s.rest ∙ ap (any p) (over i q))
