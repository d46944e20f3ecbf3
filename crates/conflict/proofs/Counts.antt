-- The steps of the three loops, and of what they call. Assumes nothing.
use Prim.Native.Nat.{ℕ, suc, ◌+◌, ◌*◌, ◌≤◌, ◌<◌}
use mathlib.Core.Path.{◌≡◌, refl, sym, ◌∙◌, ap, ap₂}
use mathlib.Core.Bool.{Bool, true, false}
use mathlib.Core.List.{List, [], ◌∷◌, ◌++◌, append_assoc}
use Rattle.std.specs.Prelude.{None, Some}
use native.Mathlib.Nat.{add-zero}
use native.Mathlib.Numerals.{add-one}
use native.Mathlib.Omega.{arith}
use lib.Dec.{ltb}
use lib.ListN.{length, get_or, set, take, drop, length-drop, take-append-drop}
use lib.Seq.{drop-cons, take-set-le, drop-set-lt, drop-set-add, take-add}
use borrow.Author.Tests.{lt-ltb, le-ltb}
use Rattle.bits.specs.Bits.{pick}
use Rattle.conflict.specs.Counting.{raised, tally, exceeds, lowest_from, restored}

-- THE STATEMENTS

-- one statement of what is left to count
pub tally_turn : (s : List ℕ) {s' : List ℕ} {xs ys : List (List ℕ)} {r : List ℕ} {i t : ℕ} → xs ≡ r ∷ ys → s' ≡ raised s i → i ≡ 4 * t → t ≡ get_or r 1 0 → tally s' ys ≡ tally s xs
unfolding tally
tally_turn s {ys = ys} e p q r = ap (λ (x : List ℕ). tally x ys) (p ∙ ap (raised s) (q ∙ ap (λ (k : ℕ). 4 * k) r)) ∙ sym (ap (tally s) e)

-- none is left
pub tally_out : {s : List ℕ} {xs : List (List ℕ)} → xs ≡ [] → tally s xs ≡ s
unfolding tally
tally_out {s} e = ap (tally s) e

-- FOUR WORDS

four_at : (s : List ℕ) (at : ℕ) → at + 4 ≤ length s → drop at s ≡ get_or s at 0 ∷ get_or s (at + 1) 0 ∷ get_or s (at + 2) 0 ∷ get_or s (at + 3) 0 ∷ drop (at + 4) s
four_at s at h =
    let a : suc at ≡ at + 1 = omega arith in
    let b : suc (at + 1) ≡ at + 2 = omega arith in
    let c : suc (at + 2) ≡ at + 3 = omega arith in
    let d : suc (at + 3) ≡ at + 4 = omega arith in
    drop-cons s at 0 (omega arith)
    ∙ ap (λ (k : ℕ). get_or s at 0 ∷ drop k s) a
    ∙ ap (λ (l : List ℕ). get_or s at 0 ∷ l) (drop-cons s (at + 1) 0 (omega arith) ∙ ap (λ (k : ℕ). get_or s (at + 1) 0 ∷ drop k s) b)
    ∙ ap (λ (l : List ℕ). get_or s at 0 ∷ get_or s (at + 1) 0 ∷ l) (drop-cons s (at + 2) 0 (omega arith) ∙ ap (λ (k : ℕ). get_or s (at + 2) 0 ∷ drop k s) c)
    ∙ ap (λ (l : List ℕ). get_or s at 0 ∷ get_or s (at + 1) 0 ∷ get_or s (at + 2) 0 ∷ l) (drop-cons s (at + 3) 0 (omega arith) ∙ ap (λ (k : ℕ). get_or s (at + 3) 0 ∷ drop k s) d)

-- THE LOWEST

few_none : (i : ℕ) (l : List ℕ) → length l < 4 → lowest_from i l ≡ None
unfolding lowest_from
few_none i [] h = refl
few_none i (a ∷ []) h = refl
few_none i (a ∷ b ∷ []) h = refl
few_none i (a ∷ b ∷ c ∷ []) h = refl
few_none i (a ∷ b ∷ c ∷ d ∷ l) h = absurd (omega arith)

pub lowest_end : (s : List ℕ) (i at : ℕ) → length s < at + 4 → None ≡ lowest_from i (drop at s)
lowest_end s i at h = sym (few_none i (drop at s) (omega (arith, length-drop at s)))

module _ (s : List ℕ) (i at n : ℕ) (h : at + 4 ≤ length s) (e : n ≡ get_or s at 0) where
  lowest_at : lowest_from i (drop at s) ≡ pick (ltb n 4) None (pick (exceeds n (get_or s (at + 1) 0)) (Some i) (lowest_from (i + 1) (drop (at + 4) s)))
  unfolding lowest_from
  lowest_at =
      ap (lowest_from i) (four_at s at h)
      ∙ ap₂ (λ (k j : ℕ). pick (ltb k 4) None (pick (exceeds k (get_or s (at + 1) 0)) (Some i) (lowest_from j (drop (at + 4) s)))) (sym e) (sym (add-one i))

  pub lowest_few : n < 4 → None ≡ lowest_from i (drop at s)
  lowest_few q = sym (lowest_at ∙ ap (λ (b : Bool). pick b None (pick (exceeds n (get_or s (at + 1) 0)) (Some i) (lowest_from (i + 1) (drop (at + 4) s)))) (lt-ltb n 4 q))

  past : 4 ≤ n → lowest_from i (drop at s) ≡ pick (exceeds n (get_or s (at + 1) 0)) (Some i) (lowest_from (i + 1) (drop (at + 4) s))
  past q = lowest_at ∙ ap (λ (b : Bool). pick b None (pick (exceeds n (get_or s (at + 1) 0)) (Some i) (lowest_from (i + 1) (drop (at + 4) s)))) (le-ltb n 4 q)

  pub lowest_here : 4 ≤ n → exceeds n (get_or s (at + 1) 0) ≡ true → Some i ≡ lowest_from i (drop at s)
  lowest_here q t = sym (past q ∙ ap (λ (b : Bool). pick b (Some i) (lowest_from (i + 1) (drop (at + 4) s))) t)

  pub lowest_next : 4 ≤ n → exceeds n (get_or s (at + 1) 0) ≡ false → lowest_from (i + 1) (drop (at + 4) s) ≡ lowest_from i (drop at s)
  lowest_next q t = sym (past q ∙ ap (λ (b : Bool). pick b (Some i) (lowest_from (i + 1) (drop (at + 4) s))) t)

-- BACK TO 4: what stands before an index, and the rest restored

abbrev pub restoring : List ℕ → ℕ → List ℕ
restoring s at = take at s ++ restored (drop at s)

few_same : (l : List ℕ) → length l < 4 → restored l ≡ l
unfolding restored
few_same [] h = refl
few_same (a ∷ []) h = refl
few_same (a ∷ b ∷ []) h = refl
few_same (a ∷ b ∷ c ∷ []) h = refl
few_same (a ∷ b ∷ c ∷ d ∷ l) h = absurd (omega arith)

pub restore_end : (s : List ℕ) (at : ℕ) → length s < at + 4 → restoring s at ≡ s
restore_end s at h = ap (λ (l : List ℕ). take at s ++ l) (few_same (drop at s) (omega (arith, length-drop at s))) ∙ take-append-drop at s

module _ (s : List ℕ) (at : ℕ) (h : at + 4 ≤ length s) where
  abbrev three : List ℕ → List ℕ
  three l = get_or s (at + 1) 0 ∷ get_or s (at + 2) 0 ∷ get_or s (at + 3) 0 ∷ l

  restored_at : restored (drop at s) ≡ pick (ltb (get_or s at 0) 4) (get_or s at 0 ∷ three (drop (at + 4) s)) (4 ∷ three (restored (drop (at + 4) s)))
  unfolding restored
  restored_at = ap restored (four_at s at h)

  pub restore_stop : get_or s at 0 < 4 → restoring s at ≡ s
  restore_stop q =
      ap (λ (l : List ℕ). take at s ++ l)
      (restored_at ∙ ap (λ (b : Bool). pick b (get_or s at 0 ∷ three (drop (at + 4) s)) (4 ∷ three (restored (drop (at + 4) s)))) (lt-ltb (get_or s at 0) 4 q) ∙ sym (four_at s at h))
      ∙ take-append-drop at s

  took : take (at + 4) (set s at 4) ≡ take at s ++ (4 ∷ three [])
  took =
      take-add at 4 (set s at 4)
      ∙ ap₂ (λ (a b : List ℕ). a ++ take 4 b) (take-set-le at s at 4 (omega arith))
      (ap (λ (k : ℕ). drop at (set s k 4)) (sym (add-zero at)) ∙ drop-set-add at s 0 4 ∙ ap (λ (l : List ℕ). set l 0 4) (four_at s at h))

  pub restore_step : 4 ≤ get_or s at 0 → restoring (set s at 4) (at + 4) ≡ restoring s at
  restore_step q =
      ap₂ (λ (a b : List ℕ). a ++ restored b) took (drop-set-lt (at + 4) s at 4 (omega arith))
      ∙ append_assoc (take at s) (4 ∷ three []) (restored (drop (at + 4) s))
      ∙ ap (λ (l : List ℕ). take at s ++ l) (sym (restored_at ∙ ap (λ (b : Bool). pick b (get_or s at 0 ∷ three (drop (at + 4) s)) (4 ∷ three (restored (drop (at + 4) s)))) (le-ltb (get_or s at 0) 4 q)))
