-- Laws of what stands at an index: from the tests of the code, and to the split of the list.
-- Assumes nothing.
use Prim.Native.Nat.{ℕ, zero, suc, ◌+◌, ◌-◌, ◌≤◌, ◌<◌}
use mathlib.Core.Path.{◌≡◌, refl, sym, ◌∙◌, ap}
use mathlib.Core.Bool.{Bool, true, false}
use mathlib.Core.List.{List, [], ◌∷◌}
use native.Mathlib.Omega.{arith}
use lib.Dec.{leb}
use lib.ListN.{length, get_or, take, drop, length-drop, drop_of_length-le}
use lib.Seq.{drop-cons, drop-drop, get_or-take, get_or-drop}
use borrow.Author.Tests.{le-leb, lt-leb, leb-true, leb-false}
use Rattle.bits.specs.Bits.{pick}
use Rattle.recorder.specs.declared.Cut.{Cut}
use Rattle.recorder.specs.declared.Cut.TheVariants.{Record, End, Broken}
use Rattle.recorder.specs.Read as read
use Rattle.recorder.specs.Standing.{standing, cut_at, split_by}
use Rattle.recorder.proofs.Roundtrip.{split_nil, split_zero, split_record, split_short}

-- FROM THE TESTS

module _ (ws : List ℕ) (at : ℕ) where
  pub cut_end : length ws ≤ at → End ≡ cut_at ws at
  unfolding cut_at
  cut_end h = sym (ap standing (drop_of_length-le ws h))

  -- a word stands there
  from_word : {n : ℕ} → at < length ws → n ≡ get_or ws at 0 → cut_at ws at ≡ standing (n ∷ drop (suc at) ws)
  unfolding cut_at
  from_word h e = ap standing (drop-cons ws at 0 h) ∙ ap (λ (k : ℕ). standing (k ∷ drop (suc at) ws)) (sym e)

  pub cut_zero : {n : ℕ} → at < length ws → n ≡ get_or ws at 0 → n ≡ 0 → Broken ≡ cut_at ws at
  cut_zero h e z = sym (from_word h e ∙ ap (λ (k : ℕ). standing (k ∷ drop (suc at) ws)) z)

  sized_word : (n : ℕ) → at < length ws → n ≡ get_or ws at 0 → (n ≡ 0 → ⊥) → cut_at ws at ≡ pick (leb (n - 1) (length ws - suc at)) (Record (n - 1)) Broken
  sized_word zero h e z = absurd (z refl)
  sized_word (suc n) h e z =
      let k : n ≡ suc n - 1 = omega arith in
      from_word h e ∙ ap (λ (j : ℕ). pick (leb n j) (Record n) Broken) (length-drop (suc at) ws)
      ∙ ap (λ (i : ℕ). pick (leb i (length ws - suc at)) (Record i) Broken) k

  pub cut_short : (n : ℕ) → at < length ws → n ≡ get_or ws at 0 → (n ≡ 0 → ⊥) → length ws - at < n → Broken ≡ cut_at ws at
  cut_short n h e z g =
      let t : length ws - suc at < n - 1 = omega arith in
      sym (sized_word n h e z ∙ ap (λ (b : Bool). pick b (Record (n - 1)) Broken) (lt-leb _ _ t))

  pub cut_whole : (n : ℕ) → at < length ws → n ≡ get_or ws at 0 → (n ≡ 0 → ⊥) → n ≤ length ws - at → Record (n - 1) ≡ cut_at ws at
  cut_whole n h e z g =
      let t : n - 1 ≤ length ws - suc at = omega arith in
      sym (sized_word n h e z ∙ ap (λ (b : Bool). pick b (Record (n - 1)) Broken) (le-leb _ _ t))

-- TO THE SPLIT

-- what is left of a list splits by what stands at its start
split_by_lem : (ws l : List ℕ) (at : ℕ) → drop at ws ≡ l → read.split l ≡ split_by ws at (standing l)
split_by_lem ws [] at e = split_nil
split_by_lem ws (zero ∷ l) at e = split_zero l
split_by_lem ws (suc n ∷ l) at e = go (leb n (length l)) refl
  where
    rest : drop (at + 1) ws ≡ l
    rest = sym (drop-drop 1 at ws) ∙ ap (drop 1) e

    further : drop (at + 1 + n) ws ≡ drop n l
    further = sym (drop-drop n (at + 1) ws) ∙ ap (drop n) rest

    go : (b : Bool) → leb n (length l) ≡ b → read.split (suc n ∷ l) ≡ split_by ws at (pick b (Record n) Broken)
    go true q = split_record n l (leb-true _ _ q) ∙ sym (λ i. read.before (take n (rest i)) (read.split (further i)))
    go false q = split_short n l (omega (arith, leb-false n (length l) q))

-- one step of a loop over the records
pub split_at : (ws : List ℕ) (at : ℕ) → read.split (drop at ws) ≡ split_by ws at (cut_at ws at)
unfolding cut_at
split_at ws at = split_by_lem ws (drop at ws) at refl

pub split_as : (ws : List ℕ) (at : ℕ) {c : Cut} → c ≡ cut_at ws at → read.split (drop at ws) ≡ split_by ws at c
split_as ws at e = split_at ws at ∙ ap (split_by ws at) (sym e)

-- a record ends within the list
pub record_within : (ws : List ℕ) (at : ℕ) {n : ℕ} → Record n ≡ cut_at ws at → at + 1 + n ≤ length ws
unfolding cut_at
record_within ws at {n} e = go (drop at ws) (length-drop at ws) e
  where
    in_it : (m : ℕ) (l : List ℕ) (b : Bool) → leb m (length l) ≡ b → Record n ≡ pick b (Record m) Broken → n ≤ length l
    in_it m l true q p = let z : n ≡ m = cc in omega (arith, leb-true m (length l) q)
    in_it m l false q p = let z : ◌≡◌ {A = ℕ} 0 1 = cc in absurd (omega arith)

    go : (l : List ℕ) → length l ≡ length ws - at → Record n ≡ standing l → at + 1 + n ≤ length ws
    go [] h p = let z : ◌≡◌ {A = ℕ} 0 1 = cc in absurd (omega arith)
    go (zero ∷ l) h p = let z : ◌≡◌ {A = ℕ} 0 1 = cc in absurd (omega arith)
    go (suc m ∷ l) h p = omega (arith, h, in_it m l (leb m (length l)) refl p)

-- its fields are the words behind its length
pub field_at : (ws : List ℕ) (at n k : ℕ) → k < n → get_or (take n (drop (at + 1) ws)) k 0 ≡ get_or ws (at + 1 + k) 0
field_at ws at n k h = get_or-take n (drop (at + 1) ws) k 0 h ∙ get_or-drop (at + 1) ws k 0
