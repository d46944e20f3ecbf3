-- A pass along a guess, expression by expression.
use Prim.Native.Nat.{ℕ, ◌+◌, ◌≤◌, ◌<◌}
use mathlib.Core.Path.{◌≡◌, refl, sym, subst}
use mathlib.Core.Bool.{Bool, true, false}
use mathlib.Core.List.{List}
use lib.ListN.{length, set}
use Rattle.bits.specs.Bits.{pick}
use Rattle.recorder.specs.Record.{Model}
use Rattle.ordering.specs.Marks.{adds, Sorting}
use Rattle.ordering.specs.Sorts.{Step}
use Rattle.ordering.proofs.Sorted.{sorting_more}

pub sorting_step : {m : Model} {n : ℕ} {marks order marks' order' : List ℕ} {k e r : ℕ} → Sorting m n marks order k → e < n → n ≤ length marks → Step m marks order k e r marks' order' → Sorting m n marks' order' r
sorting_step {m} {n} {marks} {order} {marks'} {order'} {k} {e} {r} s h l t = go (adds m marks e) refl t.count t.marks_are t.order_is
  where
    moved : {i : ℕ} {u v : List ℕ} → r ≡ i → marks' ≡ u → order' ≡ v → Sorting m n u v i → Sorting m n marks' order' r
    moved {i} {u} {v} a c d z = subst (λ (j : ℕ). Sorting m n marks' order' j) (sym a) (subst (λ (w : List ℕ). Sorting m n w order' i) (sym c) (subst (λ (w : List ℕ). Sorting m n u w i) (sym d) z))

    go : (b : Bool) → adds m marks e ≡ b → r ≡ pick b (k + 1) k → marks' ≡ pick b (set marks e 1) marks → order' ≡ pick b (set order k e) order → Sorting m n marks' order' r
    go true q a c d = moved a c d (sorting_more m n marks order k e h l q s)
    go false q a c d = moved a c d s
