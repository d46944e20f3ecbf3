-- What a pass, and all passes, do to the marks and the order.
use Rattle.std.specs.Prelude.{ℕ, ◌+◌, ◌≤◌, ◌≡◌, List, set}
use Rattle.bits.specs.Bits.{pick}
use Rattle.recorder.specs.Record.{Model}
use Rattle.ordering.specs.Marks.{Stuck, adds, Sorting}

-- one expression: marked and noted, or nothing
pub record Step (m : Model) (marks order : List ℕ) (k e r : ℕ) (marks' order' : List ℕ) : Type 0 where
  pub count : r ≡ pick (adds m marks e) (k + 1) k
  pub marks_are : marks' ≡ pick (adds m marks e) (set marks e 1) marks
  pub order_is : order' ≡ pick (adds m marks e) (set order k e) order

-- k were marked, r are now; if none was added, none can be
pub record Sorts (m : Model) (n k r : ℕ) (marks order : List ℕ) : Type 0 where
  pub grows : k ≤ r
  pub sorting : Sorting m n marks order r
  pub done : r ≡ k → Stuck m marks

-- in the end
pub record SortsAll (m : Model) (n r : ℕ) (marks order : List ℕ) : Type 0 where
  pub sorted : Sorting m n marks order r
  pub stuck : Stuck m marks
