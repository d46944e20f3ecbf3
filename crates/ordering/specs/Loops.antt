-- What the search for a loop says.
use Rattle.std.specs.Prelude.{ℕ, ◌<◌, ◌≡◌, Bool, true, false, List, set}
use Rattle.std.specs.Prelude.{Option, None, Some}
use Rattle.bits.specs.Bits.{pick}
use Rattle.recorder.specs.Record.{Model}
use Rattle.settle.specs.Walk.{Way}
use Rattle.settle.specs.Loop.{Reads}
use Rattle.simulation.specs.Tick.{depends}
use Rattle.ordering.specs.Marks.{marked, touched, Backed, Full, left}

-- expression e leads to signal s, and is not marked yet
abbrev pub finds : Model → ℕ → List ℕ → ℕ → Bool
finds m s marks e = pick (marked marks e) false (touched m marks s e)

pub record Touch (m : Model) (s : ℕ) (marks : List ℕ) (e : ℕ) (r : Bool) (marks' : List ℕ) : Type 0 where
  pub found : r ≡ finds m s marks e
  pub marks_are : marks' ≡ pick r (set marks e 1) marks

-- a pass: fewer are left, or none can be added
pub record Touches (m : Model) (n s : ℕ) (marks : List ℕ) (r : Bool) (marks' : List ℕ) : Type 0 where
  pub backed : Backed m s marks'
  pub fewer : r ≡ true → left marks' n < left marks n
  pub full : r ≡ false → Full m s marks'

pub record Found (m : Model) (s : ℕ) (marks : List ℕ) : Type 0 where
  pub backed : Backed m s marks
  pub full : Full m s marks

pub record OnLoop (m : Model) (s : ℕ) (r : Bool) : Type 0 where
  pub is : r ≡ true → Way (Reads (depends m)) s s
  pub not : r ≡ false → Way (Reads (depends m)) s s → ⊥
