-- What a writer writes from a count on: its result and its events.
use Rattle.std.specs.Prelude.{List}
use Rattle.recorder.specs.Writer.{Event, Count, Writer}
use Rattle.recorder.specs.Meaning.{Ends}

-- unless it refuses, its result and its events are as P says
pub record Writes {A : Type 0} (n : Count) (w : Writer A) (P : A → List Event → Type 0) : Type 0 where
  pub writes : Ends (w n).end (λ a. P a (w n).events)
