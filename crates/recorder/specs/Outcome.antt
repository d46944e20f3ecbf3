-- How a call that starts with lists of zeros ends, and what it leaves there.
use Rattle.std.specs.Prelude.{ℕ, ◌≡◌}
use Rattle.recorder.specs.Writer.{model_of, Count, End.ok, End.no, Out}
use Rattle.recorder.specs.Lists.{Lists, Answer, Answer.Done, Answer.Failed}
use Rattle.recorder.specs.Words.{holding_all, tapes_of, Fit, Filled}

-- every number is the first
abbrev pub none_yet : Count
none_yet = record { signals = 0; exprs = 0; stmts = 0 }

-- all records fit, and lie in the lists with zeros behind them, whether the writer ends well or refuses; or a list is full
pub data Ended {A : Type 0} (a b c : ℕ) (o : Out A) : Answer A → Lists → Type 0 where
  done : {x : A} → Fit a b c (model_of o.events) → o.end ≡ ok x → Ended a b c o (Done x (tapes_of (model_of o.events))) (holding_all a b c (model_of o.events))
  refused : {number place : ℕ} → Fit a b c (model_of o.events) → o.end ≡ no number place → Ended a b c o (Failed number place) (holding_all a b c (model_of o.events))
  filled : {i : ℕ} {l : Lists} → Filled a b c o.events i l → Ended a b c o (Failed 2 i) l
