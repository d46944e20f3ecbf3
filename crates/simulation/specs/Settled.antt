-- A settled state: every assigned signal has its expression's value, and the others are as before.
use Rattle.std.specs.Prelude.{ℕ, ◌<◌, ◌≡◌, List, [], length, get_or}
use Rattle.bits.specs.Bits.{Bits}
use Rattle.recorder.specs.Record.{Model}
use Rattle.recorder.specs.Evaluate.{Signals, eval_all}
use Rattle.settle.specs.Table.{at}
use Rattle.simulation.specs.Tick.{given, assigns, become}

-- what signal s takes when the signals hold v: its expression's value, or, where it has none, what it had
abbrev pub driven : Model → List Bits → ℕ → Signals → Bits
driven m old s v = become (eval_all v [] m.exprs) (given assigns m.stmts s) (get_or old s [])

abbrev pub IsSettled : Model → List Bits → List Bits → Type 0
IsSettled m old t = (s : ℕ) → s < length m.signals → driven m old s (at [] t) ≡ at [] t s
