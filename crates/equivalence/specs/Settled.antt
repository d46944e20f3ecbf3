-- A settled state of a model, and the tick that commits it.
use Rattle.std.specs.Prelude.{List, []}
use Rattle.bits.specs.Bits.{Bits}
use Rattle.settle.specs.Table.{at}
use Rattle.recorder.specs.Record.{Model}
use Rattle.simulation.specs.Tick.{Firing, commit}
use Rattle.simulation.specs.Settled.{IsSettled}
use Rattle.meaning.specs.Settles.{Tick}

-- every assignment holds in it, the other signals are as before, and these edges fire
pub record Settling (M : Model) : Type 0 where
  pub old : List Bits
  pub state : List Bits
  pub settled : IsSettled M old state
  pub fires : Firing

abbrev pub tick_of : (M : Model) → Settling M → Tick
tick_of M k = record { before = at [] k.state; next = at [] (commit M k.fires k.state); fires = k.fires; stmts = M.stmts }
