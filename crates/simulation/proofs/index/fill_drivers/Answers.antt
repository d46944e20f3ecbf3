use Rattle.std.proofs.Common.{arith}
use Rattle.simulation.proofs.Driving.{noting_end}
use Rattle.simulation.proofs.Tables.{drivers_are}
use Rattle.simulation.proofs.index.fill_drivers.Goals as goal

pub returns : goal.returns
returns c = drivers_are _ _ (noting_end c.loop-fields.invariant c.in-None.ensures.steps.0) (omega arith)
