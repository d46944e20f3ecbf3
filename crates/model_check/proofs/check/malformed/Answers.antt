use Rattle.simulation.proofs.Tables.{widths_filled}
use Rattle.model_check.proofs.check.malformed.Goals as goal

pub first_fault-fault-requires : goal.first_fault-fault-requires
first_fault-fault-requires c = (widths_filled _ _ c.fill.ensures, widths_filled _ _ c.fill-2.ensures, c.tally.ensures)
