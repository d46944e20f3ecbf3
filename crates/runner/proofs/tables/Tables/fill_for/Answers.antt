use Rattle.simulation.proofs.Tables.{starts_filled, offsets_filled, drivers_filled}
use Rattle.runner.proofs.tables.Tables.fill_for.Goals as goal

pub returns-clause-filled : goal.returns-clause-filled
returns-clause-filled c = record {
  started = starts_filled _ _ c.fill_starts.ensures;
  expr_offsets = offsets_filled _ _ c.fill_offsets.ensures;
  signal_offsets = offsets_filled _ _ c.fill_offsets-2.ensures;
  driven = drivers_filled _ _ c.fill_drivers.ensures;
}
