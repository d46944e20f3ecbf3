use Rattle.std.proofs.Common.{arith}
use Rattle.recorder.proofs.Reading.{record_within}
use Rattle.simulation.proofs.index.fields.Goals as goal

pub overflow_add-result : goal.overflow_add-result
overflow_add-result c = let w = record_within _ _ c.in-Record.ensures in omega (arith, c.well_formed)

pub overflow_add-result-in-Record : goal.overflow_add-result-in-Record
overflow_add-result-in-Record c = let w = record_within _ _ c.in-Record.ensures in omega (arith, c.well_formed)

pub overflow_add-result-in-Record-2 : goal.overflow_add-result-in-Record-2
overflow_add-result-in-Record-2 c = let w = record_within _ _ c.in-Record.ensures in omega (arith, c.well_formed)

pub offset_bounds-list-at : goal.offset_bounds-list-at
offset_bounds-list-at c = let w = record_within _ _ c.in-Record.ensures in omega (arith, c.well_formed)

pub slice_bounds-result-end : goal.slice_bounds-result-end
slice_bounds-result-end c = let w = record_within _ _ c.in-Record.ensures in omega (arith, c.well_formed)
