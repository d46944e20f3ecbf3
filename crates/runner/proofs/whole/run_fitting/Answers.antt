use Rattle.std.proofs.Common.{refl}
use Rattle.std.specs.Prelude.{Ok, Err}
use Rattle.runner.proofs.WholeList.{shown_room, stopped_byte, unrefused}
use Rattle.runner.proofs.whole.run_fitting.Goals as goal

pub refuse_ticks-requires : goal.refuse_ticks-requires
refuse_ticks-requires c = let w = c.requires in (w.well_formed, w.bytes_enough, w.answers_enough, shown_room w, stopped_byte w _ c.byte_fault-stopped.result (Err c.in-Err.x) (Ok tt) c.byte_fault-stopped.ensures c.in-Err.is refl refl)

pub run_unrefused-requires : goal.run_unrefused-requires
run_unrefused-requires c = unrefused c.requires c.byte_fault-stopped.ensures c.in-Ok.is refl
