use Rattle.std.proofs.Common.{arith}
use Rattle.recorder.proofs.Left.{records_count}
use Rattle.evaluation.proofs.Storing.{one_less, one_room, one_stored}
use Rattle.runner.proofs.store.store.Goals as goal

pub overflow_add-d : goal.overflow_add-d
overflow_add-d c = omega (arith, c.requires.2, records_count c.args.m.now.exprs.now, c.well_formed)

pub overflow_sub-end : goal.overflow_sub-end
overflow_sub-end c = one_less c.requires.0 c.requires.1 c.requires.2 c.requires.3 c.signal_offset-to.ensures c.expr_offset-from.ensures c.expr_offset-end.ensures

pub copy-requires : goal.copy-requires
copy-requires c = one_room c.requires.0 c.requires.1 c.requires.2 c.requires.3 c.signal_offset-to.ensures c.expr_offset-from.ensures c.expr_offset-end.ensures

pub returns : goal.returns
returns c = one_stored c.requires.0 c.requires.1 c.requires.2 c.requires.3 c.signal_offset-to.ensures c.expr_offset-from.ensures c.expr_offset-end.ensures c.copy.ensures
