use Rattle.std.proofs.Common.{arith}
use Rattle.runner.proofs.WholeList.{sum_named}
use Rattle.runner.proofs.whole.list_fault.Goals as goal

pub shown_lengths-requires : goal.shown_lengths-requires
shown_lengths-requires c = (c.requires, sum_named c.args.m.signals.now c.args.m.exprs.now c.args.bytes.now c.args.works.now.bits.now c.args.works.now.exprs.now c.args.works.now.signals.now c.in_ok-lengths.ensures (omega (arith, c.well_formed)))
