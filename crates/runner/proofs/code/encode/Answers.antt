use Rattle.std.proofs.Common.{refl}
use Rattle.coding.proofs.Emitting.{ordered_whole}
use Rattle.runner.proofs.Planning.{planned_whole}
use Rattle.runner.proofs.code.encode.Goals as goal

pub returns-clause-planned : goal.returns-clause-planned
returns-clause-planned c = planned_whole c.args.m.now.signals.now c.args.m.now.exprs.now c.args.m.now.stmts.now c.encode_in.new.order c.encode_in.new.values c.args.m.now.expr_count c.args.m.now.signal_count c.encode_in.result refl c.encode_in.ensures.planned

pub returns-clause-ordered : goal.returns-clause-ordered
returns-clause-ordered c = ordered_whole c.encode_in.new.order c.args.order.now refl c.if-ordered-m.false c.encode_in.ensures.kept c.requires.5 c.encode_in.auto.order c.requires.4
