use Rattle.std.proofs.Common.{◌+◌}
use Rattle.clocking.proofs.Each.{assign_each, doing_start, doing_step, doing_err, doing_end, wire_there, wire_some, wires_all}
use Rattle.clocking.proofs.jtagg.assign_all.Goals as goal

pub loop-i-init : goal.loop-i-init
loop-i-init c = doing_start (assign_each _ _ _)

pub returns-in_err-assign_wire : goal.returns-in_err-assign_wire
returns-in_err-assign_wire c = doing_err c.loop-i.invariant (wire_some c.args.fields.words.now (c.args.fields.at + c.args.offset) c.args.n c.loop-i.i c.loop-i-test.true) (wire_there c.args.fields c.from-wires.result c.args.offset c.args.n c.loop-i.i c.from-wires.ensures c.loop-i-test.true c.word.ensures) _ c.from_residual.result _ c.from_residual.ensures.1 c.in_err-assign_wire.ensures

pub loop-i-preserved : goal.loop-i-preserved
loop-i-preserved c = doing_step c.loop-i.invariant (wire_some c.args.fields.words.now (c.args.fields.at + c.args.offset) c.args.n c.loop-i.i c.loop-i-test.true) (wire_there c.args.fields c.from-wires.result c.args.offset c.args.n c.loop-i.i c.from-wires.ensures c.loop-i-test.true c.word.ensures) c.in_ok-assign_wire.ensures

pub returns : goal.returns
returns c = doing_end c.loop-i.invariant (wires_all c.args.fields.words.now (c.args.fields.at + c.args.offset) c.args.n c.loop-i.i c.loop-i-test.false)
