use Rattle.std.proofs.Common.{◌+◌}
use Rattle.clocking.proofs.Each.{clocks_each, doing_start, doing_step, doing_err, doing_end, wire_there, wire_some, wires_all}
use Rattle.clocking.proofs.pll.assign_clocks.Goals as goal

pub loop-i-init : goal.loop-i-init
loop-i-init c = doing_start (clocks_each _ _ _ _ _)

pub returns-in_err-assign_clock : goal.returns-in_err-assign_clock
returns-in_err-assign_clock c = doing_err c.loop-i.invariant (wire_some c.args.fields.words.now (c.args.fields.at + 6) c.args.n c.loop-i.i c.loop-i-test.true) (wire_there c.args.fields c.from-clocks.result 6 c.args.n c.loop-i.i c.from-clocks.ensures c.loop-i-test.true c.word.ensures) _ c.from_residual.result _ c.from_residual.ensures.1 c.in_err-assign_clock.ensures

pub loop-i-preserved : goal.loop-i-preserved
loop-i-preserved c = doing_step c.loop-i.invariant (wire_some c.args.fields.words.now (c.args.fields.at + 6) c.args.n c.loop-i.i c.loop-i-test.true) (wire_there c.args.fields c.from-clocks.result 6 c.args.n c.loop-i.i c.from-clocks.ensures c.loop-i-test.true c.word.ensures) c.in_ok-assign_clock.ensures

pub returns : goal.returns
returns c = doing_end c.loop-i.invariant (wires_all c.args.fields.words.now (c.args.fields.at + 6) c.args.n c.loop-i.i c.loop-i-test.false)
