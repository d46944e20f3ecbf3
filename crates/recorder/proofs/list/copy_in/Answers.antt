use Rattle.recorder.proofs.Room.{copy_start, copy_step, copy_end}
use Rattle.std.proofs.Common.{arith, sym, ◌∙◌}
use Rattle.recorder.proofs.list.copy_in.Goals as goal

pub loop-i-init : goal.loop-i-init
loop-i-init c = (omega arith, copy_start _ _ _)

pub loop-i-preserved : goal.loop-i-preserved
loop-i-preserved c = (omega (arith, c.loop-i-test.true), copy_step _ _ c.args.words.now c.loop-i.i c.loop-i-test.true ∙ c.loop-i.invariant.1)

pub returns : goal.returns
returns c = sym (copy_end _ _ c.args.words.now c.loop-i.i (omega (arith, c.loop-i-test.false))) ∙ c.loop-i.invariant.1
