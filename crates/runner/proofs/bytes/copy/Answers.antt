use Rattle.std.proofs.Common.{arith, refl}
use Rattle.evaluation.proofs.InBytes.{copied_one, copied_step, copied_end}
use Rattle.runner.proofs.bytes.copy.Goals as goal

pub returns-then-n-eq1 : goal.returns-then-n-eq1
returns-then-n-eq1 c = copied_one _ _ _ _ _ c.if-n-eq1.true c.requires.1

pub loop-i-preserved : goal.loop-i-preserved
loop-i-preserved c = (omega arith, copied_step _ c.args.start c.args.n c.requires.1 c.loop-i.to _ c.args.at c.loop-i.i _ c.loop-i-test.true refl c.loop-i.invariant.1)

pub returns : goal.returns
returns c = copied_end _ c.args.start c.args.n c.requires.1 c.loop-i.to _ c.args.at c.loop-i.i c.loop-i-test.false c.loop-i.invariant.1
