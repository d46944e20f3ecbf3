use Rattle.std.proofs.Common.{arith, sym, ◌∙◌, refl}
use Rattle.evaluation.proofs.InBytes.{bits_step, bits_end}
use Rattle.runner.proofs.bytes.put_number.Goals as goal

pub loop-i-preserved : goal.loop-i-preserved
loop-i-preserved c = (omega arith, bits_step c.loop-i.bytes c.args.at c.args.n c.loop-i.i c.loop-i.x _ c.loop-i-test.true refl ∙ c.loop-i.invariant.1)

pub returns : goal.returns
returns c = sym (bits_end c.loop-i.bytes c.args.at c.args.n c.loop-i.i c.loop-i.x c.loop-i-test.false) ∙ c.loop-i.invariant.1
