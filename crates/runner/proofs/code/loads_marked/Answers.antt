use Rattle.runner.proofs.Planning.{loads_end}
use Rattle.runner.proofs.code.loads_marked.Goals as goal

pub returns : goal.returns
returns c = λ _ r. loads_end c.loop-j.invariant c.loop-j-test.false r
