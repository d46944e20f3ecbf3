use Rattle.std.proofs.Common.{◌∙◌}
use Rattle.evaluation.proofs.InBytes.{copied_one}
use Rattle.runner.proofs.Copies.{within_over}
use Rattle.runner.proofs.bytes.copy_within.Goals as goal

pub returns-then-n-eq1 : goal.returns-then-n-eq1
returns-then-n-eq1 c = copied_one _ _ _ _ _ c.if-n-eq1.true c.requires.1

pub returns : goal.returns
returns c = c.copy_within.ensures.after ∙ within_over _ _ _ _ c.requires.0 c.requires.1
