use Rattle.std.proofs.Common.{refl}
use Rattle.evaluation.proofs.Settling.{passing_step, passing_end}
use Rattle.runner.proofs.Models.{prepared_of}
use Rattle.runner.proofs.settling.settle_pass.Goals as goal

pub loop-e-preserved : goal.loop-e-preserved
loop-e-preserved c = passing_step (prepared_of c.args.m.now) c.args.m.now.expr_counted c.requires.1 c.loop-e.invariant c.loop-e-test.true c.settle_one-added.ensures c.settle_one-added.auto.values refl

pub returns : goal.returns
returns c = passing_end (prepared_of c.args.m.now) c.args.m.now.expr_counted c.loop-e.invariant c.loop-e-test.false
