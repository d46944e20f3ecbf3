use Rattle.std.proofs.Common.{ap, not}
use Rattle.evaluation.proofs.Settling.{settles_none, settles_more}
use Rattle.runner.proofs.settling.settle_one.Goals as goal

pub adds_one-requires : goal.adds_one-requires
adds_one-requires c = c.requires.1

pub returns-then-not-adds_one : goal.returns-then-not-adds_one
returns-then-not-adds_one c = settles_none c.adds_one.ensures (ap not c.if-not-adds_one.true)

pub returns : goal.returns
returns c = settles_more c.adds_one.ensures (ap not c.if-not-adds_one.false) c.eval_expr.ensures
