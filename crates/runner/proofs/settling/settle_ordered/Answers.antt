use Rattle.evaluation.proofs.Settling.{along_step, along_skip, along_end}
use Rattle.runner.proofs.Models.{prepared_of}
use Rattle.runner.proofs.settling.settle_ordered.Goals.{then-e-m, else-e-m}
use Rattle.runner.proofs.settling.settle_ordered.Goals as goal

pub loop-j-preserved : goal.loop-j-preserved
loop-j-preserved c =
    elim c.if-e-m.branch [
      | then-e-m w ↦ along_step (prepared_of c.args.m.now) c.args.m.now.expr_counted c.requires.1 c.requires.2 c.loop-j.invariant c.loop-j-test.true c.wide-e.ensures w.if-e-m.true w.eval_expr.ensures w.eval_expr.auto.values w.values-is
      | else-e-m w ↦ along_skip (prepared_of c.args.m.now) c.args.m.now.expr_counted c.requires.1 c.requires.2 c.loop-j.invariant c.loop-j-test.true c.wide-e.ensures w.if-e-m.false w.values-is
    ]

pub returns : goal.returns
returns c = along_end (prepared_of c.args.m.now) c.args.m.now.expr_counted c.requires.1 c.requires.2 c.loop-j.invariant c.loop-j-test.false
