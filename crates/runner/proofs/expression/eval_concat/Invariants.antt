use Rattle.evaluation.proofs.Joining.{Joining}
use Rattle.runner.proofs.expression.eval_concat.Given as goal

abbrev pub invariant-loop-i : goal.invariant-loop-i
invariant-loop-i l = Joining l.m.exprs.now l.e l.fn.values l.values l.i l.pos
