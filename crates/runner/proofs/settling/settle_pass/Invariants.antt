use Rattle.evaluation.proofs.Settling.{Passing}
use Rattle.runner.proofs.settling.settle_pass.Given as goal

abbrev pub invariant-loop-e : goal.invariant-loop-e
invariant-loop-e l = Passing l.m.signals.now l.m.exprs.now l.m.stmts.now l.m.expr_count l.bytes l.fn.values l.fn.marks l.values l.marks l.any l.e
