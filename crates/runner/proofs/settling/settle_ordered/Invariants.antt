use Rattle.evaluation.proofs.Settling.{Along}
use Rattle.runner.proofs.settling.settle_ordered.Given as goal

abbrev pub invariant-loop-j : goal.invariant-loop-j
invariant-loop-j l = Along l.m.signals.now l.m.exprs.now l.m.stmts.now l.m.expr_count l.order l.bytes l.fn.values l.values l.j
