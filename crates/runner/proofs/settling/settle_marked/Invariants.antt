use Rattle.ordering.specs.Marks.{left}
use Rattle.evaluation.proofs.Settling.{Passed}
use Rattle.runner.proofs.settling.settle_marked.Given as goal

abbrev pub invariant-loop : goal.invariant-loop
invariant-loop l = Passed l.m.signals.now l.m.exprs.now l.m.stmts.now l.bytes l.fn.values l.initial.marks l.values l.marks

abbrev pub decreases-loop : goal.decreases-loop
decreases-loop l = left l.marks l.m.expr_count
