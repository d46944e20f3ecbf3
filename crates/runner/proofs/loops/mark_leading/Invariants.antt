use Rattle.ordering.specs.Words.{model_with}
use Rattle.ordering.specs.Marks.{Backed, left}
use Rattle.runner.proofs.loops.mark_leading.Given as goal

abbrev pub invariant-loop : goal.invariant-loop
invariant-loop l = Backed (model_with l.m.signals.now l.m.exprs.now l.m.stmts.now) l.s l.marks

abbrev pub decreases-loop : goal.decreases-loop
decreases-loop l = left l.marks l.m.expr_count
