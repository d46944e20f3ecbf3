use Rattle.ordering.specs.Words.{model_in}
use Rattle.ordering.proofs.Sorted.{SortingOn}
use Rattle.runner.proofs.sort.sort_along.Given as goal

abbrev pub invariant-loop-j : goal.invariant-loop-j
invariant-loop-j l = SortingOn (model_in l.m.exprs.now l.m.stmts.now) l.m.expr_count l.initial.marks l.initial.order l.marks l.order l.k
