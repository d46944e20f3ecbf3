use Rattle.std.proofs.Common.{◌-◌}
use Rattle.ordering.specs.Words.{model_in}
use Rattle.ordering.proofs.Sorted.{SortingOn}
use Rattle.runner.proofs.sort.sort.Given as goal

abbrev pub invariant-loop-k : goal.invariant-loop-k
invariant-loop-k l = SortingOn (model_in l.m.exprs.now l.m.stmts.now) l.m.expr_count l.initial.marks l.initial.order l.marks l.order l.k

abbrev pub decreases-loop-k : goal.decreases-loop-k
decreases-loop-k l = l.m.expr_count - l.k
