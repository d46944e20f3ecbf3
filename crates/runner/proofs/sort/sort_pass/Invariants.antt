use Rattle.ordering.specs.Words.{model_in}
use Rattle.ordering.proofs.Sorted.{Passing}
use Rattle.runner.proofs.sort.sort_pass.Given as goal

abbrev pub invariant-loop-e : goal.invariant-loop-e
invariant-loop-e l = Passing (model_in l.m.exprs.now l.m.stmts.now) l.m.expr_count l.k l.initial.marks l.initial.order l.marks l.order l.count l.e
