use Rattle.ordering.specs.Words.{model_with}
use Rattle.ordering.proofs.Touching.{Touching}
use Rattle.runner.proofs.loops.touch_pass.Given as goal

abbrev pub invariant-loop-e : goal.invariant-loop-e
invariant-loop-e l = Touching (model_with l.m.signals.now l.m.exprs.now l.m.stmts.now) l.m.expr_count l.s l.initial.marks l.marks l.any l.e
