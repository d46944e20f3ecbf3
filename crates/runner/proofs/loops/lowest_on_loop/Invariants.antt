use Rattle.std.proofs.Common.{◌≤◌}
use Rattle.ordering.specs.Words.{model_with}
use Rattle.ordering.proofs.Touching.{Unlooped}
use Rattle.runner.proofs.loops.lowest_on_loop.Given as goal

abbrev pub invariant-loop-s : goal.invariant-loop-s
invariant-loop-s l = Unlooped (model_with l.m.signals.now l.m.exprs.now l.m.stmts.now) l.s × (l.s ≤ l.m.signal_count)
