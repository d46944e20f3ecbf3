use Rattle.std.proofs.Common.{◌≤◌}
use Rattle.runner.proofs.sort.guess_order.Given as goal

abbrev pub invariant-loop : goal.invariant-loop
invariant-loop l = (l.walk.root ≤ l.m.expr_count) × (l.walk.depth ≤ l.m.expr_count) × (l.walk.count ≤ l.m.expr_count)
