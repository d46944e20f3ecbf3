use Rattle.std.proofs.Common.{drop, ◌*◌, ◌≡◌}
use Rattle.conflict.specs.Counting.{lowest_from}
use Rattle.conflict.proofs.lowest.Given as goal

abbrev pub invariant-loop-i : goal.invariant-loop-i
invariant-loop-i l = lowest_from l.i (drop (4 * l.i) l.signals) ≡ lowest_from 0 l.signals
