use Rattle.std.proofs.Common.{◌*◌, ◌≡◌}
use Rattle.conflict.specs.Counting.{restored}
use Rattle.conflict.proofs.Counts.{restoring}
use Rattle.conflict.proofs.restore.Given as goal

abbrev pub invariant-loop-i : goal.invariant-loop-i
invariant-loop-i l = restoring l.signals (4 * l.i) ≡ restored l.initial.signals
