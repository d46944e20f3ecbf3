use Rattle.std.proofs.Common.{◌≡◌, ◌+◌, ◌≤◌, drop, length}
use Rattle.recorder.specs.Lists.{over}
use Rattle.recorder.proofs.list.copy_in.Given as goal

abbrev pub invariant-loop-i : goal.invariant-loop-i
invariant-loop-i l = (l.i ≤ length l.words) × (over l.list (l.at + l.i) (drop l.i l.words) ≡ over l.fn.list l.at l.words)
