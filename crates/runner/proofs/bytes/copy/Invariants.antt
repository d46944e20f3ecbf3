use Rattle.std.proofs.Common.{◌≡◌, ◌+◌, ◌≤◌, drop}
use Rattle.evaluation.specs.Bytes.{part}
use Rattle.recorder.specs.Lists.{over}
use Rattle.runner.proofs.bytes.copy.Given as goal

abbrev pub invariant-loop-i : goal.invariant-loop-i
invariant-loop-i l = (l.i ≤ l.n) × (over l.to (l.at + l.i) (drop l.i (part l.from l.start l.n)) ≡ over l.fn.to l.at (part l.from l.start l.n))
