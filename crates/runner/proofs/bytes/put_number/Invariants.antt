use Rattle.std.proofs.Common.{◌≡◌, ◌+◌, ◌-◌, ◌≤◌, map}
use Rattle.bits.specs.Bits.{digit, binary}
use Rattle.recorder.specs.Lists.{over}
use Rattle.runner.proofs.bytes.put_number.Given as goal

abbrev pub invariant-loop-i : goal.invariant-loop-i
invariant-loop-i l = (l.i ≤ l.n) × (over l.bytes (l.at + l.i) (map digit (binary (l.n - l.i) l.x)) ≡ over l.fn.bytes l.at (map digit (binary l.n l.v)))
