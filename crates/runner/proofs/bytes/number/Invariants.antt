use Rattle.std.proofs.Common.{◌≡◌, drop, map}
use Rattle.bits.specs.Bits as bits
use Rattle.evaluation.specs.Bytes.{part}
use Rattle.simulation.specs.Run.{is_one}
use Rattle.runner.proofs.bytes.number.Given as goal

abbrev pub invariant-loop-i : goal.invariant-loop-i
invariant-loop-i l = l.n ≡ bits.number (drop l.i (map is_one (part l.bytes l.at 36)))
