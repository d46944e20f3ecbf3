use Rattle.std.proofs.Common.{◌≡◌, drop}
use Rattle.simulation.specs.Run.{no_bit}
use Rattle.model_check.proofs.call.no_bit.Given as goal

abbrev pub invariant-loop-i : goal.invariant-loop-i
invariant-loop-i l = no_bit l.i (drop l.i l.bytes) ≡ no_bit 0 l.bytes
