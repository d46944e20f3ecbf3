use Rattle.coding.specs.Emitting.{Unplaced}
use Rattle.runner.proofs.code.want_needed.Given as goal

abbrev pub invariant-loop-i : goal.invariant-loop-i
invariant-loop-i l = Unplaced l.values
