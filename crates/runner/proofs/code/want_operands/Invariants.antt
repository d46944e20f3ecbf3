use Rattle.coding.specs.Emitting.{Unplaced}
use Rattle.runner.proofs.code.want_operands.Given as goal

abbrev pub invariant-loop-o : goal.invariant-loop-o
invariant-loop-o l = Unplaced l.values
