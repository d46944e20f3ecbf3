use Rattle.coding.specs.Emitting.{Unplaced}
use Rattle.runner.proofs.code.want_loads.Given as goal

abbrev pub invariant-loop-j : goal.invariant-loop-j
invariant-loop-j l = Unplaced l.values
