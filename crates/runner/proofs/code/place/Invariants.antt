use Rattle.coding.specs.Emitting.{Places}
use Rattle.runner.proofs.code.place.Given as goal

abbrev pub invariant-loop-p : goal.invariant-loop-p
invariant-loop-p l = Places l.from l.p l.initial.values l.values
