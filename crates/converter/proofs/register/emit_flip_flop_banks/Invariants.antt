use Rattle.converter.proofs.Registers.{EmitsLoop}
use Rattle.converter.proofs.register.emit_flip_flop_banks.Given as goal

abbrev pub invariant-loop-b : goal.invariant-loop-b
invariant-loop-b l = EmitsLoop l.banks l.map l.initial.parts l.initial.recorder l.recorder l.parts l.b
