use Rattle.simulation.specs.Model.{lists_of}
use Rattle.runner.proofs.Running.{Running}
use Rattle.runner.proofs.refused.refuse_ticks.Given as goal

abbrev pub invariant-loop-i : goal.invariant-loop-i
invariant-loop-i l = Running (lists_of l.m) l.list.heads.now l.list.bits.now l.bytes l.bytes l.initial.answers l.answers l.initial.shown l.shown l.at l.pos l.to l.i
