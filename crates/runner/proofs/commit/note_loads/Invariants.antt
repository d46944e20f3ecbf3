use Rattle.recorder.specs.Records.{left}
use Rattle.simulation.specs.Run.{fired_of, firing}
use Rattle.evaluation.proofs.Committing.{Noting}
use Rattle.runner.proofs.Turns.{Ahead}
use Rattle.runner.proofs.commit.note_loads.Given as goal

abbrev pub invariant-loop-fields : goal.invariant-loop-fields
invariant-loop-fields l = Noting l.m.signals.now l.m.stmts.now (firing (fired_of l.fired)) l.bytes l.fn.marks l.at l.marks × Ahead l.m.stmts.now l.at (left l.fields-iterator)
