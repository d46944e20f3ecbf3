use Rattle.recorder.specs.Records.{left}
use Rattle.simulation.proofs.Driving.{Noting}
use Rattle.simulation.proofs.index.fill_drivers.Given as goal

abbrev pub invariant-loop-fields : goal.invariant-loop-fields
invariant-loop-fields l = Noting l.stmts (left l.fields-iterator) l.table
