use Rattle.recorder.specs.Records.{left}
use Rattle.simulation.proofs.Driving.{Driving}
use Rattle.simulation.proofs.index.walk_driver.Given as goal

abbrev pub invariant-loop-fields : goal.invariant-loop-fields
invariant-loop-fields l = Driving l.stmts (left l.fields-iterator) l.s
