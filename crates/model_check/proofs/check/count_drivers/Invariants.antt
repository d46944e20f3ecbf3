use Rattle.simulation.specs.Index.{records_in}
use Rattle.recorder.specs.Records.{left}
use Rattle.simulation.proofs.Faults.{Counting}
use Rattle.model_check.proofs.check.count_drivers.Given as goal

abbrev pub invariant-loop-fields : goal.invariant-loop-fields
invariant-loop-fields l = Counting l.n (records_in l.stmts) (left l.fields-iterator) l.k
