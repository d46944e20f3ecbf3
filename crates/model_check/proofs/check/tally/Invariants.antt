use Rattle.simulation.specs.Index.{records_in}
use Rattle.recorder.specs.Records.{left}
use Rattle.simulation.proofs.Tally.{Tallying}
use Rattle.model_check.proofs.check.tally.Given as goal

abbrev pub invariant-loop-fields : goal.invariant-loop-fields
invariant-loop-fields l = Tallying (records_in l.stmts) (left l.fields-iterator) l.table
