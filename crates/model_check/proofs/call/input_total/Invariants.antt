use Rattle.simulation.specs.Index.{records_in}
use Rattle.recorder.specs.Records.{left}
use Rattle.simulation.proofs.Calls.{Summing}
use Rattle.model_check.proofs.call.input_total.Given as goal

abbrev pub invariant-loop-fields : goal.invariant-loop-fields
invariant-loop-fields l = Summing (records_in l.signals) (left l.fields-iterator) l.sum
