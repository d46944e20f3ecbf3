use Rattle.recorder.specs.Records.{left}
use Rattle.runner.proofs.Showing.{Summing}
use Rattle.runner.proofs.show.output_total.Given as goal

abbrev pub invariant-loop-fields : goal.invariant-loop-fields
invariant-loop-fields l = Summing l.signals (left l.fields-iterator) l.sum
