use Rattle.recorder.specs.Records.{left}
use Rattle.runner.proofs.Showing.{Ending}
use Rattle.runner.proofs.Turns.{Ahead}
use Rattle.runner.proofs.show.ports_end.Given as goal

abbrev pub invariant-loop-fields : goal.invariant-loop-fields
invariant-loop-fields l = Ending l.signals l.at l.end × Ahead l.signals l.at (left l.fields-iterator)
