use Rattle.recorder.specs.Calls.{label_of}
use Rattle.converter.proofs.Rows.{AbsentLoop}
use Rattle.converter.proofs.Reserver.reserve_absent.Given as goal

abbrev pub invariant-loop-i : goal.invariant-loop-i
invariant-loop-i l = AbsentLoop l.fields.words.now (label_of l.label) l.owner l.fields.at l.n l.fn.self l.self l.i
