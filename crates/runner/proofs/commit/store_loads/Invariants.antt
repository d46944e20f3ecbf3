use Rattle.recorder.specs.Records.{left}
use Rattle.evaluation.proofs.Committing.{Loading}
use Rattle.runner.proofs.Turns.{Ahead}
use Rattle.runner.proofs.commit.store_loads.Given as goal

abbrev pub invariant-loop-fields : goal.invariant-loop-fields
invariant-loop-fields l = Loading l.m.signals.now l.m.exprs.now l.m.stmts.now l.values l.marks l.fn.bytes l.at l.bytes × Ahead l.m.stmts.now l.at (left l.fields-iterator)
