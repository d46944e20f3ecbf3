use Rattle.std.proofs.Common.{◌+◌, ◌≡◌, length}
use Rattle.simulation.specs.Index.{records_in}
use Rattle.recorder.specs.Records.{left}
use Rattle.simulation.specs.Fault.{signal_test}
use Rattle.simulation.proofs.Faults.{Seeking}
use Rattle.model_check.proofs.check.signal_fault.Given as goal

abbrev pub invariant-loop-n : goal.invariant-loop-n
invariant-loop-n l =
    (l.n-iterator.count + length (left l.n-iterator.iter) ≡ length (records_in l.m.signals.now)) × Seeking (signal_test l.widest (records_in l.m.stmts.now)) (records_in l.m.signals.now) l.n-iterator.count (left l.n-iterator.iter)
