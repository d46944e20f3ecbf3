use Rattle.std.proofs.Common.{◌+◌, ◌≡◌, length}
use Rattle.simulation.specs.Index.{records_in, widths_in}
use Rattle.recorder.specs.Records.{left}
use Rattle.simulation.specs.Fault.{expr_test}
use Rattle.simulation.proofs.Faults.{Seeking}
use Rattle.model_check.proofs.check.expr_fault.Given as goal

abbrev pub invariant-loop-n : goal.invariant-loop-n
invariant-loop-n l =
    (l.n-iterator.count + length (left l.n-iterator.iter) ≡ length (records_in l.exprs.list.now)) × Seeking (expr_test l.widest (widths_in l.signals.list.now) (widths_in l.exprs.list.now)) (records_in l.exprs.list.now) l.n-iterator.count (left l.n-iterator.iter)
