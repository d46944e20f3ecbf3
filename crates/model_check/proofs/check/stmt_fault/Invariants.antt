use Rattle.std.proofs.Common.{◌+◌, ◌≡◌, length, ℕ}
use Rattle.simulation.specs.Index.{records_in, widths_in}
use Rattle.recorder.specs.Records.{left}
use Rattle.simulation.specs.Fault.{stmt_test}
use Rattle.simulation.proofs.Faults.{Seeking}
use Rattle.model_check.proofs.check.stmt_fault.Given as goal

abbrev pub invariant-loop-n : goal.invariant-loop-n
invariant-loop-n l =
    (l.n-iterator.count + length (left l.n-iterator.iter) ≡ length (records_in l.stmts)) × Seeking (λ (n : ℕ) r. stmt_test (widths_in l.signals.list.now) (widths_in l.exprs.list.now) r) (records_in l.stmts) l.n-iterator.count (left l.n-iterator.iter)
