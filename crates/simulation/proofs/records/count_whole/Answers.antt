use Rattle.std.proofs.Common.{arith, ap, length}
use Rattle.recorder.specs.Read.{Cut}
use Rattle.recorder.proofs.Left.{records_count}
use Rattle.simulation.proofs.records.count_whole.Goals as goal

pub overflow_add-n : goal.overflow_add-n
overflow_add-n c = omega (arith, ap (λ (s : Cut). length s.records) c.in-Some.ensures, records_count c.args.list.now, c.well_formed)
