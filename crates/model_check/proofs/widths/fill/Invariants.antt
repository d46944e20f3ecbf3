use Rattle.std.proofs.Common.{◌≡◌, length}
use Rattle.simulation.specs.Index.{filling, width_entry}
use Rattle.model_check.proofs.widths.fill.Given as goal

abbrev pub invariant-loop-k : goal.invariant-loop-k
invariant-loop-k l = l.table ≡ filling (width_entry l.list) (length l.yielded) l.initial.table
