use Rattle.std.proofs.Common.{◌≡◌, ◌+◌, length, min}
use Rattle.simulation.specs.Index.{offset, widths_in, filling, offset_entry}
use Rattle.simulation.proofs.index.fill_offsets.Given as goal

abbrev pub invariant-loop-k : goal.invariant-loop-k
invariant-loop-k l =
    (l.sum ≡ min (offset (widths_in l.list) (length l.yielded)) 18446744073709551615) × (l.table ≡ filling (offset_entry l.list) (length l.yielded + 1) l.fn.table)
