use Rattle.std.proofs.Common.{◌≡◌, min, length}
use Rattle.simulation.specs.Index.{offset, widths_in}
use Rattle.simulation.proofs.index.sum_to.Given as goal

abbrev pub invariant-loop-fields : goal.invariant-loop-fields
invariant-loop-fields l = l.sum ≡ min (offset (widths_in l.list) (length l.yielded)) 18446744073709551615
