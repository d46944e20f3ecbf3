use Rattle.std.proofs.Common.{◌≡◌, length}
use Rattle.simulation.specs.Index.{start_of}
use Rattle.simulation.proofs.index.walk_start.Given as goal

abbrev pub invariant-loop-fields : goal.invariant-loop-fields
invariant-loop-fields l = l.at ≡ start_of l.list (length l.yielded)
