use Rattle.std.proofs.Common.{length}
use Rattle.simulation.specs.Index.{records_in}
use Rattle.simulation.proofs.Walking.{Counting}
use Rattle.simulation.proofs.records.count_whole.Given as goal

abbrev pub invariant-loop-rest : goal.invariant-loop-rest
invariant-loop-rest l = Counting l.list l.n l.left

abbrev pub decreases-loop-rest : goal.decreases-loop-rest
decreases-loop-rest l = length (records_in l.left)
