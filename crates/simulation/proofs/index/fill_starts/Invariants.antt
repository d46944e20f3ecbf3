use Rattle.std.proofs.Common.{◌≡◌, length}
use Rattle.simulation.specs.Index.{start_of, start_entry, filling}
use Rattle.simulation.proofs.index.fill_starts.Given as goal

abbrev pub invariant-loop-k : goal.invariant-loop-k
invariant-loop-k l =
    (l.at ≡ start_of l.list (length l.yielded)) × (l.table ≡ filling (start_entry l.list) (length l.yielded) l.initial.table)
