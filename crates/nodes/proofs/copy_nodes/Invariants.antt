use Rattle.std.proofs.Common.{◌≡◌, map, take}
use Rattle.address_mux.specs.Candidates.{node_of, candidates_in, SameWorks}
use Rattle.nodes.proofs.copy_nodes.Given as goal

abbrev pub invariant-loop-i : goal.invariant-loop-i
invariant-loop-i l = SameWorks l.fn.works l.works × (candidates_in l.works l.i ≡ map node_of (take l.i l.nodes))
