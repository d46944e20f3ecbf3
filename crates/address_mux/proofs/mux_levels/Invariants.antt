use Rattle.std.proofs.Common.{◌≤◌, length}
use Rattle.wires.specs.Expressions.{roomy}
use Rattle.address_mux.specs.AddressMux.{balanced_address_mux}
use Rattle.address_mux.specs.Candidates.{candidates_in, SameWorks}
use Rattle.address_mux.proofs.Levels.{Muxing}
use Rattle.address_mux.proofs.mux_levels.Given as goal

abbrev pub invariant-loop-left : goal.invariant-loop-left
invariant-loop-left l =
    (l.left ≤ l.n) × (l.n ≤ length l.works.parts.now) × (l.n ≤ length l.works.values.now) × SameWorks l.fn.works l.works
    × Muxing l.width l.zero.0 (roomy l.n l.fn.works.parts.now (roomy l.n l.fn.works.values.now (balanced_address_mux l.width (candidates_in l.fn.works l.n) l.zero.0))) l.fn.recorder l.recorder l.works l.left

abbrev pub decreases-loop-left : goal.decreases-loop-left
decreases-loop-left l = l.left
