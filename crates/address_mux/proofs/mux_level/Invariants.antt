use Rattle.std.proofs.Common.{◌≤◌, length, []}
use Rattle.address_mux.specs.AddressMux.{mux_level}
use Rattle.address_mux.specs.Candidates.{candidates_in, SameWorks}
use Rattle.address_mux.proofs.Levels.{Levelling}
use Rattle.address_mux.proofs.mux_level.Given as goal

abbrev pub invariant-loop-at : goal.invariant-loop-at
invariant-loop-at l =
    (l.n ≤ length l.works.parts.now) × (l.n ≤ length l.works.values.now) × SameWorks l.fn.works l.works
    × Levelling l.width l.n (mux_level l.width (candidates_in l.fn.works l.n) []) l.fn.recorder l.recorder l.works l.at
