use Rattle.std.proofs.Common.{◌≡◌, length}
use Rattle.wires.specs.Wires.{wires_in}
use Rattle.wires.specs.Once.{seen_in}
use Rattle.wires.specs.Expressions.{vector_once}
use Rattle.wires.proofs.Vectors.{Doing}
use Rattle.address_mux.specs.Address.{at_most}
use Rattle.address_mux.proofs.address.address_once.Given as goal

abbrev pub invariant-loop-i : goal.invariant-loop-i
invariant-loop-i g l =
    (length l.part-items ≡ l.end)
    × Doing (wires_in l.fn.emitter.map) l.bits l.shift (at_most 33 l.width (vector_once (wires_in l.fn.emitter.map) (seen_in l.fn.emitter) l.bits l.shift l.width)) l.end l.fn.emitter l.emitter l.i l.part-items
