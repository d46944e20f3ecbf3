use Rattle.std.proofs.Common.{◌≡◌, length}
use Rattle.netlist.specs.Fields.{bits_at}
use Rattle.wires.specs.Wires.{wires_in}
use Rattle.wires.specs.Once.{seen_in}
use Rattle.wires.specs.Expressions.{vector_once}
use Rattle.wires.proofs.Vectors.{Doing}
use Rattle.wires.proofs.Emitter.vector_once.Given as goal

abbrev pub invariant-loop-i : goal.invariant-loop-i
invariant-loop-i l =
    (length l.part-items ≡ l.end)
    × Doing (wires_in l.fn.self.map) (bits_at l.fields.words.now l.fields.at l.n) 0 (vector_once (wires_in l.fn.self.map) (seen_in l.fn.self) (bits_at l.fields.words.now l.fields.at l.n) 0 l.end) l.end l.fn.self l.self l.i l.part-items
