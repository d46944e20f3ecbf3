use Rattle.wires.specs.Wires.{wires_in}
use Rattle.converter.specs.Members.{members_left}
use Rattle.converter.proofs.NextBits.{Counting, Nexting}
use Rattle.converter.proofs.next.next_value.Given as goal

abbrev pub invariant-loop-cell : goal.invariant-loop-cell
invariant-loop-cell l =
    Counting l.width l.left l.initial.parts l.parts (members_left l.cell-iterator)
    × Nexting (wires_in l.map) (members_left l.members) l.width l.initial.recorder l.recorder l.left l.parts (members_left l.cell-iterator)
