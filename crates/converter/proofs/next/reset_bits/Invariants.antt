use Rattle.converter.specs.Members.{members_left}
use Rattle.converter.proofs.NextBits.{Counting, Loading}
use Rattle.converter.proofs.next.reset_bits.Given as goal

abbrev pub invariant-loop-cell : goal.invariant-loop-cell
invariant-loop-cell l = Counting l.width l.left l.initial.parts l.parts (members_left l.cell-iterator) × Loading (members_left l.members) l.width l.left l.parts (members_left l.cell-iterator)
