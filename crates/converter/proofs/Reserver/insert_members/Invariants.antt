use Rattle.converter.specs.Members.{members_left}
use Rattle.converter.proofs.Inserting.{Inserting}
use Rattle.converter.proofs.Reserver.insert_members.Given as goal

abbrev pub invariant-loop-cell : goal.invariant-loop-cell
invariant-loop-cell l = Inserting (members_left l.members) l.signal.0 l.width l.fn.self l.self l.lsb (members_left l.cell-iterator)
