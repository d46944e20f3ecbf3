use Rattle.std.proofs.Common.{◌≡◌, ◌-◌}
use Rattle.converter.specs.Members.{members_left}
use Rattle.converter.proofs.members.MembersIterator.next.Given as goal

abbrev pub invariant-loop-self : goal.invariant-loop-self
invariant-loop-self l = members_left l.self ≡ members_left l.initial.self

abbrev pub decreases-loop-self : goal.decreases-loop-self
decreases-loop-self l = l.self.end - l.self.cell.number
