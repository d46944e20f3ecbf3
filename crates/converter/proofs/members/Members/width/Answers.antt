use Rattle.std.proofs.Common.{arith, refl, inl}
use Rattle.std.proofs.lemmas.Iterator.Consumers.{YieldsList-from_first, count_from_yields_List}
use Rattle.converter.specs.Members.{member_of, members_left}
use Rattle.converter.proofs.Walking.{members_few}
use Rattle.converter.proofs.members.Members.width.Goals as goal

pub overflow_cast-result : goal.overflow_cast-result
overflow_cast-result c = omega (arith, members_few c.args.self, count_from_yields_List c.args.self c.count.result c.count.ensures.ran (YieldsList-from_first member_of members_left (members_left c.args.self) refl))

pub returns : goal.returns
returns c = count_from_yields_List c.args.self c.count.result c.count.ensures.ran (YieldsList-from_first member_of members_left (members_left c.args.self) refl)

pub count-requires-clause-fits : goal.count-requires-clause-fits
count-requires-clause-fits c = inl (omega (arith, members_few c.args.self))
