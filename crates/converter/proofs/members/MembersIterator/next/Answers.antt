use Rattle.std.proofs.Common.{sym, ◌∙◌}
use Rattle.converter.proofs.Walking.{member_here, member_other, member_less, members_end}
use Rattle.converter.proofs.members.MembersIterator.next.Goals as goal

pub returns-then-word-self-clause-steps : goal.returns-then-word-self-clause-steps
returns-then-word-self-clause-steps c = sym c.loop-self.invariant ∙ member_here c.loop-self.self c.loop-self-test.true c.cell_size.ensures c.from.ensures c.word.ensures c.if-word-self.true

pub returns-then-word-self-clause-goes : goal.returns-then-word-self-clause-goes
returns-then-word-self-clause-goes c = let h = member_less c.loop-self.self c.loop-self-test.true c.cell_size.ensures c.from.ensures c.loop-self.invariant c.word.ensures c.if-word-self.true in record { on = λ f. (tt, tt, h); keeps = tt; rests = λ f. tt }

pub loop-self-preserved : goal.loop-self-preserved
loop-self-preserved c = sym (member_other c.loop-self.self c.loop-self-test.true c.cell_size.ensures c.from.ensures c.word.ensures c.if-word-self.false) ∙ c.loop-self.invariant

pub returns-clause-steps : goal.returns-clause-steps
returns-clause-steps c = (sym c.loop-self.invariant ∙ members_end c.loop-self.self c.loop-self-test.false, members_end c.loop-self.self c.loop-self-test.false)
