use Rattle.std.proofs.Common.{refl, sym, ◌∙◌}
use Rattle.conflict.proofs.Counts.{tally_turn, tally_out}
use Rattle.conflict.proofs.count_statements.Goals as goal

pub loop-fields-preserved : goal.loop-fields-preserved
loop-fields-preserved c = tally_turn _ c.in-Some.ensures.steps c.raise.ensures refl c.word.ensures ∙ c.loop-fields.invariant

pub returns : goal.returns
returns c = sym (tally_out c.in-None.ensures.steps.0) ∙ c.loop-fields.invariant
