use Rattle.std.proofs.Common.{◌∙◌}
use Rattle.simulation.proofs.Tables.{offset_said, offset_found}
use Rattle.simulation.proofs.index.offset.Goals as goal

pub returns-in-Some : goal.returns-in-Some
returns-in-Some c = c.wide.ensures ∙ offset_said _ _ _ _ c.in-Some.ensures

pub returns-in-None : goal.returns-in-None
returns-in-None c = c.sum_to.ensures ∙ offset_found _ _ _ c.in-None.ensures
