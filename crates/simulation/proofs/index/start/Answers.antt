use Rattle.std.proofs.Common.{◌∙◌}
use Rattle.simulation.proofs.Tables.{start_said, start_found}
use Rattle.simulation.proofs.index.start.Goals as goal

pub returns-in-Some : goal.returns-in-Some
returns-in-Some c = c.wide.ensures ∙ start_said _ _ _ _ c.in-Some.ensures

pub returns-in-None : goal.returns-in-None
returns-in-None c = c.walk_start.ensures ∙ start_found _ _ _ c.in-None.ensures
