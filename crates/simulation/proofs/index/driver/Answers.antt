use Rattle.std.proofs.Common.{◌∙◌}
use Rattle.simulation.proofs.Tables.{less_one, driver_said, driver_found}
use Rattle.simulation.proofs.index.driver.Goals as goal

pub returns-in-Some : goal.returns-in-Some
returns-in-Some c = less_one _ _ c.checked_sub.ensures ∙ driver_said _ _ _ _ c.in-Some.ensures

pub returns-in-None : goal.returns-in-None
returns-in-None c = c.walk_driver.ensures ∙ driver_found _ _ _ c.in-None.ensures
