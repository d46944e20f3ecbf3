use Rattle.simulation.proofs.Tables.{driver_right}
use Rattle.runner.proofs.tables.CheckedModel.driver.Goals as goal

pub returns : goal.returns
returns c = driver_right _ _ _ c.driver.ensures c.args.self.now.driven
