use Rattle.simulation.proofs.Tables.{start_right}
use Rattle.runner.proofs.tables.CheckedModel.start.Goals as goal

pub returns : goal.returns
returns c = start_right _ _ _ c.start.ensures c.args.self.now.started c.requires
