use Rattle.simulation.proofs.Tables.{offset_right}
use Rattle.runner.proofs.tables.CheckedModel.expr_offset.Goals as goal

pub returns : goal.returns
returns c = offset_right _ _ _ c.offset.ensures c.args.self.now.expr_offsets c.requires.0 c.requires.1
