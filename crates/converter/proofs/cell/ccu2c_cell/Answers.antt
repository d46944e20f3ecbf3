use Rattle.converter.proofs.KindLaws.{kind_ccu2c}
use Rattle.converter.proofs.cell.ccu2c_cell.Goals as goal

pub returns : goal.returns
returns c = kind_ccu2c c.args.emitter.now c.args.cell.words.now c.args.cell.at c.ccu2c-f.result c.ccu2c-f.ensures c.ccu2c_inputs.ensures c.truth_table.ensures c.truth_table-2.ensures c.emit_ccu2c.ensures
