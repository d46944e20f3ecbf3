use Rattle.converter.proofs.KindLaws.{addressed_read, block_wrote}
use Rattle.converter.proofs.rams.block_ram_cell.Goals as goal

pub returns : goal.returns
returns c =
    block_wrote c.args.emitter.now c.args.cell.words.now c.args.cell.at c.args.parts.now c.args.values.now c.args.owner c.bits.result c.bits-2.result c.bits-second.result c.block_ram_work-work.ensures c.min-p.ensures c.min-v.ensures
    (addressed_read c.args.cell c.second_port.result c.bits.ensures c.bits-2.ensures c.second_port.ensures c.bits-second.ensures)
    c.emit_block_ram.ensures.wrote
