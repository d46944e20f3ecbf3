use Rattle.converter.proofs.KindLaws.{distributed_refused, distributed_wrote}
use Rattle.converter.proofs.rams.distributed_ram_cell.Goals as goal

pub returns-then-word-eq1 : goal.returns-then-word-eq1
returns-then-word-eq1 c = distributed_refused c.args.emitter.now c.args.cell.words.now c.args.cell.at c.args.owner c.word.ensures c.if-word-eq1.true

pub returns : goal.returns
returns c = distributed_wrote c.args.emitter.now c.args.cell.words.now c.args.cell.at c.args.owner c.word.ensures c.if-word-eq1.false c.bits.ensures c.bits-2.ensures c.emit_distributed_ram.ensures
