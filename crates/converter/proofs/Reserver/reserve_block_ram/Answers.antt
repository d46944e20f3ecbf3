use Rattle.converter.proofs.RamSignals.{ram_err, ram_one, ram_two}
use Rattle.converter.proofs.Reserver.reserve_block_ram.Goals as goal

pub returns-in_err-reserve_vector : goal.returns-in_err-reserve_vector
returns-in_err-reserve_vector c = ram_err c.args.cell c.args.owner c.args.self.now c.word-width.ensures c.from-first.ensures c.in_err-reserve_vector.ensures c.from_residual.result c.from_residual.ensures.1

pub returns-then-word-eq0 : goal.returns-then-word-eq0
returns-then-word-eq0 c = ram_one c.args.cell c.args.owner c.args.self.now c.word-width.ensures c.from-first.ensures c.in_ok-reserve_vector.ensures c.word.ensures c.if-word-eq0.true

pub returns : goal.returns
returns c = ram_two c.args.cell c.args.owner c.args.self.now c.word-width.ensures c.from-first.ensures c.in_ok-reserve_vector.ensures c.word.ensures c.if-word-eq0.false c.second_port.ensures c.from-second.ensures c.reserve_vector-2.ensures
