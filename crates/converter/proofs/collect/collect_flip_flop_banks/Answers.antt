use Rattle.std.proofs.Common.{arith, refl}
use Rattle.converter.proofs.Collecting.{gathers_start, gathers_step, gathers_end}
use Rattle.converter.proofs.collect.collect_flip_flop_banks.Goals as goal

pub loop-i-init : goal.loop-i-init
loop-i-init c = gathers_start c.args.cells c.args.n c.args.numbers.now c.args.parts.now c.args.values.now

pub loop-i-preserved : goal.loop-i-preserved
loop-i-preserved c = gathers_step c.args.cells.words.now c.args.cells.at c.args.n c.args.numbers.now c.args.parts.now c.args.values.now c.loop-i.invariant c.loop-i.auto.numbers c.loop-i.auto.parts c.loop-i.auto.values c.loop-i-test.true (omega arith) c.join_bank-bank.ensures refl c.store.ensures c.larger-count.ensures c.cell_size.ensures c.from-cell.ensures

pub returns : goal.returns
returns c = gathers_end c.args.cells.words.now c.args.cells.at c.args.n c.args.numbers.now c.args.parts.now c.args.values.now c.loop-i.invariant (omega arith) (omega arith)
