use Rattle.std.proofs.Common.{arith}
use Rattle.netlist.specs.Fields.{word_at}
use Rattle.netlist.specs.Shape.{FitsWire}
use Rattle.recorder.specs.Calls.{label_of}
use Rattle.converter.proofs.Reserving.{loop_step, loop_err, loop_end}
use Rattle.converter.proofs.Rows.{absent_start, row_is, row_fits}
use Rattle.converter.proofs.Reserver.reserve_absent.Goals as goal

pub loop-i-init : goal.loop-i-init
loop-i-init c = absent_start c.args.fields.words.now (label_of c.args.label) c.args.owner c.args.fields.at c.args.n c.args.self.now

pub returns-in_err-reserve_unless : goal.returns-in_err-reserve_unless
returns-in_err-reserve_unless c =
    loop_err c.loop-i.invariant c.loop-i-test.true (λ limits p. row_is (word_at c.args.fields.words.now) c.args.n c.args.fields.at c.loop-i.i c.word.ensures)
    (λ limits room p. row_fits (word_at c.args.fields.words.now) c.args.n c.args.fields.at c.loop-i.i c.word.ensures (FitsWire limits) 0 c.loop-i-test.true p)
    c.in_err-reserve_unless.ensures c.from_residual.result c.from_residual.ensures.1

pub loop-i-preserved : goal.loop-i-preserved
loop-i-preserved c =
    loop_step c.loop-i.invariant c.loop-i-test.true (λ limits p. row_is (word_at c.args.fields.words.now) c.args.n c.args.fields.at c.loop-i.i c.word.ensures)
    (λ limits room p. row_fits (word_at c.args.fields.words.now) c.args.n c.args.fields.at c.loop-i.i c.word.ensures (FitsWire limits) 0 c.loop-i-test.true p)
    c.in_ok-reserve_unless.ensures

pub returns : goal.returns
returns c = loop_end c.loop-i.invariant (omega arith)
