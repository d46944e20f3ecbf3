use Rattle.std.proofs.Common.{arith}
use Rattle.netlist.specs.declared.Bit.TheVariants.{Zero}
use Rattle.netlist.specs.Shape.{FitsBit}
use Rattle.converter.specs.Tables.{held_bit}
use Rattle.converter.proofs.Reserving.{loop_step, loop_err, loop_end}
use Rattle.converter.proofs.Rows.{bits_start, row_is, row_fits}
use Rattle.converter.proofs.Reserver.insert_bits.Goals as goal

pub loop-lsb-init : goal.loop-lsb-init
loop-lsb-init c = bits_start c.args.fields.words.now c.args.content c.args.fields.at c.args.n c.args.signal.0 c.args.self.now

pub returns-in_err-insert_bit : goal.returns-in_err-insert_bit
returns-in_err-insert_bit c =
    loop_err c.loop-lsb.invariant c.loop-lsb-test.true (λ limits p. row_is (held_bit c.args.fields.words.now c.args.content) c.args.n c.args.fields.at c.loop-lsb.lsb c.bit-bit.ensures)
    (λ limits room p. (row_fits (held_bit c.args.fields.words.now c.args.content) c.args.n c.args.fields.at c.loop-lsb.lsb c.bit-bit.ensures (FitsBit limits) Zero c.loop-lsb-test.true p.0, record { numbered = p.1; placed = omega (arith, p.2, c.loop-lsb-test.true); narrow = p.2 }))
    c.in_err-insert_bit.ensures c.from_residual.result c.from_residual.ensures.1

pub loop-lsb-preserved : goal.loop-lsb-preserved
loop-lsb-preserved c =
    loop_step c.loop-lsb.invariant c.loop-lsb-test.true (λ limits p. row_is (held_bit c.args.fields.words.now c.args.content) c.args.n c.args.fields.at c.loop-lsb.lsb c.bit-bit.ensures)
    (λ limits room p. (row_fits (held_bit c.args.fields.words.now c.args.content) c.args.n c.args.fields.at c.loop-lsb.lsb c.bit-bit.ensures (FitsBit limits) Zero c.loop-lsb-test.true p.0, record { numbered = p.1; placed = omega (arith, p.2, c.loop-lsb-test.true); narrow = p.2 }))
    c.in_ok-insert_bit.ensures

pub returns : goal.returns
returns c = loop_end c.loop-lsb.invariant (omega arith)
