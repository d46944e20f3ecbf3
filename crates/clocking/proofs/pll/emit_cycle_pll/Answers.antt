use Rattle.std.proofs.Common.{refl}
use Rattle.cells.proofs.Laws.{pll_from}
use Rattle.recorder.proofs.Calls.{writes_as, writes_then, writes_err}
use Rattle.wires.specs.Wires.{wires_in}
use Rattle.clocking.proofs.pll.emit_cycle_pll.Goals as goal

pub returns-in_err-reference : goal.returns-in_err-reference
returns-in_err-reference c =
    writes_as (pll_from (wires_in c.args.map) c.args.fields.words.now c.args.fields.at c.bit.ensures c.word-feedback.ensures c.word-output.ensures refl refl)
    (writes_err c.in_err-reference.ensures _ _ c.from_residual.result _ refl c.from_residual.ensures.1)

pub returns-in_err-assign_wire : goal.returns-in_err-assign_wire
returns-in_err-assign_wire c =
    writes_as (pll_from (wires_in c.args.map) c.args.fields.words.now c.args.fields.at c.bit.ensures c.word-feedback.ensures c.word-output.ensures refl refl)
    (writes_then c.in_ok-reference.ensures _ refl
    (writes_err c.in_err-assign_wire.ensures _ _ c.from_residual-in_err-assign_wire.result _ refl c.from_residual-in_err-assign_wire.ensures.1))

pub returns-in_err-assign_unless : goal.returns-in_err-assign_unless
returns-in_err-assign_unless c =
    writes_as (pll_from (wires_in c.args.map) c.args.fields.words.now c.args.fields.at c.bit.ensures c.word-feedback.ensures c.word-output.ensures refl refl)
    (writes_then c.in_ok-reference.ensures _ refl
    (writes_then c.in_ok-assign_wire.ensures _ refl
    (writes_err c.in_err-assign_unless.ensures _ _ c.from_residual-in_err-assign_unless.result _ refl c.from_residual-in_err-assign_unless.ensures.1)))

pub returns-in_err-assign_clocks : goal.returns-in_err-assign_clocks
returns-in_err-assign_clocks c =
    writes_as (pll_from (wires_in c.args.map) c.args.fields.words.now c.args.fields.at c.bit.ensures c.word-feedback.ensures c.word-output.ensures refl c.word-clocks.ensures)
    (writes_then c.in_ok-reference.ensures _ refl
    (writes_then c.in_ok-assign_wire.ensures _ refl
    (writes_then c.in_ok-assign_unless.ensures _ refl
    (writes_err c.in_err-assign_clocks.ensures _ _ c.from_residual-in_err-assign_clocks.result _ refl c.from_residual-in_err-assign_clocks.ensures.1))))

pub returns : goal.returns
returns c =
    writes_as (pll_from (wires_in c.args.map) c.args.fields.words.now c.args.fields.at c.bit.ensures c.word-feedback.ensures c.word-output.ensures c.word.ensures c.word-clocks.ensures)
    (writes_then c.in_ok-reference.ensures _ refl
    (writes_then c.in_ok-assign_wire.ensures _ refl
    (writes_then c.in_ok-assign_unless.ensures _ refl
    (writes_then c.in_ok-assign_clocks.ensures _ refl
    (c.assign_wire-2.ensures)))))
