use Rattle.std.proofs.Common.{refl}
use Rattle.wires.specs.Wires.{wires_in}
use Rattle.recorder.proofs.Calls.{writes_as, writes_then, writes_err}
use Rattle.converter.proofs.NextBits.{next_is}
use Rattle.converter.proofs.next.next_bit.Goals as goal

pub returns-in_err-input : goal.returns-in_err-input
returns-in_err-input c = writes_as (next_is (wires_in c.args.map) c.args.flop.words.now c.args.flop.at c.bit.ensures refl refl refl) (writes_err c.in_err-input.ensures _ _ c.from_residual.result _ refl c.from_residual.ensures.1)

pub returns-in_err-kept : goal.returns-in_err-kept
returns-in_err-kept c =
    writes_as (next_is (wires_in c.args.map) c.args.flop.words.now c.args.flop.at c.bit.ensures c.word.ensures c.optional_control.ensures refl)
    (writes_then c.in_ok-input.ensures _ refl (writes_err c.in_err-kept.ensures _ _ c.from_residual-in_err-kept.result _ refl c.from_residual-in_err-kept.ensures.1))

pub returns : goal.returns
returns c =
    writes_as (next_is (wires_in c.args.map) c.args.flop.words.now c.args.flop.at c.bit.ensures c.word.ensures c.optional_control.ensures c.optional_reset.ensures)
    (writes_then c.in_ok-input.ensures _ refl (writes_then c.in_ok-kept.ensures _ refl c.with_reset.ensures))
