use Rattle.std.proofs.Common.{refl, ap, sym, ◌∙◌, arith, length, ℕ}
use Rattle.recorder.proofs.Calls.{writes_as, writes_refuse, writes_then, writes_err}
use Rattle.recorder.specs.Writer.{refuse}
use Rattle.converter.specs.Members.{members_left}
use Rattle.wires.proofs.Laws.{roomy_no, writes_after, unread_err}
use Rattle.converter.proofs.Registers.{one_emits}
use Rattle.converter.proofs.register.emit_flip_flop_bank.Goals as goal

pub returns-then-parts-end : goal.returns-then-parts-end
returns-then-parts-end c = record {
  same = record { signals = refl; exprs = refl; stmts = refl };
  so = λ leader more q.
      writes_as (roomy_no (length (members_left c.args.members)) c.args.parts.now _ (omega (arith, c.width-width.ensures, c.if-parts-end.true)) ∙ ap (λ (n : ℕ). refuse 1 n) (sym c.width-width.ensures)) writes_refuse;
}

pub returns-in_err-target : goal.returns-in_err-target
returns-in_err-target c =
    one_emits c.args.map (omega (arith, c.width-width.ensures, c.if-parts-end.false)) c.in-Some.ensures.steps c.word.ensures refl
    (unread_err _ _ c.from_residual.result _ c.in_err-target.ensures c.from_residual.ensures.1)

pub returns-in_err-next : goal.returns-in_err-next
returns-in_err-next c =
    one_emits c.args.map (omega (arith, c.width-width.ensures, c.if-parts-end.false)) c.in-Some.ensures.steps c.word.ensures refl
    (writes_after _ c.in_ok-target.ensures (writes_err c.in_err-next.ensures _ _ c.from_residual-in_err-next.result _ refl c.from_residual-in_err-next.ensures.1))

pub returns-in_err-reset : goal.returns-in_err-reset
returns-in_err-reset c =
    one_emits c.args.map (omega (arith, c.width-width.ensures, c.if-parts-end.false)) c.in-Some.ensures.steps c.word.ensures c.async_reset.ensures
    (writes_after _ c.in_ok-target.ensures (writes_then c.in_ok-next.ensures _ refl (writes_err c.in_err-reset.ensures _ _ c.from_residual-in_err-reset.result _ refl c.from_residual-in_err-reset.ensures.1)))

pub returns : goal.returns
returns c =
    one_emits c.args.map (omega (arith, c.width-width.ensures, c.if-parts-end.false)) c.in-Some.ensures.steps c.word.ensures c.async_reset.ensures
    (writes_after _ c.in_ok-target.ensures (writes_then c.in_ok-next.ensures _ refl (writes_then c.in_ok-reset.ensures _ refl c.clock_bank.ensures)))
