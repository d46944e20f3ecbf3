use Rattle.std.proofs.Common.{ap, refl}
use Rattle.std.specs.Prelude.{Option}
use Rattle.netlist.specs.declared.Reset.{Reset}
use Rattle.wires.specs.Wires.{wires_in}
use Rattle.recorder.proofs.Calls.{writes_as, writes_pure, writes_then, writes_err}
use Rattle.wires.proofs.Laws.{writes_after, unread_err}
use Rattle.lowering.specs.Emit.{bank_reset}
use Rattle.converter.specs.Members.{members_left}
use Rattle.converter.proofs.register.bank_reset.Goals as goal

pub returns-in_default : goal.returns-in_default
returns-in_default c = writes_as (ap (λ (o : Option Reset). bank_reset (wires_in c.args.map) c.args.map.constants o (members_left c.args.members)) c.in_default.is) writes_pure

pub returns-in_err-value : goal.returns-in_err-value
returns-in_err-value c =
    writes_as (ap (λ (o : Option Reset). bank_reset (wires_in c.args.map) c.args.map.constants o (members_left c.args.members)) c.in-Some.is)
    (writes_err c.in_err-value.ensures _ _ c.from_residual.result _ refl c.from_residual.ensures.1)

pub returns-in_err-signal : goal.returns-in_err-signal
returns-in_err-signal c =
    writes_as (ap (λ (o : Option Reset). bank_reset (wires_in c.args.map) c.args.map.constants o (members_left c.args.members)) c.in-Some.is)
    (writes_then c.in_ok-value.ensures _ refl (unread_err _ _ c.from_residual-in_err-signal.result _ c.in_err-signal.ensures c.from_residual-in_err-signal.ensures.1))

pub returns : goal.returns
returns c =
    writes_as (ap (λ (o : Option Reset). bank_reset (wires_in c.args.map) c.args.map.constants o (members_left c.args.members)) c.in-Some.is)
    (writes_then c.in_ok-value.ensures _ refl (writes_after _ c.in_ok-signal.ensures writes_pure))
