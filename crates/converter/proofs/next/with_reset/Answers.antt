use Rattle.std.proofs.Common.{ap, refl}
use Rattle.std.specs.Prelude.{Option}
use Rattle.netlist.specs.declared.Reset.{Reset}
use Rattle.wires.specs.Wires.{wires_in}
use Rattle.lowering.specs.Emit.{with_reset}
use Rattle.recorder.proofs.Calls.{writes_as, writes_pure, writes_then, writes_err}
use Rattle.converter.proofs.NextBits.{reset_async, reset_sync}
use Rattle.converter.proofs.next.with_reset.Goals as goal

pub returns-in_default : goal.returns-in_default
returns-in_default c = writes_as (ap (λ (o : Option Reset). with_reset (wires_in c.args.map) o c.args.next.0) c.in_default.is) writes_pure

pub returns-then-r-eq1 : goal.returns-then-r-eq1
returns-then-r-eq1 c = writes_as (reset_async (wires_in c.args.map) c.in-Some.is c.if-r-eq1.true c.args.next.0) writes_pure

pub returns-in_err-asserted : goal.returns-in_err-asserted
returns-in_err-asserted c = writes_as (reset_sync (wires_in c.args.map) c.in-Some.is c.if-r-eq1.false refl c.args.next.0) (writes_err c.in_err-asserted.ensures _ _ c.from_residual.result _ refl c.from_residual.ensures.1)

pub returns : goal.returns
returns c = writes_as (reset_sync (wires_in c.args.map) c.in-Some.is c.if-r-eq1.false c.reset_bit.ensures c.args.next.0) (writes_then c.in_ok-asserted.ensures _ refl c.mux.ensures)
