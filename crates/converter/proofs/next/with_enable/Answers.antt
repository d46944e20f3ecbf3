use Rattle.std.proofs.Common.{ap, refl}
use Rattle.std.specs.Prelude.{Option}
use Rattle.netlist.specs.declared.Control.{Control}
use Rattle.wires.specs.Wires.{wires_in}
use Rattle.lowering.specs.Emit.{with_enable}
use Rattle.recorder.proofs.Calls.{writes_as, writes_pure, writes_then, writes_err}
use Rattle.converter.proofs.NextBits.{enable_some}
use Rattle.converter.proofs.next.with_enable.Goals as goal

pub returns-in_default : goal.returns-in_default
returns-in_default c = writes_as (ap (λ (o : Option Control). with_enable (wires_in c.args.map) c.args.output o c.args.next.0) c.in_default.is) writes_pure

pub returns-in_err-held : goal.returns-in_err-held
returns-in_err-held c = writes_as (enable_some (wires_in c.args.map) c.args.output c.in-Some.is c.args.next.0) (writes_err c.in_err-held.ensures _ _ c.from_residual.result _ refl c.from_residual.ensures.1)

pub returns-in_err-enabled : goal.returns-in_err-enabled
returns-in_err-enabled c = writes_as (enable_some (wires_in c.args.map) c.args.output c.in-Some.is c.args.next.0) (writes_then c.in_ok-held.ensures _ refl (writes_err c.in_err-enabled.ensures _ _ c.from_residual-in_err-enabled.result _ refl c.from_residual-in_err-enabled.ensures.1))

pub returns : goal.returns
returns c = writes_as (enable_some (wires_in c.args.map) c.args.output c.in-Some.is c.args.next.0) (writes_then c.in_ok-held.ensures _ refl (writes_then c.in_ok-enabled.ensures _ refl c.mux.ensures))
