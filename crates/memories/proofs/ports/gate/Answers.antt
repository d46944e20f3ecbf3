use Rattle.std.proofs.Common.{refl, ap}
use Rattle.wires.specs.Wires.{wires_in}
use Rattle.wires.specs.Once.{seen_in}
use Rattle.wires.proofs.OnceLaws.{once_then, once_err, once_as, once_pure, plain_err}
use Rattle.wires.proofs.OnMap.{map_on}
use Rattle.memories.specs.Memories.{gate}
use Rattle.memories.proofs.PortLaws.{control_on, gate_err, plain_last}
use Rattle.memories.proofs.ports.gate.Goals as goal

pub returns-in_err-asserted : goal.returns-in_err-asserted
returns-in_err-asserted c = gate_err _ _ c.args.clock_enable _ c.from_residual.result _ c.from_residual.ensures.1 c.in_err-asserted.ensures

pub returns-in-None : goal.returns-in-None
unfolding gate
returns-in-None c = once_as (ap (gate (wires_in c.args.emitter.now.map) (seen_in c.args.emitter.now) c.args.write) c.in-None.is) (once_then c.in_ok-asserted.ensures _ once_pure)

pub returns-in_err-enabled-in-Some : goal.returns-in_err-enabled-in-Some
unfolding gate
returns-in_err-enabled-in-Some c =
    once_as (ap (gate (wires_in c.args.emitter.now.map) (seen_in c.args.emitter.now) c.args.write) c.in-Some.is)
    (once_then c.in_ok-asserted.ensures _
    (once_err _ c.from_residual-in_err-enabled-in-Some.result _ c.from_residual-in_err-enabled-in-Some.ensures.1 (control_on (map_on refl c.in_ok-asserted.ensures.same) refl c.in_err-enabled-in-Some.ensures) _))

pub returns-in_err-both-in-Some : goal.returns-in_err-both-in-Some
unfolding gate
returns-in_err-both-in-Some c =
    once_as (ap (gate (wires_in c.args.emitter.now.map) (seen_in c.args.emitter.now) c.args.write) c.in-Some.is)
    (once_then c.in_ok-asserted.ensures _
    (once_then (control_on (map_on refl c.in_ok-asserted.ensures.same) refl c.in_ok-enabled-in-Some.ensures) _
    (plain_err _ c.from_residual-in_err-both-in-Some.result _ c.from_residual-in_err-both-in-Some.ensures.1 c.in_err-both-in-Some.ensures _)))

pub returns-in_ok-both-in-Some : goal.returns-in_ok-both-in-Some
unfolding gate
returns-in_ok-both-in-Some c =
    once_as (ap (gate (wires_in c.args.emitter.now.map) (seen_in c.args.emitter.now) c.args.write) c.in-Some.is)
    (once_then c.in_ok-asserted.ensures _
    (once_then (control_on (map_on refl c.in_ok-asserted.ensures.same) refl c.in_ok-enabled-in-Some.ensures) _
    (plain_last c.in_ok-both-in-Some.ensures _)))
