use Rattle.wires.specs.Wires.{wires_in}
use Rattle.converter.proofs.Emitting.{PortsLoop, PortIs}
use Rattle.converter.proofs.outputs.emit_outputs.Given as goal

abbrev pub invariant-loop-p : goal.invariant-loop-p
invariant-loop-p l =
    PortsLoop (wires_in l.map) l.ports.words.now l.ports.at l.n l.initial.parts l.initial.recorder l.recorder l.parts l.p
    × PortIs (wires_in l.map) l.ports.words.now l.ports.at l.n l.initial.parts l.initial.recorder l.p l.port
