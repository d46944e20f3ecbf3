use Rattle.std.proofs.Common.{arith}
use Rattle.netlist.specs.Fields.{port_end, port_size}
use Rattle.wires.specs.Wires.{wires_in}
use Rattle.converter.proofs.Reserving.{port_sized, stands_start, stands_step}
use Rattle.converter.proofs.Emitting.{ports_start, ports_step, ports_err, ports_end}
use Rattle.converter.proofs.outputs.emit_outputs.Goals as goal

pub loop-p-init : goal.loop-p-init
loop-p-init c = (ports_start (wires_in c.args.map) c.args.ports.words.now c.args.ports.at c.args.n c.args.parts.now c.args.recorder.now, λ limits p. stands_start (port_end c.args.ports.words.now))

pub returns-in_err-emit_output : goal.returns-in_err-emit_output
returns-in_err-emit_output c =
    ports_err (wires_in c.args.map) c.args.ports.words.now c.args.ports.at c.args.n c.args.parts.now c.args.recorder.now c.loop-p.invariant.0 c.loop-p.invariant.1 c.loop-p-test.true _ c.in_err-emit_output.ensures _ c.from_residual.result c.from_residual.ensures.1

pub loop-p-preserved : goal.loop-p-preserved
loop-p-preserved c = (
  ports_step (wires_in c.args.map) c.args.ports.words.now c.args.ports.at c.args.n c.args.parts.now c.args.recorder.now c.loop-p.invariant.0 c.loop-p.invariant.1 c.loop-p-test.true c.emit_output.auto.parts c.in_ok-emit_output.ensures,
  λ limits p. stands_step port_size p.1 c.loop-p-test.true (c.loop-p.invariant.1 limits p) (port_sized c.loop-p.port c.word.ensures) c.from-port.ensures,
)

pub returns : goal.returns
returns c = ports_end (wires_in c.args.map) c.args.ports.words.now c.args.ports.at c.args.n c.args.parts.now c.args.recorder.now c.loop-p.invariant.0 (omega arith)
