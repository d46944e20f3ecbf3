use Rattle.wires.specs.Wires.{wires_in}
use Rattle.converter.proofs.OutputLaws.{port_other, port_err, port_done}
use Rattle.converter.proofs.outputs.emit_output.Goals as goal

pub returns-then-word-ne1 : goal.returns-then-word-ne1
returns-then-word-ne1 c = port_other (wires_in c.args.map) c.args.p c.args.port c.word.ensures c.if-word-ne1.true c.args.parts.now

pub returns-in_err-value : goal.returns-in_err-value
returns-in_err-value c = port_err (wires_in c.args.map) c.args.p c.args.port c.word.ensures c.if-word-ne1.false c.word-width.ensures c.from.ensures c.args.parts.now c.min-end.ensures _ c.in_err-value.ensures.wrote _ c.from_residual.result c.from_residual.ensures.1

pub returns : goal.returns
returns c = port_done (wires_in c.args.map) c.args.p c.args.port c.word.ensures c.if-word-ne1.false c.word-width.ensures c.from.ensures c.args.parts.now c.min-end.ensures c.in_ok-value.ensures.wrote c.assign.ensures
