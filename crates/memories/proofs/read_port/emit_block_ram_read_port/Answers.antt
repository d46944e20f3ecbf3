use Rattle.std.proofs.Common.{refl}
use Rattle.recorder.proofs.Calls.{writes_then, writes_err, writes_as}
use Rattle.wires.specs.Wires.{wires_in}
use Rattle.memories.specs.Rams.{expr_in, port_in, words_of}
use Rattle.memories.proofs.ReadLaws.{read_port}
use Rattle.memories.proofs.read_port.emit_block_ram_read_port.Goals as goal

pub returns-in_err-value-clause-wrote : goal.returns-in_err-value-clause-wrote
returns-in_err-value-clause-wrote c = writes_as (read_port (wires_in c.args.map) c.args.map.constants (expr_in c.args.own) (words_of c.args.words) c.args.shape.width c.args.shape.address c.args.shape.clock.0 c.args.shape.edge (port_in c.args.port)) (writes_err c.in_err-value.ensures.wrote _ _ c.from_residual.result _ refl c.from_residual.ensures.1)

pub returns-clause-wrote : goal.returns-clause-wrote
returns-clause-wrote c = writes_as (read_port (wires_in c.args.map) c.args.map.constants (expr_in c.args.own) (words_of c.args.words) c.args.shape.width c.args.shape.address c.args.shape.clock.0 c.args.shape.edge (port_in c.args.port)) (writes_then c.in_ok-value.ensures.wrote _ refl c.read_register.ensures)
