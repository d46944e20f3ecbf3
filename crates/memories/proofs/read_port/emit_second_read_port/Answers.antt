use Rattle.std.proofs.Common.{ap}
use Rattle.std.specs.Prelude.{Option}
use Rattle.recorder.proofs.Calls.{writes_as, writes_pure}
use Rattle.wires.specs.Wires.{wires_in}
use Rattle.memories.specs.declared.Port.{Port}
use Rattle.memories.specs.Memories.{emit_second_read_port}
use Rattle.memories.specs.Rams.{expr_in, second_in, words_of}
use Rattle.memories.proofs.read_port.emit_second_read_port.Goals as goal

pub returns-in-Some-clause-wrote : goal.returns-in-Some-clause-wrote
returns-in-Some-clause-wrote c = writes_as (ap (λ (b : Option Port). emit_second_read_port (wires_in c.args.map) c.args.map.constants (second_in b) (expr_in c.args.own) (words_of c.args.words) c.args.shape.width c.args.shape.address c.args.shape.clock.0 c.args.shape.edge) c.in-Some.is) c.emit_block_ram_read_port.ensures.wrote

pub returns-in-None-clause-wrote : goal.returns-in-None-clause-wrote
returns-in-None-clause-wrote c = writes_as (ap (λ (b : Option Port). emit_second_read_port (wires_in c.args.map) c.args.map.constants (second_in b) (expr_in c.args.own) (words_of c.args.words) c.args.shape.width c.args.shape.address c.args.shape.clock.0 c.args.shape.edge) c.in-None.is) writes_pure
