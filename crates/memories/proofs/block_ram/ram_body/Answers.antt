use Rattle.std.proofs.Common.{refl, arith}
use Rattle.recorder.proofs.Calls.{writes_then, writes_err, writes_as}
use Rattle.netlist.specs.Fields.{ram_at}
use Rattle.wires.specs.Wires.{wires_in}
use Rattle.wires.proofs.Laws.{writes_after, unread_err}
use Rattle.memories.specs.Rams.{port_in, second_in, expr_in}
use Rattle.memories.proofs.CellLaws.{ram_read}
use Rattle.memories.proofs.block_ram.ram_body.Goals as goal

pub returns-in_err-clock-clause-wrote : goal.returns-in_err-clock-clause-wrote
returns-in_err-clock-clause-wrote c = writes_as (ram_read (wires_in c.args.map) c.args.map.constants c.args.owner (port_in c.args.ports.first) (expr_in c.args.ports.first_own) (second_in c.args.ports.second) (expr_in c.args.ports.second_own) c.args.address (ram_at c.args.fields.words.now c.args.fields.at) c.bit.ensures refl refl refl) (unread_err _ _ c.from_residual.result _ c.in_err-clock.ensures c.from_residual.ensures.1)

pub emit_block_ram_read_port-requires : goal.emit_block_ram_read_port-requires
emit_block_ram_read_port-requires c =
    let d = c.in_ok-words.ensures.depth in
    (omega (arith, c.requires.0.0, d, c.word-depth.ensures), omega (arith, c.requires.0.1, d, c.word-depth.ensures))

pub emit_second_read_port-requires : goal.emit_second_read_port-requires
emit_second_read_port-requires c =
    let d = c.in_ok-words.ensures.depth in
    let s = c.in_ok-emit_block_ram_read_port.ensures.works in
    (omega (arith, c.requires.0.0, d, c.word-depth.ensures, s.parts_size), omega (arith, c.requires.0.1, d, c.word-depth.ensures, s.values_size))

pub returns-in_err-words-clause-wrote : goal.returns-in_err-words-clause-wrote
returns-in_err-words-clause-wrote c = writes_as (ram_read (wires_in c.args.map) c.args.map.constants c.args.owner (port_in c.args.ports.first) (expr_in c.args.ports.first_own) (second_in c.args.ports.second) (expr_in c.args.ports.second_own) c.args.address (ram_at c.args.fields.words.now c.args.fields.at) c.bit.ensures c.word-2.ensures c.word.ensures c.word-depth.ensures) (writes_after _ c.in_ok-clock.ensures (writes_err c.in_err-words.ensures.wrote _ _ c.from_residual-in_err-words.result _ refl c.from_residual-in_err-words.ensures.1))

pub returns-in_err-emit_block_ram_read_port-clause-wrote : goal.returns-in_err-emit_block_ram_read_port-clause-wrote
returns-in_err-emit_block_ram_read_port-clause-wrote c = writes_as (ram_read (wires_in c.args.map) c.args.map.constants c.args.owner (port_in c.args.ports.first) (expr_in c.args.ports.first_own) (second_in c.args.ports.second) (expr_in c.args.ports.second_own) c.args.address (ram_at c.args.fields.words.now c.args.fields.at) c.bit.ensures c.word-2.ensures c.word.ensures c.word-depth.ensures) (writes_after _ c.in_ok-clock.ensures (writes_then c.in_ok-words.ensures.wrote _ refl (writes_err c.in_err-emit_block_ram_read_port.ensures.wrote _ _ c.from_residual-in_err-emit_block_ram_read_port.result _ refl c.from_residual-in_err-emit_block_ram_read_port.ensures.1)))

pub returns-in_err-emit_second_read_port-clause-wrote : goal.returns-in_err-emit_second_read_port-clause-wrote
returns-in_err-emit_second_read_port-clause-wrote c = writes_as (ram_read (wires_in c.args.map) c.args.map.constants c.args.owner (port_in c.args.ports.first) (expr_in c.args.ports.first_own) (second_in c.args.ports.second) (expr_in c.args.ports.second_own) c.args.address (ram_at c.args.fields.words.now c.args.fields.at) c.bit.ensures c.word-2.ensures c.word.ensures c.word-depth.ensures) (writes_after _ c.in_ok-clock.ensures (writes_then c.in_ok-words.ensures.wrote _ refl (writes_then c.in_ok-emit_block_ram_read_port.ensures.wrote _ refl (writes_err c.in_err-emit_second_read_port.ensures.wrote _ _ c.from_residual-in_err-emit_second_read_port.result _ refl c.from_residual-in_err-emit_second_read_port.ensures.1))))

pub returns-clause-wrote : goal.returns-clause-wrote
returns-clause-wrote c = writes_as (ram_read (wires_in c.args.map) c.args.map.constants c.args.owner (port_in c.args.ports.first) (expr_in c.args.ports.first_own) (second_in c.args.ports.second) (expr_in c.args.ports.second_own) c.args.address (ram_at c.args.fields.words.now c.args.fields.at) c.bit.ensures c.word-2.ensures c.word.ensures c.word-depth.ensures) (writes_after _ c.in_ok-clock.ensures (writes_then c.in_ok-words.ensures.wrote _ refl (writes_then c.in_ok-emit_block_ram_read_port.ensures.wrote _ refl (writes_then c.in_ok-emit_second_read_port.ensures.wrote _ refl c.update_words.ensures))))
