use Rattle.std.proofs.Common.{refl, ◌∙◌, ◌+◌, arith}
use Rattle.recorder.proofs.Calls.{writes_then, writes_err, writes_as}
use Rattle.wires.specs.Wires.{wires_in}
use Rattle.wires.proofs.Laws.{writes_after, unread_err}
use Rattle.memories.specs.Rams.{port_in, dram_at}
use Rattle.memories.proofs.PortLaws.{some_wire}
use Rattle.memories.proofs.CellLaws.{dram_read}
use Rattle.memories.proofs.distributed_ram.dram_body.Goals as goal

pub returns-in_err-clock : goal.returns-in_err-clock
returns-in_err-clock c = writes_as (dram_read (wires_in c.args.map) c.args.map.constants c.args.owner (port_in c.args.port) (dram_at c.args.fields.words.now c.args.fields.at) c.bit.ensures refl refl) (unread_err _ _ c.from_residual.result _ c.in_err-clock.ensures c.from_residual.ensures.1)

pub returns-in_err-words : goal.returns-in_err-words
returns-in_err-words c = writes_as (dram_read (wires_in c.args.map) c.args.map.constants c.args.owner (port_in c.args.port) (dram_at c.args.fields.words.now c.args.fields.at) c.bit.ensures c.word.ensures refl) (writes_after _ c.in_ok-clock.ensures (writes_err c.in_err-words.ensures _ _ c.from_residual-in_err-words.result _ refl c.from_residual-in_err-words.ensures.1))

pub returns-in_err-zero : goal.returns-in_err-zero
returns-in_err-zero c = writes_as (dram_read (wires_in c.args.map) c.args.map.constants c.args.owner (port_in c.args.port) (dram_at c.args.fields.words.now c.args.fields.at) c.bit.ensures c.word.ensures refl) (writes_after _ c.in_ok-clock.ensures (writes_then c.in_ok-words.ensures _ refl (writes_err c.in_err-zero.ensures _ _ c.from_residual-in_err-zero.result _ refl c.from_residual-in_err-zero.ensures.1)))

pub returns-in_err-value : goal.returns-in_err-value
returns-in_err-value c = writes_as (dram_read (wires_in c.args.map) c.args.map.constants c.args.owner (port_in c.args.port) (dram_at c.args.fields.words.now c.args.fields.at) c.bit.ensures c.word.ensures refl) (writes_after _ c.in_ok-clock.ensures (writes_then c.in_ok-words.ensures _ refl (writes_then c.in_ok-zero.ensures _ refl (writes_err c.in_err-value.ensures _ _ c.from_residual-in_err-value.result _ refl c.from_residual-in_err-value.ensures.1))))

pub returns : goal.returns
returns c = writes_as (dram_read (wires_in c.args.map) c.args.map.constants c.args.owner (port_in c.args.port) (dram_at c.args.fields.words.now c.args.fields.at) c.bit.ensures c.word.ensures (c.word-2.ensures ∙ some_wire c.args.fields.words.now (c.args.fields.at + 15) 4 (λ e. absurd (omega (arith, e))))) (writes_after _ c.in_ok-clock.ensures (writes_then c.in_ok-words.ensures _ refl (writes_then c.in_ok-zero.ensures _ refl (writes_then c.in_ok-value.ensures _ refl c.assign_wire.ensures))))
