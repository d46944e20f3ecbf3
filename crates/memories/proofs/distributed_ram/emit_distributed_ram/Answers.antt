use Rattle.std.proofs.Common.{refl, ap, sym, ◌∙◌}
use Rattle.wires.specs.declared.WireMap.{WireMap}
use Rattle.wires.specs.Wires.{wires_in}
use Rattle.wires.specs.Once.{seen_in}
use Rattle.wires.proofs.OnceLaws.{once_as, once_then, once_err, plain_keep, plain_as, plain_swept}
use Rattle.wires.proofs.OnMap.{map_begun, once_on}
use Rattle.memories.specs.Rams.{port_in, dram_exprs, dram_at, dram_addressed}
use Rattle.memories.specs.Steps.{dram_body}
use Rattle.memories.proofs.CellLaws.{dram_split, dram_first, dram_addressed_same}
use Rattle.memories.proofs.distributed_ram.emit_distributed_ram.Goals as goal

pub returns-in_err-port : goal.returns-in_err-port
returns-in_err-port c = record { start = c.begin.new.self; begins = c.begin.ensures; does = once_as (dram_split (wires_in c.args.emitter.now.map) c.args.emitter.now.map.constants (seen_in c.begin.new.self) c.args.owner (dram_addressed (dram_at c.args.fields.words.now c.args.fields.at) c.args.write_address c.args.read_address)) (once_err _ c.from_residual.result _ c.from_residual.ensures.1 (once_on (map_begun c.begin.ensures) (λ m. dram_exprs m (seen_in c.begin.new.self) (dram_addressed (dram_at c.args.fields.words.now c.args.fields.at) c.args.write_address c.args.read_address)) c.in_err-port.ensures) _) }

pub returns : goal.returns
returns c = record {
  start = c.begin.new.self;
  begins = c.begin.ensures;
  does = once_as (dram_split (wires_in c.args.emitter.now.map) c.args.emitter.now.map.constants (seen_in c.begin.new.self) c.args.owner (dram_addressed (dram_at c.args.fields.words.now c.args.fields.at) c.args.write_address c.args.read_address))
      (once_then (once_on (map_begun c.begin.ensures) (λ m. dram_exprs m (seen_in c.begin.new.self) (dram_addressed (dram_at c.args.fields.words.now c.args.fields.at) c.args.write_address c.args.read_address)) c.in_ok-port.ensures) _
      (plain_keep refl
      (plain_as (dram_first (wires_in c.args.emitter.now.map) c.args.emitter.now.map.constants c.args.owner (dram_at c.args.fields.words.now c.args.fields.at).output c.in_ok-port.port (dram_addressed (dram_at c.args.fields.words.now c.args.fields.at) c.args.write_address c.args.read_address)
      ∙ dram_addressed_same (wires_in c.args.emitter.now.map) c.args.emitter.now.map.constants c.args.owner (port_in c.in_ok-port.port) (dram_at c.args.fields.words.now c.args.fields.at) c.args.write_address c.args.read_address
      ∙ ap (λ (m : WireMap). dram_body (wires_in m) m.constants c.args.owner (port_in c.in_ok-port.port) (dram_at c.args.fields.words.now c.args.fields.at)) (sym (c.in_ok-port.ensures.same.map ∙ c.begin.ensures.map)))
      (plain_swept _ {e = c.dram_port.new.emitter} c.dram_body-r.result c.swept.ensures.same c.dram_body-r.ensures (record { recorder = refl; seen = refl; first = refl; map = refl; size = refl }) refl c.swept.ensures.left))));
}
