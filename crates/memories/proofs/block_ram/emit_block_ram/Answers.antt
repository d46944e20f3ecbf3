use Rattle.netlist.specs.Fields.{ram_at}
use Rattle.wires.specs.Wires.{wires_in}
use Rattle.wires.specs.Once.{seen_in}
use Rattle.memories.specs.Rams.{addressed}
use Rattle.memories.specs.Rams.{block_ram_in}
use Rattle.memories.proofs.CellLaws.{map_as}
use Rattle.memories.proofs.block_ram.emit_block_ram.Goals as goal

pub returns-clause-wrote : goal.returns-clause-wrote
returns-clause-wrote c = record {
  start = c.begin.new.self;
  begins = c.begin.ensures;
  does = map_as (λ m. block_ram_in c.args.works.now.parts.now c.args.works.now.values.now (wires_in m) m.constants (seen_in c.begin.new.self) c.args.owner (addressed (ram_at c.args.fields.words.now c.args.fields.at) c.args.write_address c.args.read_address c.args.second_address)) c.begin.ensures.map c.in_work-r.ensures.wrote;
}
