use Rattle.std.proofs.Common.{refl, ap, sym, ◌∙◌, ◌+◌, take}
use Rattle.netlist.specs.declared.fields.Fields.{Fields}
use Rattle.wires.specs.Expressions.{roomy, vector_once}
use Rattle.wires.specs.Wires.{wires_in}
use Rattle.wires.specs.Once.{seen_in}
use Rattle.wires.proofs.OnceLaws.{once_as}
use Rattle.netlist.specs.Fields.{bits_at}
use Rattle.memories.proofs.PortLaws.{data_as}
use Rattle.memories.proofs.ports.data_expression.Goals as goal

pub returns : goal.returns
returns c = once_as (data_as (wires_in c.args.emitter.now.map) (seen_in c.args.emitter.now) c.args.fields.words.now c.args.parts.now c.args.n _ (c.args.fields.at + c.args.offset) c.requires refl ∙ ap (λ (g : Fields). roomy c.args.n (take c.args.n c.args.parts.now) (vector_once (wires_in c.args.emitter.now.map) (seen_in c.args.emitter.now) (bits_at g.words.now g.at c.args.n) 0 c.args.n)) (sym c.from.ensures)) c.bits_once.ensures.wrote
