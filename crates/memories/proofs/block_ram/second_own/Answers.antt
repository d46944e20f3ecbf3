use Rattle.std.proofs.Common.{refl, ◌∙◌, ◌+◌}
use Rattle.netlist.specs.Fields.{word_at}
use Rattle.wires.specs.Once.{seen_in}
use Rattle.memories.specs.Steps.{second_at}
use Rattle.memories.proofs.PortLaws.{own_present, second_same_at}
use Rattle.memories.proofs.block_ram.second_own.Goals as goal

pub returns : goal.returns
returns c = c.own_read.ensures ∙ own_present (seen_in c.args.emitter.now) (word_at c.args.fields.words.now (c.args.fields.at + 42)) (second_at c.args.fields.words.now c.args.fields.at) (second_same_at c.args.fields.words.now c.args.fields.at c.args.fields c.second_port.ensures c.word-width.ensures refl) (λ e. c.if-word-eq0.false (c.word.ensures ∙ e))
