use Rattle.std.proofs.Common.{◌∙◌, ◌+◌}
use Rattle.memories.proofs.PortLaws.{no_wire, some_wire}
use Rattle.memories.proofs.ports.first_wire.Goals as goal

pub returns-then-n-eq0 : goal.returns-then-n-eq0
returns-then-n-eq0 c = no_wire c.args.fields.words.now (c.args.fields.at + c.args.offset) c.if-n-eq0.true

pub returns-else-n-eq0 : goal.returns-else-n-eq0
returns-else-n-eq0 c = c.word.ensures ∙ some_wire c.args.fields.words.now (c.args.fields.at + c.args.offset) c.args.n c.if-n-eq0.false
