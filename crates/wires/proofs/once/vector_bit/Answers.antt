use Rattle.std.proofs.Common.{◌∙◌}
use Rattle.wires.proofs.Laws.{vector_bit_there, vector_bit_none}
use Rattle.wires.proofs.once.vector_bit.Goals as goal

pub returns-then-i-n : goal.returns-then-i-n
returns-then-i-n c = c.bit.ensures ∙ vector_bit_there _ _ _ _ c.if-i-n.true

pub returns-else-i-n : goal.returns-else-i-n
returns-else-i-n c = vector_bit_none _ _ _ _ c.if-i-n.false
