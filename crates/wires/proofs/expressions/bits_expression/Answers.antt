use Rattle.std.proofs.Common.{rules}
use Rattle.wires.proofs.OnceLaws.{forgot}
use Rattle.wires.specs.Once.{seen_of}
use Rattle.wires.specs.Expressions.{vector_expression}
use Rattle.wires.proofs.expressions.bits_expression.Goals as goal

pub returns-clause-wrote : goal.returns-clause-wrote
unfolding vector_expression seen_of
returns-clause-wrote c = let w = forgot _ _ _ _ c.bits_once.ensures.wrote in search (rules, w)
