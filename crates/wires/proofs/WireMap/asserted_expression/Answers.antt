use Rattle.std.proofs.Common.{refl}
use Rattle.recorder.proofs.Calls.{writes_then, writes_err}
use Rattle.wires.specs.Expressions.{asserted_expression}
use Rattle.wires.proofs.WireMap.asserted_expression.Goals as goal

pub returns-in_err-e : goal.returns-in_err-e
unfolding asserted_expression
returns-in_err-e c = writes_err c.in_err-e.ensures _ _ c.from_residual.result _ refl c.from_residual.ensures.1

pub returns : goal.returns
unfolding asserted_expression
returns c = writes_then c.in_ok-e.ensures _ refl c.levelled.ensures
