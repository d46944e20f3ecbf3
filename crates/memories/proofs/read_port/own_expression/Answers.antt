use Rattle.std.proofs.Common.{ap}
use Rattle.std.specs.Prelude.{Option}
use Rattle.recorder.specs.declared.ExprId.{ExprId}
use Rattle.recorder.proofs.Calls.{writes_as, writes_pure}
use Rattle.memories.specs.Memories.{own_expression}
use Rattle.memories.specs.Rams.{expr_in}
use Rattle.memories.proofs.read_port.own_expression.Goals as goal

pub returns-in-Some : goal.returns-in-Some
returns-in-Some c = writes_as (ap (λ (o : Option ExprId). own_expression (expr_in o) c.args.width c.args.target.0) c.in-Some.is) writes_pure

pub returns-in-None : goal.returns-in-None
returns-in-None c = writes_as (ap (λ (o : Option ExprId). own_expression (expr_in o) c.args.width c.args.target.0) c.in-None.is) c.read.ensures
