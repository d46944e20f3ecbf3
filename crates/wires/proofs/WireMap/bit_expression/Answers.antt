use Rattle.std.proofs.Common.{ap}
use Rattle.recorder.proofs.Calls.{writes_as, writes_pure}
use Rattle.wires.proofs.Laws.{writes_after, unread_err}
use Rattle.wires.specs.Wires.{wires_in}
use Rattle.wires.specs.Expressions.{bit_expression}
use Rattle.wires.proofs.WireMap.bit_expression.Goals as goal

pub returns-in_err-r-in-Wire : goal.returns-in_err-r-in-Wire
unfolding bit_expression
returns-in_err-r-in-Wire c = writes_as (ap (bit_expression (wires_in c.args.self)) c.in-Wire.is) (unread_err _ _ c.from_residual.result _ c.in_err-r-in-Wire.ensures c.from_residual.ensures.1)

pub returns-in-Zero : goal.returns-in-Zero
unfolding bit_expression
returns-in-Zero c = writes_as (ap (bit_expression (wires_in c.args.self)) c.in-Zero.is) writes_pure

pub returns-in-One : goal.returns-in-One
unfolding bit_expression
returns-in-One c = writes_as (ap (bit_expression (wires_in c.args.self)) c.in-One.is) writes_pure

pub returns-in_ok-r-in-Wire : goal.returns-in_ok-r-in-Wire
unfolding bit_expression
returns-in_ok-r-in-Wire c = writes_as (ap (bit_expression (wires_in c.args.self)) c.in-Wire.is) (writes_after _ c.in_ok-r-in-Wire.ensures c.read.ensures)
