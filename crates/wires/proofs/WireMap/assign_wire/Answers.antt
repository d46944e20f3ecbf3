use Rattle.wires.proofs.Laws.{writes_after, unread_err}
use Rattle.wires.specs.Expressions.{assign_wire}
use Rattle.wires.proofs.WireMap.assign_wire.Goals as goal

pub returns-in_err-r : goal.returns-in_err-r
unfolding assign_wire
returns-in_err-r c = unread_err _ _ c.from_residual.result _ c.in_err-r.ensures c.from_residual.ensures.1

pub returns : goal.returns
unfolding assign_wire
returns c = writes_after _ c.in_ok-r.ensures c.assign.ensures
