use Rattle.std.proofs.Common.{refl}
use Rattle.recorder.proofs.Calls.{writes_then, writes_err}
use Rattle.wires.proofs.Laws.{writes_after, unread_err}
use Rattle.memories.specs.Rams.{read_register}
use Rattle.memories.proofs.read_port.read_register.Goals as goal

pub returns-in_err-target : goal.returns-in_err-target
unfolding read_register
returns-in_err-target c = unread_err _ _ c.from_residual.result _ c.in_err-target.ensures c.from_residual.ensures.1

pub returns-in_err-enable : goal.returns-in_err-enable
unfolding read_register
returns-in_err-enable c = writes_after _ c.in_ok-target.ensures (unread_err _ _ c.from_residual-in_err-enable.result _ c.in_err-enable.ensures c.from_residual-in_err-enable.ensures.1)

pub returns-in_err-next : goal.returns-in_err-next
unfolding read_register
returns-in_err-next c = writes_after _ c.in_ok-target.ensures (writes_after _ c.in_ok-enable.ensures (writes_err c.in_err-next.ensures _ _ c.from_residual-in_err-next.result _ refl c.from_residual-in_err-next.ensures.1))

pub returns : goal.returns
unfolding read_register
returns c = writes_after _ c.in_ok-target.ensures (writes_after _ c.in_ok-enable.ensures (writes_then c.in_ok-next.ensures _ refl c.register.ensures))
