use Rattle.std.proofs.Common.{eq-eqb, ne_eqb}
use Rattle.recorder.proofs.Calls.{writes_as, writes_pure}
use Rattle.clocking.proofs.pll.assign_unless.Goals as goal

pub returns-then-wire-other : goal.returns-then-wire-other
returns-then-wire-other c = writes_as (rw (eq-eqb _ _ c.if-wire-other.true)) writes_pure

pub returns : goal.returns
returns c = writes_as (rw (ne_eqb _ _ c.if-wire-other.false)) c.assign_wire.ensures
