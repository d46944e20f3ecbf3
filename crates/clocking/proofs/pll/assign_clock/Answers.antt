use Rattle.std.proofs.Common.{eq-eqb, ne_eqb}
use Rattle.recorder.proofs.Calls.{writes_as, writes_pure}
use Rattle.clocking.proofs.pll.assign_clock.Goals as goal

pub returns-then-wire-feedback : goal.returns-then-wire-feedback
returns-then-wire-feedback c = writes_as (rw (eq-eqb _ _ c.if-wire-feedback.true)) writes_pure

pub returns : goal.returns
returns c = writes_as (rw (ne_eqb _ _ c.if-wire-feedback.false)) c.assign_unless.ensures
