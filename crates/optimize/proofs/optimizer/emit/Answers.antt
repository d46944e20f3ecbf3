use Rattle.std.proofs.Common.{ap, refl}
use Rattle.recorder.proofs.Calls.{writes_as, writes_pure, writes_then, writes_err}
use Rattle.optimize.specs.Rewrite.{emit_rewrite}
use Rattle.optimize.proofs.optimizer.emit.Goals as goal

pub returns-in_err-inverted-in-AndNot : goal.returns-in_err-inverted-in-AndNot
unfolding emit_rewrite
returns-in_err-inverted-in-AndNot c = writes_as (ap emit_rewrite c.in-AndNot.is) (writes_err c.in_err-inverted-in-AndNot.ensures _ _ c.from_residual.result _ refl c.from_residual.ensures.1)

pub returns-in_err-inverted-in-OrNot : goal.returns-in_err-inverted-in-OrNot
unfolding emit_rewrite
returns-in_err-inverted-in-OrNot c = writes_as (ap emit_rewrite c.in-OrNot.is) (writes_err c.in_err-inverted-in-OrNot.ensures _ _ c.from_residual-in_err-inverted-in-OrNot.result _ refl c.from_residual-in_err-inverted-in-OrNot.ensures.1)

pub returns-in-Value : goal.returns-in-Value
unfolding emit_rewrite
returns-in-Value c = writes_as (ap emit_rewrite c.in-Value.is) writes_pure

pub returns-in-Not : goal.returns-in-Not
unfolding emit_rewrite
returns-in-Not c = writes_as (ap emit_rewrite c.in-Not.is) c.not.ensures

pub returns-in-And : goal.returns-in-And
unfolding emit_rewrite
returns-in-And c = writes_as (ap emit_rewrite c.in-And.is) c.and.ensures

pub returns-in-Or : goal.returns-in-Or
unfolding emit_rewrite
returns-in-Or c = writes_as (ap emit_rewrite c.in-Or.is) c.or.ensures

pub returns-in-Xor : goal.returns-in-Xor
unfolding emit_rewrite
returns-in-Xor c = writes_as (ap emit_rewrite c.in-Xor.is) c.xor.ensures

pub returns-in-Mux : goal.returns-in-Mux
unfolding emit_rewrite
returns-in-Mux c = writes_as (ap emit_rewrite c.in-Mux.is) c.mux.ensures

pub returns-in_ok-inverted-in-AndNot : goal.returns-in_ok-inverted-in-AndNot
unfolding emit_rewrite
returns-in_ok-inverted-in-AndNot c = writes_as (ap emit_rewrite c.in-AndNot.is) (writes_then c.in_ok-inverted-in-AndNot.ensures _ refl c.and-in-AndNot.ensures)

pub returns-in_ok-inverted-in-OrNot : goal.returns-in_ok-inverted-in-OrNot
unfolding emit_rewrite
returns-in_ok-inverted-in-OrNot c = writes_as (ap emit_rewrite c.in-OrNot.is) (writes_then c.in_ok-inverted-in-OrNot.ensures _ refl c.or-in-OrNot.ensures)
