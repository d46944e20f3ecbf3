use Rattle.std.proofs.Common.{refl}
use Rattle.recorder.proofs.Calls.{writes_pure, writes_then, writes_err}
use Rattle.lowering.specs.Lower.{emit_constants}
use Rattle.converter.proofs.constants.emit_constants.Goals as goal

pub returns-in_err-zero : goal.returns-in_err-zero
unfolding emit_constants
returns-in_err-zero c = writes_err c.in_err-zero.ensures _ _ c.from_residual.result _ refl c.from_residual.ensures.1

pub returns-in_err-one : goal.returns-in_err-one
unfolding emit_constants
returns-in_err-one c = writes_then c.in_ok-zero.ensures _ refl (writes_err c.in_err-one.ensures _ _ c.from_residual-in_err-one.result _ refl c.from_residual-in_err-one.ensures.1)

pub returns-in_err-low : goal.returns-in_err-low
unfolding emit_constants
returns-in_err-low c = writes_then c.in_ok-zero.ensures _ refl (writes_then c.in_ok-one.ensures _ refl (writes_err c.in_err-low.ensures _ _ c.from_residual-in_err-low.result _ refl c.from_residual-in_err-low.ensures.1))

pub returns-in_err-high : goal.returns-in_err-high
unfolding emit_constants
returns-in_err-high c = writes_then c.in_ok-zero.ensures _ refl (writes_then c.in_ok-one.ensures _ refl (writes_then c.in_ok-low.ensures _ refl (writes_err c.in_err-high.ensures _ _ c.from_residual-in_err-high.result _ refl c.from_residual-in_err-high.ensures.1)))

pub returns-in_err-assign : goal.returns-in_err-assign
unfolding emit_constants
returns-in_err-assign c = writes_then c.in_ok-zero.ensures _ refl (writes_then c.in_ok-one.ensures _ refl (writes_then c.in_ok-low.ensures _ refl (writes_then c.in_ok-high.ensures _ refl (writes_err c.in_err-assign.ensures _ _ c.from_residual-in_err-assign.result _ refl c.from_residual-in_err-assign.ensures.1))))

pub returns-in_err-assign-2 : goal.returns-in_err-assign-2
unfolding emit_constants
returns-in_err-assign-2 c = writes_then c.in_ok-zero.ensures _ refl (writes_then c.in_ok-one.ensures _ refl (writes_then c.in_ok-low.ensures _ refl (writes_then c.in_ok-high.ensures _ refl (writes_then c.in_ok-assign.ensures _ refl (writes_err c.in_err-assign-2.ensures _ _ c.from_residual-in_err-assign-2.result _ refl c.from_residual-in_err-assign-2.ensures.1)))))

pub returns : goal.returns
unfolding emit_constants
returns c = writes_then c.in_ok-zero.ensures _ refl (writes_then c.in_ok-one.ensures _ refl (writes_then c.in_ok-low.ensures _ refl (writes_then c.in_ok-high.ensures _ refl (writes_then c.in_ok-assign.ensures _ refl (writes_then c.in_ok-assign-2.ensures _ refl writes_pure)))))
