use Rattle.std.proofs.Common.{arith, ◌≡◌, suc}
use Rattle.recorder.proofs.Left.{splits_nothing, splits_none, splits_at}
use Rattle.recorder.proofs.records.split_first.Goals as goal

pub returns-in_err-n : goal.returns-in_err-n
returns-in_err-n c = rw c.from_residual.ensures (splits_nothing _ c.in_err-n.ensures.cases)

pub returns-in_err-checked_sub : goal.returns-in_err-checked_sub
returns-in_err-checked_sub c = let z : c.in_ok-n.n.now ≡ 0 = omega arith in rw c.from_residual-in_err-checked_sub.ensures (splits_none c.in_ok-n.ensures.cases.0 z)

pub returns : goal.returns
returns c = let z : c.in_ok-n.n.now ≡ suc c.in_ok-checked_sub.field-0 = omega arith in splits_at _ c.in_ok-n.ensures.cases.0 z c.split_at_checked.ensures.cases
