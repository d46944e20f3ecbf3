use Rattle.std.proofs.Common.{refl, subst}
use Rattle.coding.specs.Emitting.{Placed}
use Rattle.coding.proofs.Emitting.{computable_needs, computable_form}
use Rattle.runner.proofs.code.computable.Goals as goal

pub returns-then-order-at-ge65536 : goal.returns-then-order-at-ge65536
returns-then-order-at-ge65536 c = λ signals from k ht g z. computable_needs g c.requires.0 refl c.if-order-at-ge65536.true c.ready.ensures z

pub returns : goal.returns
returns c = λ signals from k ht g z. computable_form g c.requires.0 refl c.requires.2 ht c.if-order-at-ge65536.false (subst (Placed _ _ _) c.wide.ensures (c.placed.ensures c.if-not-placed.false)) (subst (Placed _ _ _) c.wide-2.ensures (c.placed-2.ensures c.if-not-placed-2.false)) (subst (Placed _ _ _) c.wide-3.ensures (c.placed-3.ensures c.if-not-placed-3.false)) (subst (Placed _ _ _) c.wide-4.ensures (c.placed-4.ensures z))
