use Rattle.std.proofs.Common.{refl}
use Rattle.fusing.proofs.Joining.{tabled_joins}
use Rattle.fusing.proofs.join.joined.Goals as goal

pub returns : goal.returns
returns c = tabled_joins _ _ _ _ _ _ c.table.ensures (c.covers.ensures c.if-not-covers.false) (c.covers-else-not-covers.ensures c.if-not-covers-2.false) (c.covers-else-not-covers-2.ensures c.if-not-covers-3.false) refl refl refl refl
