use Rattle.std.proofs.Common.{refl}
use Rattle.fusing.proofs.Joining.{matches_three, matches_four}
use Rattle.fusing.proofs.find.matching.Goals as goal

pub returns-in-3 : goal.returns-in-3
returns-in-3 c = matches_three _ _ _ _ refl refl refl c.in-3.is refl

pub returns-in-4 : goal.returns-in-4
returns-in-4 c = matches_four _ _ _ _ refl refl refl refl c.in-4.is refl
