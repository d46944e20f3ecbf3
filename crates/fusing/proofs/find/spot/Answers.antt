use Rattle.std.proofs.Common.{◌∙◌}
use Rattle.fusing.proofs.Finding.{spot_by, spot_kept}
use Rattle.fusing.proofs.find.spot.Goals as goal
use Rattle.fusing.proofs.find.spot.Goals.{in-Some+in_ok-entry-in-Some, in-None+in_ok-entry-in-None}

pub returns-then-p-lt4294967295 : goal.returns-then-p-lt4294967295
returns-then-p-lt4294967295 c = elim c.match-driver.branch [
  | in-Some+in_ok-entry-in-Some w ↦ spot_by _ _ _ _ _ _ _ _ w.in-Some.ensures _ _ w.wide.ensures w.in_ok-entry-in-Some.ensures _ (w.p-is ∙ w.saturating_add-p.ensures) c.if-p-lt4294967295.true
  | in-None+in_ok-entry-in-None w ↦ spot_kept _ _ _ _ _ _ _ w.in-None.ensures _ w.in_ok-entry-in-None.ensures _ _ w.saturating_add.ensures (w.p-is ∙ w.saturating_add-p-in-None.ensures) c.if-p-lt4294967295.true
]
