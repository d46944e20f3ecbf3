use Rattle.recorder.proofs.Reading.{cut_end, cut_zero, cut_short, cut_whole}
use Rattle.recorder.proofs.read.cut.Goals as goal

-- src/read.rt:25:9
pub returns-then-list-at : goal.returns-then-list-at
returns-then-list-at c = cut_end _ _ c.if-list-at.true

-- src/read.rt:29:9
pub returns-then-n-eq0 : goal.returns-then-n-eq0
returns-then-n-eq0 c = cut_zero _ _ c.if-list-at.false c.wide-n.ensures c.if-n-eq0.true

-- src/read.rt:32:9
pub returns-then-list-at-2 : goal.returns-then-list-at-2
returns-then-list-at-2 c = cut_short _ _ _ c.if-list-at.false c.wide-n.ensures c.if-n-eq0.false c.if-list-at-2.true

-- src/read.rt:21:1
pub returns : goal.returns
returns c = cut_whole _ _ _ c.if-list-at.false c.wide-n.ensures c.if-n-eq0.false c.if-list-at-2.false
