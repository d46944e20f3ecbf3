use Rattle.ordering.proofs.Scans.{failed_more, failed_stop}
use Rattle.runner.proofs.marks.any_marked.Goals as goal

pub returns-then-is_marked : goal.returns-then-is_marked
returns-then-is_marked c = failed_stop _ _ _ _ c.requires c.loop-i.invariant c.loop-i-test.true c.wide.ensures c.is_marked.ensures c.if-is_marked.true

pub loop-i-preserved : goal.loop-i-preserved
loop-i-preserved c = failed_more _ _ _ _ c.requires c.loop-i.invariant c.loop-i-test.true c.wide.ensures c.is_marked.ensures c.if-is_marked.false
