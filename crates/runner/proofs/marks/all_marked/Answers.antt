use Rattle.std.proofs.Common.{ap, not}
use Rattle.ordering.proofs.Scans.{passed_more, passed_stop}
use Rattle.runner.proofs.marks.all_marked.Goals as goal

pub returns-then-not-is_marked : goal.returns-then-not-is_marked
returns-then-not-is_marked c = passed_stop _ _ _ _ c.requires c.loop-i.invariant c.loop-i-test.true c.wide.ensures c.is_marked.ensures (ap not c.if-not-is_marked.true)

pub loop-i-preserved : goal.loop-i-preserved
loop-i-preserved c = passed_more _ _ _ _ c.requires c.loop-i.invariant c.loop-i-test.true c.wide.ensures c.is_marked.ensures (ap not c.if-not-is_marked.false)
