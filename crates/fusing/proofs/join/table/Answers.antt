use Rattle.std.proofs.Common.{arith}
use Rattle.fusing.proofs.Joining.{tabled_below, tabled_done}
use Rattle.fusing.proofs.join.table.Goals as goal

pub loop-i-preserved : goal.loop-i-preserved
loop-i-preserved c = tabled_below c.loop-i.invariant (omega arith) (omega arith) _ _ c.row.ensures c.above-t.ensures

pub returns : goal.returns
returns c = tabled_done c.loop-i.invariant (omega arith)
