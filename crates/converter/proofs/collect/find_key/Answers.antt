use Rattle.std.proofs.Common.{arith}
use Rattle.converter.proofs.Keys.{first_hit, first_miss, first_end}
use Rattle.converter.proofs.collect.find_key.Goals as goal

pub returns-then-key_is : goal.returns-then-key_is
returns-then-key_is c = first_hit _ c.loop-i.invariant c.loop-i-test.true c.key_is.ensures c.if-key_is.true

pub loop-i-preserved : goal.loop-i-preserved
loop-i-preserved c = first_miss _ c.loop-i.invariant c.loop-i-test.true c.key_is.ensures c.if-key_is.false

pub returns : goal.returns
returns c = first_end _ c.loop-i.invariant (omega arith) (omega arith)
