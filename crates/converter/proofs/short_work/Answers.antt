use Rattle.std.proofs.Common.{refl}
use Rattle.converter.proofs.Calls.{short_here, short_behind, none_short}
use Rattle.converter.proofs.short_work.Goals as goal

pub loop-size-init : goal.loop-size-init
loop-size-init c = refl

pub returns-then-size-lt-WORK : goal.returns-then-size-lt-WORK
returns-then-size-lt-WORK c = short_here c.args.sizes.now c.loop-size.size-index c.loop-size.invariant c.loop-size-test.true c.if-size-lt-WORK.true

pub loop-size-preserved : goal.loop-size-preserved
loop-size-preserved c = short_behind c.args.sizes.now c.loop-size.size-index c.loop-size.invariant c.loop-size-test.true c.if-size-lt-WORK.false

pub returns : goal.returns
returns c = none_short c.args.sizes.now c.loop-size.size-index c.loop-size.invariant c.loop-size-test.false
