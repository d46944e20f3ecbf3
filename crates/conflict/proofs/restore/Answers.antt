use Rattle.std.proofs.Common.{sym, ◌∙◌, ap, arith, ◌*◌, ◌+◌, ◌≡◌}
use Rattle.std.proofs.Math.ListN.{set}
use Rattle.conflict.proofs.Counts.{restoring, restore_end, restore_stop, restore_step}
use Rattle.conflict.proofs.restore.Goals as goal

pub returns-then-signals-i-lt4 : goal.returns-then-signals-i-lt4
returns-then-signals-i-lt4 c = sym (restore_stop c.loop-i.signals (4 * c.loop-i.i) (omega arith) c.if-signals-i-lt4.true) ∙ c.loop-i.invariant

pub loop-i-preserved : goal.loop-i-preserved
loop-i-preserved c =
    let next : 4 * (c.loop-i.i + 1) ≡ 4 * c.loop-i.i + 4 = omega arith in
    ap (restoring (set c.loop-i.signals (4 * c.loop-i.i) 4)) next ∙ restore_step c.loop-i.signals (4 * c.loop-i.i) (omega arith) c.if-signals-i-lt4.false ∙ c.loop-i.invariant

pub returns : goal.returns
returns c = sym (restore_end c.loop-i.signals (4 * c.loop-i.i) (omega arith)) ∙ c.loop-i.invariant
