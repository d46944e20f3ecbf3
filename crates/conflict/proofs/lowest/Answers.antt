use Rattle.std.proofs.Common.{refl, sym, ◌∙◌, ap, arith, drop, ℕ, ◌*◌, ◌+◌, ◌≡◌}
use Rattle.conflict.specs.Counting.{lowest_from}
use Rattle.conflict.proofs.Counts.{lowest_end, lowest_few, lowest_here, lowest_next}
use Rattle.conflict.proofs.lowest.Goals as goal

pub returns-then-count-lt4 : goal.returns-then-count-lt4
returns-then-count-lt4 c = lowest_few c.args.signals.now c.loop-i.i (4 * c.loop-i.i) _ (omega arith) refl c.if-count-lt4.true ∙ c.loop-i.invariant

pub returns-then-exceeding : goal.returns-then-exceeding
returns-then-exceeding c = lowest_here c.args.signals.now c.loop-i.i (4 * c.loop-i.i) _ (omega arith) refl c.if-count-lt4.false (sym c.exceeding.ensures ∙ c.if-exceeding.true) ∙ c.loop-i.invariant

pub loop-i-preserved : goal.loop-i-preserved
loop-i-preserved c =
    let next : 4 * (c.loop-i.i + 1) ≡ 4 * c.loop-i.i + 4 = omega arith in
    ap (λ (k : ℕ). lowest_from (c.loop-i.i + 1) (drop k c.args.signals.now)) next
    ∙ lowest_next c.args.signals.now c.loop-i.i (4 * c.loop-i.i) _ (omega arith) refl c.if-count-lt4.false (sym c.exceeding.ensures ∙ c.if-exceeding.false)
    ∙ c.loop-i.invariant

pub returns : goal.returns
returns c = lowest_end c.args.signals.now c.loop-i.i (4 * c.loop-i.i) (omega arith) ∙ c.loop-i.invariant
