use Rattle.std.proofs.Common.{arith}
use Rattle.recorder.proofs.Calls.{writes_as, writes_refuse}
use Rattle.address_mux.proofs.Levels.{muxing_start, muxing_step, muxing_err, muxing_one, muxing_none, both_yes, both_first, both_second, same_works, works_itself}
use Rattle.address_mux.proofs.mux_levels.Goals.{then-works-n-via-then-works-n, then-works-n-via-else-works-n+then-works-n-2}
use Rattle.address_mux.proofs.mux_levels.Goals as goal

pub returns-then-works-n-clause-wrote : goal.returns-then-works-n-clause-wrote
returns-then-works-n-clause-wrote c = elim c.then-works-n.branch [
  | then-works-n-via-then-works-n w ↦ writes_as (both_first c.args.n c.args.works.now.parts.now c.args.works.now.values.now _ (omega (arith, w.if-works-n))) writes_refuse
  | then-works-n-via-else-works-n+then-works-n-2 w ↦ writes_as (both_second c.args.n c.args.works.now.parts.now c.args.works.now.values.now _ (omega (arith, w.if-works-n)) (omega (arith, w.if-works-n-2))) writes_refuse
]

pub loop-left-init : goal.loop-left-init
loop-left-init c = (omega arith, omega arith, omega arith, works_itself, muxing_start c.args.works.now c.args.n (both_yes c.args.n c.args.works.now.parts.now c.args.works.now.values.now _ (omega arith) (omega arith)))

pub returns-in_err-mux_level-clause-wrote : goal.returns-in_err-mux_level-clause-wrote
returns-in_err-mux_level-clause-wrote c = muxing_err c.loop-left.invariant.4 (omega arith) _ c.from_residual.result _ c.from_residual.ensures.1 c.in_err-mux_level.ensures.wrote

pub loop-left-preserved : goal.loop-left-preserved
loop-left-preserved c =
    let i = c.loop-left.invariant in
    (omega arith, omega (arith, i.1, c.mux_level.ensures.works.parts_size), omega (arith, i.2, c.mux_level.ensures.works.values_size), same_works i.3 c.mux_level.ensures.works, muxing_step i.4 (omega arith) c.in_ok-mux_level.ensures.wrote)

pub returns-then-left-eq0-clause-wrote : goal.returns-then-left-eq0-clause-wrote
returns-then-left-eq0-clause-wrote c = muxing_none c.loop-left.invariant.4 (omega arith)

pub returns-clause-wrote : goal.returns-clause-wrote
returns-clause-wrote c = muxing_one c.loop-left.invariant.4 (omega arith) c.node-root.ensures c.mux.ensures
