use Rattle.std.proofs.Common.{rules, arith, refl}
use Rattle.address_mux.proofs.Levels.{levelling_start, levelling_step, levelling_err, levelling_odd, levelling_even, same_works, works_itself}
use Rattle.address_mux.proofs.mux_level.Goals as goal

pub loop-at-init : goal.loop-at-init
loop-at-init c = (c.requires.0, c.requires.1, works_itself, levelling_start c.args.works.now refl)

pub returns-in_err-node-clause-wrote : goal.returns-in_err-node-clause-wrote
returns-in_err-node-clause-wrote c = levelling_err c.loop-at.invariant.3 c.loop-at-test.true c.node.ensures c.node-in-loop-at.ensures _ c.from_residual.result _ c.from_residual.ensures.1 c.in_err-node.ensures

pub loop-at-preserved : goal.loop-at-preserved
loop-at-preserved c =
    let i = c.loop-at.invariant in
    (omega (arith, i.0, c.put.ensures.same.parts_size), omega (arith, i.1, c.put.ensures.same.values_size), same_works i.2 c.put.ensures.same, levelling_step i.3 c.loop-at-test.true c.node.ensures c.node-in-loop-at.ensures i.0 i.1 c.in_ok-node.ensures c.put.ensures)

pub returns-then-n-eq1-clause-wrote : goal.returns-then-n-eq1-clause-wrote
returns-then-n-eq1-clause-wrote c =
    let i = c.loop-at.invariant in
    levelling_odd i.3 (search rules) c.if-n-eq1.true i.0 i.1 c.node-then-n-eq1.ensures c.put-then-n-eq1.ensures

pub returns-else-n-eq1-clause-wrote : goal.returns-else-n-eq1-clause-wrote
returns-else-n-eq1-clause-wrote c = levelling_even c.loop-at.invariant.3 (search rules) c.if-n-eq1.false
