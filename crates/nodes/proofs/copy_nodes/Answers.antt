use Rattle.std.proofs.Common.{arith, refl}
use Rattle.address_mux.proofs.Levels.{works_itself, same_works}
use Rattle.nodes.proofs.Copied.{copied_none, copied_more, copied_all}
use Rattle.nodes.proofs.copy_nodes.Goals as goal

pub loop-i-init : goal.loop-i-init
loop-i-init c = (works_itself, copied_none c.args.works.now c.args.nodes.now)

pub loop-i-preserved : goal.loop-i-preserved
loop-i-preserved c =
    let s = c.loop-i.invariant.0 in
    (same_works s c.put.ensures.same, copied_more c.loop-i.works c.args.nodes.now _ c.loop-i.invariant.1 c.loop-i-test.true refl (omega (arith, c.requires.0, c.loop-i-test.true, s.parts_size)) (omega (arith, c.requires.1, c.loop-i-test.true, s.values_size)) c.put.ensures)

pub returns-clause-nodes : goal.returns-clause-nodes
returns-clause-nodes c = copied_all c.loop-i.works c.args.nodes.now (omega (arith, c.loop-i-test.false, c.loop-i.auto.i-end)) c.loop-i.invariant.1

pub returns-clause-works : goal.returns-clause-works
returns-clause-works c = c.loop-i.invariant.0
