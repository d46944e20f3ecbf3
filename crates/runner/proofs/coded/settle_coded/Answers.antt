use Rattle.std.proofs.Common.{arith, refl, ◌∙◌}
use Rattle.evaluation.proofs.Settling.{same_room}
use Rattle.coding.proofs.Running.{running_start, running_form, running_needs, form_inside, own_inside, inputs_inside}
use Rattle.runner.proofs.Models.{prepared_of}
use Rattle.runner.proofs.coded.settle_coded.Goals.{then-order-at-lt65536, else-order-at-lt65536}
use Rattle.runner.proofs.coded.settle_coded.Goals as goal

pub loop-j-init : goal.loop-j-init
loop-j-init c = running_start (prepared_of c.args.m.now) c.requires.5 c.requires.2 c.requires.3 c.requires.4 c.requires.0.bytes_room c.requires.6 c.copy.auto.to c.copy.ensures

pub look_up-requires : goal.look_up-requires
look_up-requires c =
    let g = inputs_inside (prepared_of c.args.m.now) c.requires.5 c.args.m.now.expr_counted c.requires.1 c.loop-j.invariant c.loop-j-test.true c.wide-e.ensures refl c.if-order-at-lt65536.true (omega (arith, c.copy.auto.to, c.requires.4)) in
    (form_inside (prepared_of c.args.m.now) c.requires.5 c.args.m.now.expr_counted c.requires.1 c.loop-j.invariant c.loop-j-test.true c.wide-e.ensures refl c.if-order-at-lt65536.true, own_inside (prepared_of c.args.m.now) c.requires.5 c.args.m.now.expr_counted c.requires.1 c.loop-j.invariant c.loop-j-test.true c.wide-e.ensures refl c.if-order-at-lt65536.true (same_room c.requires.0 c.copy.auto.to), g.0, g.1, g.2, g.3)

pub loop-j-preserved : goal.loop-j-preserved
loop-j-preserved c =
    elim c.if-order-at-lt65536.branch [
      | then-order-at-lt65536 w ↦ running_form (prepared_of c.args.m.now) c.requires.5 c.args.m.now.expr_counted c.requires.1 c.loop-j.invariant c.loop-j-test.true c.wide-e.ensures refl w.if-order-at-lt65536.true (w.values-is ∙ w.look_up.ensures)
      | else-order-at-lt65536 w ↦ running_needs (prepared_of c.args.m.now) c.requires.5 c.args.m.now.expr_counted c.requires.1 c.loop-j.invariant c.loop-j-test.true c.wide-e.ensures refl w.if-order-at-lt65536.false w.values-is w.eval_expr.auto.values w.eval_expr.ensures
    ]
