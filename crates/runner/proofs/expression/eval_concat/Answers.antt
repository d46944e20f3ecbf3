use Rattle.std.proofs.Common.{◌<◌, length, arith}
use Rattle.recorder.specs.Record.{expr_words}
use Rattle.evaluation.specs.Ready.{expr_in}
use Rattle.evaluation.proofs.Joining.{concat_size, concat_asks, concat_end, joining_start, part_before, part_less, part_fits, part_moves, joining_step, joining_end}
use Rattle.runner.proofs.expression.eval_concat.Goals as goal

pub overflow_add-pos : goal.overflow_add-pos
overflow_add-pos c = record { fits = omega (arith, concat_end c.requires.0 c.requires.1 c.expr_offset.ensures c.wide.ensures) }

pub loop-i-init : goal.loop-i-init
loop-i-init c = joining_start c.requires.0 c.requires.1 c.expr_offset.ensures c.wide.ensures

pub expr_offset-from-requires : goal.expr_offset-from-requires
expr_offset-from-requires c =
    let l : c.loop-i.i < length (expr_words (expr_in c.args.m.now.exprs.now c.args.e)) = omega (arith, concat_size c.requires.0 c.requires.1 c.wide-size.ensures, c.loop-i-test.true) in
    let v : length c.args.values.now < 18446744073709551616 = omega arith in
    let a = concat_asks c.requires.0 c.requires.1 c.wide-p.result v (let b = part_before c.requires.0 c.requires.1 c.loop-i.invariant l in omega (arith, c.wide-p.ensures)) in
    (omega (arith, a.1), a.2)

pub expr_offset-requires-in-loop-i : goal.expr_offset-requires-in-loop-i
expr_offset-requires-in-loop-i c =
    let l : c.loop-i.i < length (expr_words (expr_in c.args.m.now.exprs.now c.args.e)) = omega (arith, concat_size c.requires.0 c.requires.1 c.wide-size.ensures, c.loop-i-test.true) in
    let v : length c.args.values.now < 18446744073709551616 = omega arith in
    let a = concat_asks c.requires.0 c.requires.1 c.wide-p.result v (let b = part_before c.requires.0 c.requires.1 c.loop-i.invariant l in omega (arith, c.wide-p.ensures)) in
    (a.1, a.2)

pub overflow_sub-n : goal.overflow_sub-n
overflow_sub-n c = let l : c.loop-i.i < length (expr_words (expr_in c.args.m.now.exprs.now c.args.e)) = omega (arith, concat_size c.requires.0 c.requires.1 c.wide-size.ensures, c.loop-i-test.true) in part_less c.requires.0 c.requires.1 c.loop-i.invariant l c.wide-p.ensures c.expr_offset-from.ensures c.expr_offset-in-loop-i.ensures

pub overflow_sub-pos : goal.overflow_sub-pos
overflow_sub-pos c = let l : c.loop-i.i < length (expr_words (expr_in c.args.m.now.exprs.now c.args.e)) = omega (arith, concat_size c.requires.0 c.requires.1 c.wide-size.ensures, c.loop-i-test.true) in part_fits c.requires.0 c.requires.1 c.loop-i.invariant l c.wide-p.ensures c.expr_offset-from.ensures c.expr_offset-in-loop-i.ensures

pub copy_within-requires : goal.copy_within-requires
copy_within-requires c = let l : c.loop-i.i < length (expr_words (expr_in c.args.m.now.exprs.now c.args.e)) = omega (arith, concat_size c.requires.0 c.requires.1 c.wide-size.ensures, c.loop-i-test.true) in let z = part_moves c.requires.0 c.requires.1 c.loop-i.invariant l c.wide-p.ensures c.expr_offset-from.ensures c.expr_offset-in-loop-i.ensures c.loop-i.auto.values in (z.0, z.1)

pub loop-i-preserved : goal.loop-i-preserved
loop-i-preserved c =
    let l : c.loop-i.i < length (expr_words (expr_in c.args.m.now.exprs.now c.args.e)) = omega (arith, concat_size c.requires.0 c.requires.1 c.wide-size.ensures, c.loop-i-test.true) in
    joining_step c.requires.0 c.requires.1 c.loop-i.invariant l c.wide-p.ensures c.expr_offset-from.ensures c.expr_offset-in-loop-i.ensures c.copy_within.ensures

pub returns : goal.returns
returns c = joining_end c.requires.0 c.requires.1 c.loop-i.invariant (omega (arith, concat_size c.requires.0 c.requires.1 c.wide-size.ensures, c.loop-i-test.false))
