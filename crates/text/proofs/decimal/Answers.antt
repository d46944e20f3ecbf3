use Rattle.std.proofs.Common.{◌∙◌, arith, length-set}
use Rattle.text.proofs.Digits.{room_left, digit_step, digit_last}
use Rattle.text.proofs.decimal.Goals as goal

pub loop-rest-preserved : goal.loop-rest-preserved
loop-rest-preserved c =
    let l = c.loop-rest in
    let p = room_left l.i l.rest c.loop-rest-test.true l.invariant.3 in
    (omega (arith, p.0), omega arith, simp length-set l.invariant.2, p.1, digit_step l.i l.rest l.figures c.loop-rest-test.true l.invariant.0 (omega arith) ∙ l.invariant.4)

pub returns-clause-digits : goal.returns-clause-digits
returns-clause-digits c =
    let l = c.loop-rest in
    digit_last l.i l.rest l.figures (omega arith) l.invariant.0 (omega arith) ∙ l.invariant.4
