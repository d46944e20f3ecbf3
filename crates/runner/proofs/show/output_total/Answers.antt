use Rattle.std.proofs.Common.{arith}
use Rattle.runner.proofs.Showing.{summing_start, summing_end, summing_three, sum_fits, summing_so, summing_not}
use Rattle.runner.proofs.Turns.{turns_start}
use Rattle.runner.proofs.show.output_total.Goals as goal

pub loop-fields-init : goal.loop-fields-init
loop-fields-init c = summing_start (turns_start c.into_iter-fields-iterator.ensures.into_iter_gives c.new-fields-items.ensures)

pub bounds-fields-0 : goal.bounds-fields-0
bounds-fields-0 c = omega (arith, summing_three c.requires.0 c.loop-fields.invariant c.in-Some.ensures.steps)

pub bounds-fields-1 : goal.bounds-fields-1
bounds-fields-1 c = omega (arith, summing_three c.requires.0 c.loop-fields.invariant c.in-Some.ensures.steps)

pub overflow_add-sum : goal.overflow_add-sum
overflow_add-sum c = omega (arith, sum_fits c.requires.0 c.loop-fields.invariant c.in-Some.ensures.steps c.wide-sum.ensures c.requires.1)

pub loop-fields-preserved-then-fields-eq-OUTPUT : goal.loop-fields-preserved-then-fields-eq-OUTPUT
loop-fields-preserved-then-fields-eq-OUTPUT c = summing_so c.requires.0 c.loop-fields.invariant c.in-Some.ensures.steps c.wide-sum.ensures c.if-fields-eq-OUTPUT.true

pub loop-fields-preserved : goal.loop-fields-preserved
loop-fields-preserved c = summing_not c.requires.0 c.loop-fields.invariant c.in-Some.ensures.steps c.if-fields-eq-OUTPUT.false

pub returns : goal.returns
returns c = summing_end c.requires.0 c.loop-fields.invariant c.in-None.ensures.steps.0
