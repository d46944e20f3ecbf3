use Rattle.std.proofs.Common.{arith, ◌∙◌}
use Rattle.runner.proofs.Listing.{registers_start, registers_end, registers_three, registers_other, registers_taken}
use Rattle.runner.proofs.Models.{stated_of}
use Rattle.runner.proofs.Turns.{turns_start}
use Rattle.runner.proofs.lists.list_registers.Goals.{then-fields-eq-REG+in_ok-k, else-fields-eq-REG}
use Rattle.runner.proofs.lists.list_registers.Goals as goal

pub loop-fields-init : goal.loop-fields-init
loop-fields-init c = registers_start _ _ _ (turns_start c.into_iter-fields-iterator.ensures.into_iter_gives c.new-fields-items.ensures)

pub bounds-fields-0 : goal.bounds-fields-0
bounds-fields-0 c = omega (arith, registers_three c.loop-fields.invariant (stated_of c.args.m.now) c.in-Some.ensures.steps)

pub loop-fields-preserved : goal.loop-fields-preserved
loop-fields-preserved c =
    let g = c.loop-fields.invariant in
    let s = c.in-Some.ensures.steps in
    elim c.if-fields-eq-REG.branch [
      | then-fields-eq-REG+in_ok-k w ↦ let l = w.in_ok-k.ensures.listed in registers_taken g (stated_of c.args.m.now) s (omega (arith, w.k-is, w.in_ok-k.ensures.few)) c.requires (w.k-is ∙ l.0, w.order-is ∙ l.1)
      | else-fields-eq-REG w ↦ rw (w.order-is, w.k-is) (registers_other g (stated_of c.args.m.now) s w.if-fields-eq-REG.false)
    ]

pub returns-clause-listed : goal.returns-clause-listed
returns-clause-listed c = (registers_end c.loop-fields.invariant c.in-None.ensures.steps.0).1
