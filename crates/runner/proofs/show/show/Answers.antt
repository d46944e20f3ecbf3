use Rattle.std.proofs.Common.{arith, refl, sym, ◌∙◌}
use Rattle.simulation.proofs.Steps.{walked_out}
use Rattle.evaluation.proofs.Signals.{no_port}
use Rattle.runner.proofs.Showing.{showing_start, showing_end, showing_all, shown_end, output_copies, output_shown, output_none}
use Rattle.runner.proofs.Turns.{turns_start, turns_out, turn_size, turn_some, turn_next, signal_turn, signal_first, signal_second}
use Rattle.runner.proofs.show.show.Goals as goal
use Rattle.runner.proofs.show.show.Goals.{then-fields-eq-OUTPUT, else-fields-eq-OUTPUT}

pub loop-fields-init : goal.loop-fields-init
loop-fields-init c = (showing_start _ _ _ _, turns_start c.into_iter-fields-iterator.ensures.into_iter_gives c.new-fields-items.ensures)

pub returns-then-at-until-clause-end : goal.returns-then-at-until-clause-end
returns-then-at-until-clause-end c = let v = c.loop-fields.invariant in showing_end c.requires.0 v.0 (λ i a q. (no_port c.requires.0 c.requires.3 v.0.walked c.if-at-until.true i a q).1)

pub returns-then-at-until-clause-shows : goal.returns-then-at-until-clause-shows
returns-then-at-until-clause-shows c = let v = c.loop-fields.invariant in showing_all c.requires.0 v.0 (λ i a q. (no_port c.requires.0 c.requires.3 v.0.walked c.if-at-until.true i a q).1)

pub bounds-fields-1 : goal.bounds-fields-1
bounds-fields-1 c = let v = c.loop-fields.invariant in omega (arith, signal_turn v.1 c.in-Some.ensures.steps c.requires.0 v.0.walked)

pub bounds-fields-0 : goal.bounds-fields-0
bounds-fields-0 c = let v = c.loop-fields.invariant in omega (arith, signal_turn v.1 c.in-Some.ensures.steps c.requires.0 v.0.walked)

pub copy-requires : goal.copy-requires
copy-requires c =
    let v = c.loop-fields.invariant in
    let s = c.in-Some.ensures.steps in
    output_copies c.requires.0 v.0 (turn_size v.1 s) (turn_some v.1 s) (c.wide-width.ensures ∙ signal_second v.1 s c.requires.0 v.0.walked) (sym (signal_first v.1 s c.requires.0 v.0.walked) ∙ c.if-fields-eq-OUTPUT.true) c.requires.1 c.requires.2

pub overflow_add-pos : goal.overflow_add-pos
overflow_add-pos c =
    let v = c.loop-fields.invariant in
    let s = c.in-Some.ensures.steps in
    omega (arith, shown_end c.requires.0 v.0 (turn_size v.1 s) (turn_some v.1 s) (c.wide-width.ensures ∙ signal_second v.1 s c.requires.0 v.0.walked) c.requires.1)

pub loop-fields-preserved : goal.loop-fields-preserved
loop-fields-preserved c =
    let h = c.requires.0 in
    let v = c.loop-fields.invariant in
    let s = c.in-Some.ensures.steps in
    let w = c.wide-width.ensures ∙ signal_second v.1 s h v.0.walked in
    elim c.if-fields-eq-OUTPUT.branch [
      | then-fields-eq-OUTPUT b ↦ rw (b.shown-is, b.to-is) (output_shown h v.0 (turn_size v.1 s) (turn_some v.1 s) w (sym (signal_first v.1 s h v.0.walked) ∙ b.if-fields-eq-OUTPUT.true) c.requires.1 b.copy.auto.to b.copy.ensures, turn_next v.1 s)
      | else-fields-eq-OUTPUT b ↦ rw (b.shown-is, b.to-is) (output_none h v.0 (turn_size v.1 s) (turn_some v.1 s) w (λ z. b.if-fields-eq-OUTPUT.false (signal_first v.1 s h v.0.walked ∙ z)), turn_next v.1 s)
    ]

pub returns-clause-end : goal.returns-clause-end
returns-clause-end c = let v = c.loop-fields.invariant in showing_end c.requires.0 v.0 (λ i a q. absurd (omega (arith, a, q, walked_out v.0.walked 0 (turns_out v.1 c.in-None.ensures.steps.0) refl)))

pub returns-clause-shows : goal.returns-clause-shows
returns-clause-shows c = let v = c.loop-fields.invariant in showing_all c.requires.0 v.0 (λ i a q. absurd (omega (arith, a, q, walked_out v.0.walked 0 (turns_out v.1 c.in-None.ensures.steps.0) refl)))
