use Rattle.std.proofs.Common.{arith, refl, sym, ◌∙◌}
use Rattle.simulation.proofs.Steps.{walked_out}
use Rattle.evaluation.proofs.Signals.{no_port}
use Rattle.evaluation.proofs.Storing.{taking_start, taking_end, input_room, input_copies, input_taken, input_none}
use Rattle.runner.proofs.Models.{read_signals_of}
use Rattle.runner.proofs.Turns.{turns_start, turns_out, turn_size, turn_some, turn_next, signal_turn, signal_first, signal_second}
use Rattle.runner.proofs.store.set_inputs.Goals as goal
use Rattle.runner.proofs.store.set_inputs.Goals.{then-fields-eq-INPUT, else-fields-eq-INPUT}

pub loop-fields-init : goal.loop-fields-init
loop-fields-init c = (taking_start (read_signals_of c.args.m.now) c.requires.0 _, turns_start c.into_iter-fields-iterator.ensures.into_iter_gives c.new-fields-items.ensures)

pub returns-then-at-m : goal.returns-then-at-m
returns-then-at-m c =
    let h = read_signals_of c.args.m.now in
    let v = c.loop-fields.invariant in
    taking_end h c.requires.0 v.0 (λ i a q. (no_port h c.args.m.now.ports_before v.0.walked c.if-at-m.true i a q).0)

pub bounds-fields-1 : goal.bounds-fields-1
bounds-fields-1 c = let v = c.loop-fields.invariant in omega (arith, signal_turn v.1 c.in-Some.ensures.steps (read_signals_of c.args.m.now) v.0.walked)

pub bounds-fields-0 : goal.bounds-fields-0
bounds-fields-0 c = let v = c.loop-fields.invariant in omega (arith, signal_turn v.1 c.in-Some.ensures.steps (read_signals_of c.args.m.now) v.0.walked)

pub copy-requires : goal.copy-requires
copy-requires c =
    let h = read_signals_of c.args.m.now in
    let v = c.loop-fields.invariant in
    let s = c.in-Some.ensures.steps in
    input_copies h c.requires.0 v.0 (turn_size v.1 s) (turn_some v.1 s) (c.wide-width.ensures ∙ signal_second v.1 s h v.0.walked) (sym (signal_first v.1 s h v.0.walked) ∙ c.if-fields-eq-INPUT.true) c.requires.1

pub overflow_add-to : goal.overflow_add-to
overflow_add-to c =
    let h = read_signals_of c.args.m.now in
    let v = c.loop-fields.invariant in
    let s = c.in-Some.ensures.steps in
    omega (arith, input_room h c.requires.0 v.0 (turn_size v.1 s) (turn_some v.1 s) (c.wide-width.ensures ∙ signal_second v.1 s h v.0.walked) c.requires.1, v.0.as_long, c.well_formed)

pub loop-fields-preserved : goal.loop-fields-preserved
loop-fields-preserved c =
    let h = read_signals_of c.args.m.now in
    let v = c.loop-fields.invariant in
    let s = c.in-Some.ensures.steps in
    let w = c.wide-width.ensures ∙ signal_second v.1 s h v.0.walked in
    elim c.if-fields-eq-INPUT.branch [
      | then-fields-eq-INPUT b ↦ rw (b.bytes-is, b.pos-is) (input_taken h c.requires.0 v.0 (turn_size v.1 s) (turn_some v.1 s) w (sym (signal_first v.1 s h v.0.walked) ∙ b.if-fields-eq-INPUT.true) b.copy.auto.to b.copy.ensures, turn_next v.1 s)
      | else-fields-eq-INPUT b ↦ rw (b.bytes-is, b.pos-is) (input_none h c.requires.0 v.0 (turn_size v.1 s) (turn_some v.1 s) w (λ z. b.if-fields-eq-INPUT.false (signal_first v.1 s h v.0.walked ∙ z)), turn_next v.1 s)
    ]

pub returns : goal.returns
returns c =
    let v = c.loop-fields.invariant in
    taking_end (read_signals_of c.args.m.now) c.requires.0 v.0 (λ i a q. absurd (omega (arith, a, q, walked_out v.0.walked 0 (turns_out v.1 c.in-None.ensures.steps.0) refl)))
