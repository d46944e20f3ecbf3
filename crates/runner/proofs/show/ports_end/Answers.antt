use Rattle.std.proofs.Common.{arith, refl}
use Rattle.simulation.proofs.Steps.{walked_out}
use Rattle.runner.proofs.Showing.{ending_start, ending_end, ending_port, ending_other}
use Rattle.runner.proofs.Turns.{turns_start, turns_out, turn_size, turn_some, turn_next, signal_turn, signal_first}
use Rattle.runner.proofs.show.ports_end.Goals as goal

pub loop-fields-init : goal.loop-fields-init
loop-fields-init c = (ending_start _, turns_start c.into_iter-fields-iterator.ensures.into_iter_gives c.new-fields-items.ensures)

pub bounds-fields-0 : goal.bounds-fields-0
bounds-fields-0 c = let v = c.loop-fields.invariant in omega (arith, signal_turn v.1 c.in-Some.ensures.steps c.requires v.0.walked)

pub loop-fields-preserved-then-fields-le-OUTPUT : goal.loop-fields-preserved-then-fields-le-OUTPUT
loop-fields-preserved-then-fields-le-OUTPUT c =
    let v = c.loop-fields.invariant in
    let s = c.in-Some.ensures.steps in
    (ending_port c.requires v.0 (turn_size v.1 s) (turn_some v.1 s), turn_next v.1 s)

pub loop-fields-preserved : goal.loop-fields-preserved
loop-fields-preserved c =
    let v = c.loop-fields.invariant in
    let s = c.in-Some.ensures.steps in
    (ending_other c.requires v.0 (turn_size v.1 s) (turn_some v.1 s) (λ z. absurd (omega (arith, z, c.if-fields-le-OUTPUT.false, signal_first v.1 s c.requires v.0.walked))), turn_next v.1 s)

pub returns : goal.returns
returns c = let v = c.loop-fields.invariant in ending_end c.requires v.0 (walked_out v.0.walked 0 (turns_out v.1 c.in-None.ensures.steps.0) refl)
