use Rattle.std.proofs.Common.{arith, refl}
use Rattle.evaluation.proofs.Committing.{noting_start, noting_begins, noting_next, noting_out}
use Rattle.runner.proofs.Models.{stated_of}
use Rattle.runner.proofs.Turns.{turns_start, turn_size, turn_some, turn_next, turn_within, turns_out}
use Rattle.runner.proofs.commit.note_loads.Goals as goal

pub loop-fields-init : goal.loop-fields-init
loop-fields-init c = (noting_start _ _ _ _ _, turns_start c.into_iter-fields-iterator.ensures.into_iter_gives c.new-fields-items.ensures)

pub note_load-requires : goal.note_load-requires
note_load-requires c = let s = c.in-Some.ensures.steps in let v = c.loop-fields.invariant in (c.requires.0, noting_begins v.0 (turn_size v.1 s) (turn_some v.1 s), omega (arith, c.requires.1, v.0.as_long))

pub overflow_add-at-in-loop-fields : goal.overflow_add-at-in-loop-fields
overflow_add-at-in-loop-fields c = omega (arith, turn_within c.loop-fields.invariant.1 c.in-Some.ensures.steps, c.well_formed)

pub loop-fields-preserved : goal.loop-fields-preserved
loop-fields-preserved c =
    let s = c.in-Some.ensures.steps in
    let v = c.loop-fields.invariant in
    (noting_next v.0 (turn_size v.1 s) (turn_some v.1 s) (stated_of c.args.m.now) c.note_load.auto.marks c.note_load.ensures, turn_next v.1 s)

pub returns : goal.returns
returns c = let v = c.loop-fields.invariant in noting_out v.0 (turns_out v.1 c.in-None.ensures.steps.0) refl
