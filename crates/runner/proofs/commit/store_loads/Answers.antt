use Rattle.std.proofs.Common.{arith, refl}
use Rattle.evaluation.proofs.Committing.{stated, loading_start, loading_begins, loading_next, loading_room, loading_out}
use Rattle.runner.proofs.Models.{prepared_of}
use Rattle.runner.proofs.Turns.{turns_start, turn_size, turn_some, turn_next, turn_within, turns_out}
use Rattle.runner.proofs.commit.store_loads.Goals as goal

pub loop-fields-init : goal.loop-fields-init
loop-fields-init c = (loading_start _ _ _ _ _ _, turns_start c.into_iter-fields-iterator.ensures.into_iter_gives c.new-fields-items.ensures)

pub store_load-requires : goal.store_load-requires
store_load-requires c =
    let s = c.in-Some.ensures.steps in
    let v = c.loop-fields.invariant in
    let p = stated (prepared_of c.args.m.now) in
    (loading_room p v.0 c.requires.0, c.requires.1, loading_begins p v.0 (turn_size v.1 s) (turn_some v.1 s))

pub overflow_add-at-in-loop-fields : goal.overflow_add-at-in-loop-fields
overflow_add-at-in-loop-fields c = omega (arith, turn_within c.loop-fields.invariant.1 c.in-Some.ensures.steps, c.well_formed)

pub loop-fields-preserved : goal.loop-fields-preserved
loop-fields-preserved c =
    let s = c.in-Some.ensures.steps in
    let v = c.loop-fields.invariant in
    (loading_next (stated (prepared_of c.args.m.now)) v.0 (turn_size v.1 s) (turn_some v.1 s) c.store_load.auto.bytes c.store_load.ensures, turn_next v.1 s)

pub returns : goal.returns
returns c = let v = c.loop-fields.invariant in loading_out (stated (prepared_of c.args.m.now)) v.0 (turns_out v.1 c.in-None.ensures.steps.0) refl
