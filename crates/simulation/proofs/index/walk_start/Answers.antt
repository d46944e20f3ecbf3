use Rattle.std.proofs.Common.{arith, ap, sym, ◌∙◌, ◌+◌, length}
use Rattle.std.proofs.lemmas.List.{length_push}
use Rattle.simulation.specs.Index.{start_of}
use Rattle.simulation.proofs.Offsets.{start_first}
use Rattle.simulation.proofs.Walking.{first_turn, first_end, taken_start, start_taken, start_inside}
use Rattle.simulation.proofs.index.walk_start.Goals as goal

pub loop-fields-init : goal.loop-fields-init
loop-fields-init c = start_first _

pub overflow_add-at-in-loop-fields : goal.overflow_add-at-in-loop-fields
overflow_add-at-in-loop-fields c =
    let t = first_turn c.into_iter-fields-iterator.ensures.into_iter_gives c.take-fields-items.ensures.source c.take-fields-items.ensures.count c.new.ensures c.loop-fields.yielded c.loop-fields.fields-iterator c.next.new.self c.loop-fields.yielded_by c.in-Some.fields c.in-Some.is c.next.ensures.steps in
    omega (arith, c.loop-fields.invariant, taken_start t, start_inside c.args.list.now (length c.loop-fields.yielded + 1), c.well_formed)

pub loop-fields-preserved : goal.loop-fields-preserved
loop-fields-preserved c =
    let t = first_turn c.into_iter-fields-iterator.ensures.into_iter_gives c.take-fields-items.ensures.source c.take-fields-items.ensures.count c.new.ensures c.loop-fields.yielded c.loop-fields.fields-iterator c.next.new.self c.loop-fields.yielded_by c.in-Some.fields c.in-Some.is c.next.ensures.steps in
    ap (λ n. n + (length c.in-Some.fields.now + 1)) c.loop-fields.invariant ∙ taken_start t ∙ ap (start_of c.args.list.now) (sym (length_push c.loop-fields.yielded c.in-Some.fields))

pub returns : goal.returns
returns c =
    let t = first_end c.into_iter-fields-iterator.ensures.into_iter_gives c.take-fields-items.ensures.source c.take-fields-items.ensures.count c.new.ensures c.loop-fields.yielded c.loop-fields.fields-iterator c.next.new.self c.loop-fields.yielded_by c.in-None.is c.next.ensures.steps in
    c.loop-fields.invariant ∙ start_taken c.args.list.now c.args.k t
