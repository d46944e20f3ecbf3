use Rattle.std.proofs.Common.{ap, sym, ◌∙◌, ℕ, length, min}
use Rattle.std.proofs.lemmas.List.{length_push}
use Rattle.simulation.specs.Index.{offset, widths_in}
use Rattle.simulation.proofs.Offsets.{sum_step}
use Rattle.simulation.proofs.Walking.{first_turn, first_end, taken_width, sum_taken}
use Rattle.simulation.proofs.index.sum_to.Goals as goal

pub loop-fields-preserved : goal.loop-fields-preserved
loop-fields-preserved c =
    let l = c.args.list.now in
    let t = first_turn c.into_iter-fields-iterator.ensures.into_iter_gives c.take-fields-items.ensures.source c.take-fields-items.ensures.count c.new.ensures c.loop-fields.yielded c.loop-fields.fields-iterator c.next.new.self c.loop-fields.yielded_by c.in-Some.fields c.in-Some.is c.next.ensures.steps in
    sum_step (widths_in l) (length c.loop-fields.yielded) _ _ _ c.loop-fields.invariant (c.wide.ensures ∙ c.word.ensures ∙ taken_width t) c.saturating_add-sum.ensures
    ∙ ap (λ (n : ℕ). min (offset (widths_in l) n) 18446744073709551615) (sym (length_push c.loop-fields.yielded c.in-Some.fields))

pub returns : goal.returns
returns c =
    let t = first_end c.into_iter-fields-iterator.ensures.into_iter_gives c.take-fields-items.ensures.source c.take-fields-items.ensures.count c.new.ensures c.loop-fields.yielded c.loop-fields.fields-iterator c.next.new.self c.loop-fields.yielded_by c.in-None.is c.next.ensures.steps in
    c.loop-fields.invariant ∙ ap (λ (n : ℕ). min n 18446744073709551615) (sum_taken c.args.list.now c.args.limit t)
