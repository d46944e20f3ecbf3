use Rattle.std.proofs.Common.{arith, ap, sym, ◌∙◌, ◌≡◌, length, set}
use Rattle.std.proofs.lemmas.List.{length_push}
use Rattle.simulation.specs.Index.{records_in, filling, width_entry, width_table}
use Rattle.simulation.proofs.Tables.{filling_none, filling_more, filling_end}
use Rattle.simulation.proofs.Walking.{numbered_turn, numbered_end, taken_width}
use Rattle.model_check.proofs.widths.fill.Goals as goal

pub loop-k-init : goal.loop-k-init
loop-k-init c = filling_none _ _

pub bounds-table-k : goal.bounds-table-k
bounds-table-k c =
    let t = numbered_turn (length c.args.table.now) c.into_iter-k-iterator.ensures.into_iter_gives c.zip-k-items.ensures.first c.zip-k-items.ensures.second c.new.ensures (omega arith) c.loop-k.yielded c.loop-k.k-iterator c.next.new.self c.loop-k.yielded_by (c.in-Some.k, c.in-Some.fields) c.in-Some.is c.next.ensures.steps in
    omega (arith, t.0, t.1.asked, c.loop-k.auto.table)

pub offset_bounds-table-k : goal.offset_bounds-table-k
offset_bounds-table-k c =
    let t = numbered_turn (length c.args.table.now) c.into_iter-k-iterator.ensures.into_iter_gives c.zip-k-items.ensures.first c.zip-k-items.ensures.second c.new.ensures (omega arith) c.loop-k.yielded c.loop-k.k-iterator c.next.new.self c.loop-k.yielded_by (c.in-Some.k, c.in-Some.fields) c.in-Some.is c.next.ensures.steps in
    omega (arith, t.0, t.1.asked, c.loop-k.auto.table, c.well_formed)

pub loop-k-preserved : goal.loop-k-preserved
loop-k-preserved c =
    let l = c.args.list.now in
    let t = numbered_turn (length c.args.table.now) c.into_iter-k-iterator.ensures.into_iter_gives c.zip-k-items.ensures.first c.zip-k-items.ensures.second c.new.ensures (omega arith) c.loop-k.yielded c.loop-k.k-iterator c.next.new.self c.loop-k.yielded_by (c.in-Some.k, c.in-Some.fields) c.in-Some.is c.next.ensures.steps in
    let z : c.in-Some.k ≡ length c.loop-k.yielded = omega (arith, t.0) in
    ap (λ k. set c.loop-k.table k c.word.result) z ∙ filling_more (width_entry l) _ _ _ c.loop-k.invariant (c.word.ensures ∙ taken_width t.1) ∙ ap (λ n. filling (width_entry l) n c.args.table.now) (sym (length_push c.loop-k.yielded (c.in-Some.k, c.in-Some.fields)))

pub returns : goal.returns
unfolding width_table
returns c = filling_end (width_entry c.args.list.now) (length (records_in c.args.list.now)) _ c.loop-k.invariant (numbered_end (length c.args.table.now) c.into_iter-k-iterator.ensures.into_iter_gives c.zip-k-items.ensures.first c.zip-k-items.ensures.second c.new.ensures (omega arith) c.loop-k.yielded c.loop-k.k-iterator c.next.new.self c.loop-k.yielded_by c.in-None.is c.next.ensures.steps)
