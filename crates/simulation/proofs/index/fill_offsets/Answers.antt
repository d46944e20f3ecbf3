use Rattle.std.proofs.Common.{arith, ap, refl, sym, ◌∙◌, ◌≡◌, ◌+◌, ◌-◌, length, min, set, ℕ, length-set}
use borrow.Author.Tests.{eqb-true, eqb-false}
use Rattle.std.proofs.lemmas.List.{length_push}
use Rattle.simulation.specs.Index.{records_in, widths_in, offset, offset_entry, offset_table, filling}
use Rattle.simulation.proofs.Offsets.{sum_step, clipped_sum}
use Rattle.simulation.proofs.Tables.{filling_none, filling_more, filling_full, filling_end}
use Rattle.simulation.proofs.Walking.{numbered_turn, numbered_end, taken_width}
use Rattle.simulation.proofs.index.fill_offsets.Goals as goal

pub returns-then-is_empty : goal.returns-then-is_empty
unfolding offset_table
returns-then-is_empty c = filling_full (offset_entry c.args.list.now) 0 (length (records_in c.args.list.now) + 1) _ (filling_none _ _) (omega (arith, eqb-true (length c.args.table.now) 0 (sym c.is_empty.ensures ∙ c.if-is_empty.true))) (omega arith)

pub loop-k-init : goal.loop-k-init
loop-k-init c = (refl, filling_more (offset_entry c.args.list.now) 0 _ 0 (filling_none _ _) refl)

pub bounds-table-k : goal.bounds-table-k
bounds-table-k c =
    let t = numbered_turn (length c.args.table.now - 1) c.into_iter-k-iterator.ensures.into_iter_gives c.zip-k-items.ensures.first c.zip-k-items.ensures.second c.new.ensures (omega (arith, length-set {A = ℕ})) c.loop-k.yielded c.loop-k.k-iterator c.next.new.self c.loop-k.yielded_by (c.in-Some.k, c.in-Some.fields) c.in-Some.is c.next.ensures.steps in
    omega (arith, t.0, t.1.asked, c.loop-k.auto.table, length-set {A = ℕ})

pub offset_bounds-table-k : goal.offset_bounds-table-k
offset_bounds-table-k c =
    let t = numbered_turn (length c.args.table.now - 1) c.into_iter-k-iterator.ensures.into_iter_gives c.zip-k-items.ensures.first c.zip-k-items.ensures.second c.new.ensures (omega (arith, length-set {A = ℕ})) c.loop-k.yielded c.loop-k.k-iterator c.next.new.self c.loop-k.yielded_by (c.in-Some.k, c.in-Some.fields) c.in-Some.is c.next.ensures.steps in
    omega (arith, t.0, t.1.asked, c.loop-k.auto.table, length-set {A = ℕ}, c.well_formed)

pub loop-k-preserved : goal.loop-k-preserved
loop-k-preserved c =
    let l = c.args.list.now in
    let n = length c.loop-k.yielded in
    let t = numbered_turn (length c.args.table.now - 1) c.into_iter-k-iterator.ensures.into_iter_gives c.zip-k-items.ensures.first c.zip-k-items.ensures.second c.new.ensures (omega (arith, length-set {A = ℕ})) c.loop-k.yielded c.loop-k.k-iterator c.next.new.self c.loop-k.yielded_by (c.in-Some.k, c.in-Some.fields) c.in-Some.is c.next.ensures.steps in
    let z : c.in-Some.k ≡ n + 1 = omega (arith, t.0) in
    let p = sym (length_push c.loop-k.yielded (c.in-Some.k, c.in-Some.fields)) in
    let s = sum_step (widths_in l) n _ _ _ c.loop-k.invariant.0 (c.wide.ensures ∙ c.word.ensures ∙ taken_width t.1) c.saturating_add-sum.ensures in (
      s ∙ ap (λ m. min (offset (widths_in l) m) 18446744073709551615) p,
      ap (λ k. set c.loop-k.table k c.clip.result) z ∙ filling_more (offset_entry l) _ _ _ c.loop-k.invariant.1 (clipped_sum (offset (widths_in l) (n + 1)) _ _ s c.clip.ensures) ∙ ap (λ m. filling (offset_entry l) (m + 1) c.args.table.now) p,
    )

pub returns : goal.returns
unfolding offset_table
returns c = filling_end (offset_entry c.args.list.now) (length (records_in c.args.list.now) + 1) _ c.loop-k.invariant.1 (let e = numbered_end (length c.args.table.now - 1) c.into_iter-k-iterator.ensures.into_iter_gives c.zip-k-items.ensures.first c.zip-k-items.ensures.second c.new.ensures (omega (arith, length-set {A = ℕ})) c.loop-k.yielded c.loop-k.k-iterator c.next.new.self c.loop-k.yielded_by c.in-None.is c.next.ensures.steps in let h = eqb-false (length c.args.table.now) 0 (sym c.is_empty.ensures ∙ c.if-is_empty.false) in omega arith)
