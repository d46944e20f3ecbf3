use Rattle.std.proofs.Common.{ℕ, arith, refl, sym, ap, ◌∙◌, replicate}
use Rattle.refusal.specs.declared.Refusal.TheVariants.{CombinationalLoop}
use Rattle.std.specs.Prelude.{Ok, Err}
use Rattle.runner.proofs.Lagging.{plan_kept}
use Rattle.runner.proofs.Call.{fine, exprs_fit, signals_fit, values_fill, room, bytes_fill}
use Rattle.runner.proofs.WholeList.{quiet, same_list, inputs_are, shown_room, stopped_loop, stopped_same, ran_same}
use Rattle.runner.proofs.whole.run_unrefused.Goals as goal

pub new-checked-requires : goal.new-checked-requires
new-checked-requires c = (fine (quiet c.requires), c.fill_for.ensures.filled)

pub prepare-requires : goal.prepare-requires
prepare-requires c = exprs_fit (quiet (same_list c.new-checked.ensures c.requires)) c.new-checked.result.expr_counted

pub refuse_ticks-requires : goal.refuse_ticks-requires
refuse_ticks-requires c = let w = c.requires in let e = c.new-checked.ensures in (w.fits.well_formed, w.fits.bytes_enough, w.fits.answers_enough, shown_room w.fits, stopped_same e (stopped_loop (same_list e w) c.in-Err.s refl (sym c.in-Err.ensures.looped) (Ok tt) (Err (CombinationalLoop c.in-Err.s)) refl refl))

pub encode-plan-requires : goal.encode-plan-requires
encode-plan-requires c =
    let k = c.new-checked in
    let u = quiet (same_list k.ensures c.requires) in
    let r = room u {values = c.args.works.now.bits.now} refl in
    (omega (arith, exprs_fit u k.result.expr_counted, c.prepare.auto.marks), signals_fit u k.result.signal_counted, r.values_room, omega (arith, r.bytes_room, c.well_formed), c.in-Ok.ensures.inside, c.in-Ok.ensures.ordered)

pub run_ticks-requires : goal.run_ticks-requires
run_ticks-requires c =
    let k = c.new-checked in
    let w = same_list k.ensures c.requires in
    let u = quiet w in
    (room u (c.fill.auto.self ∙ c.encode-plan.auto.values), omega (arith, exprs_fit u k.result.expr_counted, c.prepare.auto.marks, c.encode-plan.auto.marks), omega (arith, signals_fit u k.result.signal_counted, c.encode-plan.auto.asked), c.encode-plan.ensures.ordered, c.in-Ok.ensures.unlooped, values_fill u ((c.fill.ensures.after (λ _ e. e)) ∙ ap (λ (k : ℕ). replicate k 0) c.encode-plan.auto.values), bytes_fill u, inputs_are w.fits c.input_total-inputs.ensures (omega (arith, c.well_formed)), w.fits.answers_enough, shown_room w.fits, w.fits.well_formed, plan_kept _ _ _ _ c.encode-plan.new.values c.fill.new.self k.result.expr_count k.result.signal_count _ c.encode-plan.ensures.planned c.fill.auto.self)

pub returns-in-Ok-clause-runs : goal.returns-in-Ok-clause-runs
returns-in-Ok-clause-runs c = ran_same c.new-checked.ensures c.run_ticks.ensures.runs
