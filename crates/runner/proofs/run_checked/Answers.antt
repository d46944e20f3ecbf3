use Rattle.std.proofs.Common.{refl, sym, arith}
use Rattle.runner.proofs.Call.{fine, same_lists, exprs_fit, signals_fit, values_fill, room, bytes_fill, ticks_good, tried_looped, tried_made, tried_same}
use Rattle.runner.proofs.run_checked.Goals as goal

pub new-checked-requires : goal.new-checked-requires
new-checked-requires c = (fine c.requires, c.fill_for.ensures.filled)

pub prepare-requires : goal.prepare-requires
prepare-requires c = exprs_fit (same_lists c.new-checked.ensures c.requires) c.new-checked.result.expr_counted

pub tick-requires : goal.tick-requires
tick-requires c =
    let k = c.new-checked in
    let u = same_lists k.ensures c.requires in
    (room u c.fill.auto.self, omega (arith, exprs_fit u k.result.expr_counted, c.prepare.auto.marks), signals_fit u k.result.signal_counted, c.in-Ok.ensures.ordered, c.in-Ok.ensures.unlooped, values_fill u (c.fill.ensures.after (λ _ e. e)), ticks_good u, bytes_fill u)

pub returns-in-Err-clause-tries : goal.returns-in-Err-clause-tries
returns-in-Err-clause-tries c = let k = c.new-checked in tried_same k.ensures (tried_looped (same_lists k.ensures c.requires) _ refl (sym c.in-Err.ensures.looped) _ refl)

pub returns-in-Ok-clause-tries : goal.returns-in-Ok-clause-tries
returns-in-Ok-clause-tries c = let k = c.new-checked in tried_same k.ensures (tried_made (same_lists k.ensures c.requires) c.in-Ok.ensures.unlooped c.tick.ensures.ticked _ refl)
