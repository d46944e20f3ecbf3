use Rattle.std.proofs.Common.{ℕ, arith, sym, ap, ◌∙◌}
use Rattle.std.specs.Prelude.{Some}
use Rattle.runner.proofs.Listing.{driven_past, driven_asks, driven_by}
use Rattle.runner.proofs.Models.{prepared_of}
use Rattle.runner.proofs.store.store_driven.Goals as goal

pub returns-then-s-m : goal.returns-then-s-m
returns-then-s-m c = driven_past (prepared_of c.args.m.now) (omega (arith, c.if-s-m.true, c.args.m.now.signal_counted))

pub store-requires : goal.store-requires
store-requires c = let z = driven_asks (prepared_of c.args.m.now) c.requires (sym c.in-Some.ensures ∙ ap (λ (n : ℕ). Some n) (sym c.wide.ensures)) in (z.2, z.3, z.4, z.5)

pub returns-in-Some : goal.returns-in-Some
returns-in-Some c = driven_by (prepared_of c.args.m.now) (sym c.in-Some.ensures ∙ ap (λ (n : ℕ). Some n) (sym c.wide.ensures)) c.store.ensures
