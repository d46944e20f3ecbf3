use Rattle.std.proofs.Common.{ℕ, arith, sym, ap, ◌∙◌}
use Rattle.std.specs.Prelude.{Some}
use Rattle.evaluation.proofs.Storing.{storing_asks, storing_by, storing_none, storing_end}
use Rattle.runner.proofs.Models.{prepared_of}
use Rattle.runner.proofs.store.store_assigned.Goals.{in-Some, in-None}
use Rattle.runner.proofs.store.store_assigned.Goals as goal

pub store-requires : goal.store-requires
store-requires c = let z = storing_asks c.loop-s.invariant (prepared_of c.args.m.now) c.requires (omega (arith, c.loop-s-test.true, c.args.m.now.signal_counted)) (sym c.in-Some.ensures ∙ ap (λ (n : ℕ). Some n) (sym c.wide.ensures)) in (z.2, z.3, z.4, z.5)

pub loop-s-preserved : goal.loop-s-preserved
loop-s-preserved c =
    elim c.match-driver.branch [
      | in-Some w ↦ rw w.bytes-is (storing_by c.loop-s.invariant (sym w.in-Some.ensures ∙ ap (λ (n : ℕ). Some n) (sym w.wide.ensures)) w.store.auto.bytes w.store.ensures)
      | in-None w ↦ rw w.bytes-is (storing_none c.loop-s.invariant (sym w.in-None.ensures))
    ]

pub returns : goal.returns
returns c = storing_end c.loop-s.invariant (prepared_of c.args.m.now) (omega (arith, c.loop-s-test.false, c.args.m.now.signal_counted))
