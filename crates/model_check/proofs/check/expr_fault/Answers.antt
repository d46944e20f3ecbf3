use Rattle.std.proofs.Common.{arith, inl, sym, ◌∙◌, length, ap}
use Rattle.simulation.proofs.Faults.{seeking_found, seeking_more}
use Rattle.recorder.proofs.Left.{few}
use Rattle.model_check.proofs.check.expr_fault.Goals as goal

pub loop-n-init-derived : goal.loop-n-init-derived
loop-n-init-derived c = ((tt, tt, inl (few c.into_iter-n-iterator.ensures.into_iter_gives c.enumerate-n-items.ensures.source c.enumerate-n-items.ensures.count c.new.ensures (omega (arith, c.well_formed)))), tt)

pub returns-then-not-expr_fits : goal.returns-then-not-expr_fits
returns-then-not-expr_fits c = let s = c.in-Some.ensures.steps in seeking_found c.loop-n.invariant.1 s.1 s.0 (sym c.expr_fits.ensures ∙ c.if-not-expr_fits.true)

pub loop-n-preserved : goal.loop-n-preserved
loop-n-preserved c = let s = c.in-Some.ensures.steps in (omega (arith, c.loop-n.invariant.0, ap length s.0, s.2), seeking_more c.loop-n.invariant.1 s.1 s.0 (sym c.expr_fits.ensures ∙ c.if-not-expr_fits.false) s.2)
