use Rattle.std.proofs.Common.{ℕ, arith, sym, ap, ◌∙◌}
use Rattle.std.specs.Prelude.{Some}
use Rattle.evaluation.proofs.Whole.{read_inside, signal_asks, signal_fits_lem, signal_copies, signal_done, driver_asks, driver_fits, driver_moves, driver_done}
use Rattle.runner.proofs.Models.{prepared_of}
use Rattle.runner.proofs.expression.eval_read.Goals as goal

pub bounds-m-at : goal.bounds-m-at
bounds-m-at c = read_inside (prepared_of c.args.m.now) c.requires.1 c.requires.0 c.requires.2 c.requires.3 2 (omega arith)

pub bounds-m-at-2 : goal.bounds-m-at-2
bounds-m-at-2 c = read_inside (prepared_of c.args.m.now) c.requires.1 c.requires.0 c.requires.2 c.requires.3 3 (omega arith)

pub bounds-m-at-3 : goal.bounds-m-at-3
bounds-m-at-3 c = read_inside (prepared_of c.args.m.now) c.requires.1 c.requires.0 c.requires.2 c.requires.3 4 (omega arith)

pub expr_offset-from-requires : goal.expr_offset-from-requires
expr_offset-from-requires c = let z = driver_asks (prepared_of c.args.m.now) c.requires.1 c.requires.0 c.requires.2 c.requires.3 c.expr_offset-to.ensures c.wide-w.ensures c.wide-s.ensures c.wide-l.ensures (sym c.in-Some.ensures ∙ ap (λ (n : ℕ). Some n) (sym c.wide.ensures)) (omega (arith, c.well_formed)) in (z.1, z.2)

pub overflow_add-from : goal.overflow_add-from
overflow_add-from c = record { fits = driver_fits (prepared_of c.args.m.now) c.requires.1 c.requires.0 c.requires.2 c.requires.3 c.expr_offset-to.ensures c.wide-w.ensures c.wide-s.ensures c.wide-l.ensures (sym c.in-Some.ensures ∙ ap (λ (n : ℕ). Some n) (sym c.wide.ensures)) c.expr_offset-from.ensures (omega (arith, c.well_formed)) }

pub copy_within-requires : goal.copy_within-requires
copy_within-requires c = let z = driver_moves (prepared_of c.args.m.now) c.requires.1 c.requires.0 c.requires.2 c.requires.3 c.expr_offset-to.ensures c.wide-w.ensures c.wide-s.ensures c.wide-l.ensures (sym c.in-Some.ensures ∙ ap (λ (n : ℕ). Some n) (sym c.wide.ensures)) c.expr_offset-from.ensures in (z.0, z.1)

pub signal_offset-from-requires : goal.signal_offset-from-requires
signal_offset-from-requires c = let z = signal_asks (prepared_of c.args.m.now) c.requires.1 c.requires.0 c.requires.2 c.requires.3 c.expr_offset-to.ensures c.wide-w.ensures c.wide-s.ensures c.wide-l.ensures (omega (arith, c.well_formed)) in (z.1, z.2)

pub overflow_add-from-in-None : goal.overflow_add-from-in-None
overflow_add-from-in-None c = record { fits = signal_fits_lem (prepared_of c.args.m.now) c.requires.1 c.requires.0 c.requires.2 c.requires.3 c.expr_offset-to.ensures c.wide-w.ensures c.wide-s.ensures c.wide-l.ensures c.signal_offset-from.ensures (omega (arith, c.well_formed)) }

pub copy-requires : goal.copy-requires
copy-requires c = signal_copies (prepared_of c.args.m.now) c.requires.1 c.requires.0 c.requires.2 c.requires.3 c.expr_offset-to.ensures c.wide-w.ensures c.wide-s.ensures c.wide-l.ensures c.signal_offset-from.ensures

pub returns-in-Some : goal.returns-in-Some
returns-in-Some c = driver_done (prepared_of c.args.m.now) c.requires.1 c.requires.0 c.requires.2 c.requires.3 c.expr_offset-to.ensures c.wide-w.ensures c.wide-s.ensures c.wide-l.ensures (sym c.in-Some.ensures ∙ ap (λ (n : ℕ). Some n) (sym c.wide.ensures)) c.expr_offset-from.ensures c.copy_within.ensures

pub returns-in-None : goal.returns-in-None
returns-in-None c = signal_done (prepared_of c.args.m.now) c.requires.1 c.requires.0 c.requires.2 c.requires.3 c.expr_offset-to.ensures c.wide-w.ensures c.wide-s.ensures c.wide-l.ensures c.signal_offset-from.ensures (sym c.in-None.ensures) c.copy.ensures
