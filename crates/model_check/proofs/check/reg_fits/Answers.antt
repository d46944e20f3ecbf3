use Rattle.std.proofs.Common.{arith, sym, ◌∙◌}
use Rattle.simulation.specs.Index.{widths_in}
use Rattle.simulation.proofs.Stmts.{reg_without, reg_with}
use Rattle.model_check.proofs.check.reg_fits.Goals as goal
use Rattle.model_check.proofs.check.reg_fits.Goals.{then-fields-lt9+in-0-1, else-fields-lt9+in-0-1}

pub returns-then-reset_fits : goal.returns-then-reset_fits
returns-then-reset_fits c = reg_with (widths_in c.args.signals.list.now) (widths_in c.args.exprs.list.now) _ (sym c.head_fits.ensures ∙ c.if-not-head_fits.false) (omega arith) c.in-1.len_at_least (sym c.reset_fits.ensures ∙ c.if-reset_fits.true) c.enable_fits.ensures

pub returns-in-0 : goal.returns-in-0
returns-in-0 c =
    let by = reg_without (widths_in c.args.signals.list.now) (widths_in c.args.exprs.list.now) _ (sym c.head_fits.ensures ∙ c.if-not-head_fits.false) {x = c.enable_fits-in-0.result} in
    elim c.in-0-1.branch [ then-fields-lt9+in-0-1 w ↦ by (omega arith) c.enable_fits-in-0.ensures | else-fields-lt9+in-0-1 w ↦ by (omega arith) c.enable_fits-in-0.ensures ]
