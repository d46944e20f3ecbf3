use Rattle.std.proofs.Common.{sym, ◌∙◌}
use Rattle.simulation.specs.Index.{widths_in}
use Rattle.simulation.proofs.Stmts.{reg_kind}
use Rattle.model_check.proofs.check.stmt_fits.Goals as goal

pub returns-in-1 : goal.returns-in-1
returns-in-1 c = c.reg_fits.ensures ∙ sym (reg_kind (widths_in c.args.signals.list.now) (widths_in c.args.exprs.list.now) c.args.fields.now (sym c.word.ensures ∙ c.in-1.is))
