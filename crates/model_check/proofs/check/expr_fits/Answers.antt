use Rattle.std.proofs.Common.{sym, ◌∙◌}
use Rattle.simulation.specs.Index.{widths_in}
use Rattle.simulation.proofs.Exprs.{concat_kind}
use Rattle.model_check.proofs.check.expr_fits.Goals as goal

pub returns-in-2 : goal.returns-in-2
returns-in-2 c = c.concat_fits.ensures ∙ sym (concat_kind c.args.widest (widths_in c.args.signals.list.now) (widths_in c.args.exprs.list.now) c.args.n c.args.fields.now (sym c.word.ensures ∙ c.in-2.is))
