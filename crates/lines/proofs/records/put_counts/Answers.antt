use Rattle.text.proofs.Appending.{then_text, then_full}
use Rattle.lines.specs.Lines.{counts_text}
use Rattle.lines.proofs.records.put_counts.Goals as goal

pub returns-in_err-put : goal.returns-in_err-put
unfolding counts_text
returns-in_err-put c = then_full _ c.in_err-put.ensures c.from_residual.ensures.0

pub returns : goal.returns
unfolding counts_text
returns c = then_text c.in_ok-put.ensures c.put_fields.ensures
