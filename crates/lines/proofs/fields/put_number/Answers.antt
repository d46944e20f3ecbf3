use Rattle.text.proofs.Appending.{then_text, then_full}
use Rattle.lines.proofs.fields.put_number.Goals as goal

pub returns-in_err-put : goal.returns-in_err-put
returns-in_err-put c = then_full _ c.in_err-put.ensures c.from_residual.ensures.0

pub returns : goal.returns
returns c = then_text c.in_ok-put.ensures c.put_decimal.ensures
