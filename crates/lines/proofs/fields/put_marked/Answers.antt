use Rattle.text.proofs.Appending.{then_text, then_full}
use Rattle.lines.proofs.fields.put_marked.Goals as goal

pub returns-in_err-put_byte : goal.returns-in_err-put_byte
returns-in_err-put_byte c = then_full _ c.in_err-put_byte.ensures c.from_residual.ensures.0

pub returns : goal.returns
returns c = then_text c.in_ok-put_byte.ensures c.put_decimal.ensures
