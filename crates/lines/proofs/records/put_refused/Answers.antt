use Rattle.text.proofs.Appending.{then_text, then_full}
use Rattle.lines.specs.Lines.{refused_text, field}
use Rattle.lines.proofs.records.put_refused.Goals as goal

pub returns-in_err-put : goal.returns-in_err-put
unfolding refused_text
returns-in_err-put c = then_full _ c.in_err-put.ensures c.from_residual.ensures.0

pub returns-in_err-put_number : goal.returns-in_err-put_number
unfolding refused_text field
returns-in_err-put_number c = then_text c.in_ok-put.ensures (then_full _ c.in_err-put_number.ensures c.from_residual-in_err-put_number.ensures.0)

pub returns : goal.returns
unfolding refused_text field
returns c = then_text c.in_ok-put.ensures (then_text c.in_ok-put_number.ensures c.put_number-2.ensures)
