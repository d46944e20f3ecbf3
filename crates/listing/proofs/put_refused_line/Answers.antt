use Rattle.text.proofs.Appending.{then_text, then_full}
use Rattle.listing.proofs.put_refused_line.Goals as goal

pub returns-in_err-put_refused : goal.returns-in_err-put_refused
returns-in_err-put_refused c = then_full _ c.in_err-put_refused.ensures c.from_residual.ensures.0

pub returns : goal.returns
returns c = then_text c.in_ok-put_refused.ensures c.put_byte.ensures
