use Rattle.text.proofs.Appending.{then_text, then_full}
use Rattle.listing.proofs.put_first_line.Goals as goal

pub returns-in_err-put_counts : goal.returns-in_err-put_counts
returns-in_err-put_counts c = then_full _ c.in_err-put_counts.ensures c.from_residual.ensures.0

pub returns : goal.returns
returns c = then_text c.in_ok-put_counts.ensures c.put_byte.ensures
