use Rattle.text.proofs.Appending.{then_text, then_full}
use Rattle.listing.proofs.put_line.Goals as goal

pub returns-in_err-put_record : goal.returns-in_err-put_record
returns-in_err-put_record g c = then_full _ c.in_err-put_record.ensures c.from_residual.ensures.0

pub returns : goal.returns
returns g c = then_text c.in_ok-put_record.ensures c.put_byte.ensures
