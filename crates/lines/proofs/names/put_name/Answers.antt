use Rattle.text.proofs.Appending.{then_text, then_full, appended_as}
use Rattle.lines.proofs.Marked.{named_within, named_past}
use Rattle.lines.proofs.names.put_name.Goals as goal

pub returns-in_err-put_byte-in-Some : goal.returns-in_err-put_byte-in-Some
returns-in_err-put_byte-in-Some c = then_full _ c.in_err-put_byte-in-Some.ensures c.from_residual.ensures.0

pub returns-in_ok-put_byte-in-Some : goal.returns-in_ok-put_byte-in-Some
returns-in_ok-put_byte-in-Some c =
    let found = c.in-Some.ensures.lookup in
    then_text c.in_ok-put_byte-in-Some.ensures (appended_as (named_within _ _ _ found.3.0 found.1) c.put.ensures)

pub returns-in-None : goal.returns-in-None
returns-in-None c = let past = c.in-None.ensures.lookup in appended_as (named_past _ _ past.3) c.put_number.ensures
