use Rattle.text.proofs.Appending.{then_text, then_full, then_nothing}
use Rattle.lines.specs.Lines.{record_text}
use Rattle.std.proofs.lemmas.List.{nil_from_length}
use Rattle.lines.proofs.records.put_record.Goals as goal

pub returns-in_err-put_head : goal.returns-in_err-put_head
unfolding record_text
returns-in_err-put_head g c = then_full _ c.in_err-put_head.ensures c.from_residual.ensures.0

pub returns-in_default : goal.returns-in_default
unfolding record_text
returns-in_default g c = rw (nil_from_length _ c.in_default.ensures.cases) (then_nothing c.in_ok-put_head.ensures)

pub returns-in_err-put_name : goal.returns-in_err-put_name
unfolding record_text
returns-in_err-put_name g c = rw c.in-Some.ensures.cases.0 (then_text c.in_ok-put_head.ensures (then_full _ c.in_err-put_name.ensures c.from_residual-in_err-put_name.ensures.0))

pub returns : goal.returns
unfolding record_text
returns g c = rw c.in-Some.ensures.cases.0 (then_text c.in_ok-put_head.ensures (then_text c.in_ok-put_name.ensures c.put_rest.ensures))
