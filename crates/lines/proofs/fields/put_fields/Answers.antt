use Rattle.std.proofs.Common.{◌≡◌, get_or, le_refl}
use Rattle.text.proofs.Going.{going_as, going_step, going_stop, going_end}
use Rattle.lines.proofs.Marked.{left_end, left_next}
use Rattle.lines.proofs.fields.put_fields.Goals as goal

pub returns-in_err-put_field : goal.returns-in_err-put_field
returns-in_err-put_field c =
    let mark : c.unwrap_or-mark.result ≡ get_or c.args.marks.now c.loop-i.i c.args.last = cc (c.get.ensures.lookup.4 (le_refl _) c.args.last) in
    going_stop _ (going_as (left_next _ _ _ _ mark c.loop-i-test.true) c.loop-i.invariant) c.in_err-put_field.ensures c.from_residual.ensures.0

pub loop-i-preserved : goal.loop-i-preserved
loop-i-preserved c =
    let mark : c.unwrap_or-mark.result ≡ get_or c.args.marks.now c.loop-i.i c.args.last = cc (c.get.ensures.lookup.4 (le_refl _) c.args.last) in
    going_step (going_as (left_next _ _ _ _ mark c.loop-i-test.true) c.loop-i.invariant) c.in_ok-put_field.ensures

pub returns : goal.returns
returns c = going_end (going_as (left_end _ _ _ _ c.loop-i-test.false) c.loop-i.invariant) c.put.ensures
