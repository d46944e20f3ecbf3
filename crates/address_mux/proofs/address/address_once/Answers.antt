use Rattle.std.proofs.Common.{rules, arith, refl, ◌≡◌, length}
use Rattle.refusal.specs.declared.Refusal.TheVariants.{BufferTooShort}
use Rattle.wires.proofs.OnceLaws.{once_as, plain_swept, once_refused}
use Rattle.wires.proofs.Vectors.{doing_start, doing_step, doing_err, doing_end, taken}
use Rattle.address_mux.proofs.Addresses.{at_most_yes, at_most_no, long_enough}
use Rattle.address_mux.proofs.address.address_once.Goals as goal

pub returns-then-end-gt33 : goal.returns-then-end-gt33
returns-then-end-gt33 g c = once_as (at_most_no 33 c.args.width _ c.if-end-gt33.true) (once_refused _ (BufferTooShort c.args.width) c.swept.ensures.same c.swept.ensures.left)

pub loop-i-init : goal.loop-i-init
loop-i-init g c = (search rules, doing_start _ (at_most_yes 33 c.args.width _ (omega (arith, c.if-end-gt33.false))))

pub returns-in_err-part : goal.returns-in_err-part
returns-in_err-part g c = doing_err c.loop-i.invariant.1 refl (search rules) _ (omega arith) c.address_bit-bit.ensures _ c.from_residual.result _ c.from_residual.ensures.1 c.in_err-part.ensures

pub loop-i-preserved : goal.loop-i-preserved
loop-i-preserved g c = (search rules, doing_step c.loop-i.invariant.1 refl (search rules) _ (omega arith) c.address_bit-bit.ensures (search rules) c.in_ok-part.ensures)

pub returns : goal.returns
returns g c =
    let n : length c.loop-i.part-items ≡ c.args.width = c.loop-i.invariant.0 in
    doing_end c.loop-i.invariant.1 _ c.args.width (search rules) refl (long_enough _ _ n) (taken _ _ n)
    (plain_swept _ {e = c.loop-i.emitter} c.concat_parts-r.result c.swept-2.ensures.same c.concat_parts-r.ensures (record { recorder = refl; seen = refl; first = refl; map = refl; size = refl }) refl c.swept-2.ensures.left)
