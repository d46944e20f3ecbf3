use Rattle.std.proofs.Common.{rules, arith, refl, sym, ◌∙◌, ◌≡◌, length, take}
use Rattle.refusal.specs.declared.Refusal.TheVariants.{BufferTooShort}
use Rattle.wires.proofs.Laws.{roomy_yes, roomy_no}
use Rattle.wires.proofs.OnceLaws.{once_as, plain_swept, once_refused}
use Rattle.wires.proofs.Vectors.{doing_start, doing_step, doing_err, doing_end, taken}
use Rattle.wires.proofs.Emitter.vector_once.Goals as goal

pub returns-then-parts-end : goal.returns-then-parts-end
returns-then-parts-end c = once_as (roomy_no c.args.width c.args.parts.now _ c.if-parts-end.true) (once_refused _ (BufferTooShort c.args.width) c.swept.ensures.same c.swept.ensures.left)

pub loop-i-init : goal.loop-i-init
loop-i-init c = (search rules, doing_start _ refl)

pub returns-in_err-part : goal.returns-in_err-part
returns-in_err-part c =
    once_as (roomy_yes c.args.width c.args.parts.now _ c.if-parts-end.false)
    (doing_err c.loop-i.invariant.1 refl (search rules) _ (omega arith) c.vector_bit-bit.ensures _ c.from_residual.result _ c.from_residual.ensures.1 c.in_err-part.ensures)

pub loop-i-preserved : goal.loop-i-preserved
loop-i-preserved c = (search rules, doing_step c.loop-i.invariant.1 refl (search rules) _ (omega arith) c.vector_bit-bit.ensures (search rules) c.in_ok-part.ensures)

pub returns : goal.returns
returns c =
    let n : length c.loop-i.part-items ≡ c.args.width = c.loop-i.invariant.0 in
    once_as (roomy_yes c.args.width c.args.parts.now _ c.if-parts-end.false)
    (doing_end c.loop-i.invariant.1 _ c.args.width (search rules) refl (search rules) (taken _ _ n)
    (plain_swept _ {e = c.loop-i.self} c.concat_parts-r.result c.swept-2.ensures.same c.concat_parts-r.ensures (record { recorder = refl; seen = refl; first = refl; map = refl; size = refl }) refl c.swept-2.ensures.left))
