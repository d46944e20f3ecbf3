use Rattle.std.proofs.Common.{refl}
use Rattle.wires.proofs.OnceLaws.{once_then, once_err, plain_keep, plain_swept}
use Rattle.wires.specs.Expressions.{asserted_once}
use Rattle.wires.proofs.Emitter.asserted_once.Goals as goal

pub returns-in_err-e : goal.returns-in_err-e
unfolding asserted_once
returns-in_err-e c = once_err _ c.from_residual.result _ c.from_residual.ensures.1 c.in_err-e.ensures _

pub returns : goal.returns
unfolding asserted_once
returns c =
    once_then c.in_ok-e.ensures _
    (plain_keep refl (plain_swept _ {e = c.bit_once.new.self} c.levelled-r.result c.swept.ensures.same c.levelled-r.ensures (record { recorder = refl; seen = refl; first = refl; map = refl; size = refl }) refl c.swept.ensures.left))
