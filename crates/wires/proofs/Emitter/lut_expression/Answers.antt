use Rattle.std.proofs.Common.{refl}
use Rattle.wires.proofs.OnceLaws.{plain_swept}
use Rattle.wires.proofs.Emitter.lut_expression.Goals as goal

pub returns : goal.returns
returns c = plain_swept _ {e = c.args.self.now} c.lut-r.result c.swept.ensures.same c.lut-r.ensures (record { recorder = refl; seen = refl; first = refl; map = refl; size = refl }) refl c.swept.ensures.left
