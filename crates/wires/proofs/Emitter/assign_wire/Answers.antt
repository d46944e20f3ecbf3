use Rattle.std.proofs.Common.{refl}
use Rattle.wires.proofs.OnceLaws.{plain_swept}
use Rattle.wires.proofs.Emitter.assign_wire.Goals as goal

pub returns : goal.returns
returns c = plain_swept _ {e = c.args.self.now} c.assign_wire-r.result c.swept.ensures.same c.assign_wire-r.ensures (record { recorder = refl; seen = refl; first = refl; map = refl; size = refl }) refl c.swept.ensures.left
