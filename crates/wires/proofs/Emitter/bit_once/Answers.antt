use Rattle.std.proofs.Common.{ap}
use Rattle.wires.proofs.OnceLaws.{once_as, once_pure}
use Rattle.wires.specs.Wires.{wires_in}
use Rattle.wires.specs.Once.{seen_in}
use Rattle.wires.specs.Expressions.{bit_once}
use Rattle.wires.proofs.Emitter.bit_once.Goals as goal

pub returns-in-Zero : goal.returns-in-Zero
unfolding bit_once
returns-in-Zero c = once_as (ap (bit_once (wires_in c.args.self.now.map) (seen_in c.args.self.now)) c.in-Zero.is) once_pure

pub returns-in-One : goal.returns-in-One
unfolding bit_once
returns-in-One c = once_as (ap (bit_once (wires_in c.args.self.now.map) (seen_in c.args.self.now)) c.in-One.is) once_pure

pub returns-in-Wire : goal.returns-in-Wire
returns-in-Wire c = once_as (ap (bit_once (wires_in c.args.self.now.map) (seen_in c.args.self.now)) c.in-Wire.is) c.wire_once.ensures
