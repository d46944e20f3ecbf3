use Rattle.std.proofs.Common.{ap, sym, subst, refl}
use Rattle.recorder.specs.Writer.{End, End.ok, End.no}
use Rattle.wires.proofs.Laws.{reads_as, reads_ok, reads_then, reads_err, reads_judged}
use Rattle.wires.specs.Wires.{wires_in}
use Rattle.wires.specs.Expressions.{bit_signal}
use Rattle.wires.proofs.WireMap.bit_signal.Goals as goal

pub returns-in_err-find-in-Wire : goal.returns-in_err-find-in-Wire
unfolding bit_signal
returns-in_err-find-in-Wire c = reads_as (ap (bit_signal (wires_in c.args.self) c.args.self.constants) c.in-Wire.is) (reads_err _ _ c.from_residual.result _ c.in_err-find-in-Wire.ensures c.from_residual.ensures.1)

pub returns-in-Zero : goal.returns-in-Zero
unfolding bit_signal
returns-in-Zero c = reads_as (ap (bit_signal (wires_in c.args.self) c.args.self.constants) c.in-Zero.is) reads_ok

pub returns-in-One : goal.returns-in-One
unfolding bit_signal
returns-in-One c = reads_as (ap (bit_signal (wires_in c.args.self) c.args.self.constants) c.in-One.is) reads_ok

pub returns-in_ok-find-in-Wire : goal.returns-in_ok-find-in-Wire
unfolding bit_signal
returns-in_ok-find-in-Wire c = reads_as (ap (bit_signal (wires_in c.args.self) c.args.self.constants) c.in-Wire.is) (reads_then _ c.in_ok-find-in-Wire.ensures (reads_judged _ _ _ _ c.scalar.ensures))
