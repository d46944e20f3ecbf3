use Rattle.std.proofs.Common.{refl, ◌≡◌, subst, ℕ, Result, Ok, Err}
use denote.Enum.Declared.{tag_of}
use Rattle.refusal.specs.declared.Refusal.{Refusal}
use Rattle.recorder.specs.declared.SignalId.{SignalId}
use Rattle.recorder.specs.Writer.{End, declare}
use Rattle.recorder.specs.Calls.{Writes, declared}
use Rattle.lowering.specs.Reserve.{signal_of}
use Rattle.recorder.specs.declared.Label.{Label}
use Rattle.recorder.specs.declared.Label.TheVariants as L
use Rattle.recorder.specs.contracts.Label.{the_type}
use Rattle.recorder.specs.Calls.{label_of}
use Rattle.converter.specs.Tables.{signalled}
use Rattle.converter.proofs.Reserver.signal.Goals as goal

number : (l : Label) → tag_of the_type l ≡ label_of l
number L.Input = refl
number L.Output = refl
number L.Lut4 = refl
number L.Pfumx = refl
number L.L6mux21 = refl
number L.Ccu2c = refl
number L.Multiplier = refl
number L.FlipFlops = refl
number L.BlockRam = refl
number L.DistributedRam = refl
number L.Io = refl
number L.Jtagg = refl
number L.Pll = refl
number L.RamWord = refl
number L.Zero = refl
number L.One = refl

handed_on : (q : Result SignalId Refusal) → declared q ≡ signalled q
handed_on (Ok s) = refl
handed_on (Err x) = refl

pub returns : goal.returns
returns c = record {
  same = record { recorder = refl; lists = c.signal.ensures.same; wires = refl; places = refl; wires_size = refl; places_size = refl };
  map = refl;
  wrote =
      subst (λ (e : End ℕ). Writes c.args.self.now.recorder.now (declare (signal_of (label_of c.args.label) c.args.width c.args.owner)) e c.signal.new.self) (handed_on c.signal.result)
      (subst (λ (k : ℕ). Writes c.args.self.now.recorder.now (declare (signal_of k c.args.width c.args.owner)) (declared c.signal.result) c.signal.new.self) (number c.args.label) c.signal.ensures);
}
