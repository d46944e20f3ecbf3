-- What the wires hold when the signals hold σ: each wire the bit that the wire map finds for it.
use Rattle.std.specs.Prelude.{◌≡◌, Bool, false, List, [], ◌∷◌, ◌++◌, ℕ, zero, suc, ◌+◌, get_or}
use Rattle.std.specs.Prelude.{Option, None, Some}
use Rattle.bits.specs.Bits.{pick, Bits}
use Rattle.netlist.specs.declared.Bit.{Bit}
use Rattle.netlist.specs.declared.Bit.TheVariants.{Zero}
use Rattle.recorder.specs.Evaluate.{Signals}
use Rattle.behaviour.specs.Behaviour.{Valuation, value}
use Rattle.wires.specs.Wires.{WireRef, Wires}

abbrev pub ref_bit : Signals → Option WireRef → Bool
ref_bit σ None = false
ref_bit σ (Some r) = get_or (σ r.signal) r.lsb false

abbrev pub held : Signals → Wires → Valuation
held σ m w = ref_bit σ (m w)

-- k bits from place `at` on; past the end stand zeros
abbrev pub values_at : Valuation → List Bit → ℕ → ℕ → Bits
values_at v bits at zero = []
values_at v bits at (suc k) = values_at v bits at k ++ (value v (get_or bits (at + k) Zero) ∷ [])

-- the signal of a wire has these bits
abbrev pub Driven : Signals → Wires → ℕ → Bits → Type 0
Driven σ m w v = (r : WireRef) → m w ≡ Some r → σ r.signal ≡ v

-- a candidate of an address: whether it is the one, and its word
pub record Choice : Type 0 where
  pub hit : Bool
  pub word : Bits

-- the word of the last candidate that is the one, or v
abbrev pub last_choice : List Choice → Bits → Bits
last_choice [] v = v
last_choice (c ∷ cs) v = last_choice cs (pick c.hit c.word v)
