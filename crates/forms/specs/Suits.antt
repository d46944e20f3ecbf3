-- What the form of a netlist's records asks of the wire map: each target has its value's width, and may depend on what its cell reads.
use Rattle.std.specs.Prelude.{◌≡◌, ◌⊎◌, true, ℕ, suc, ◌≤◌, ◌<◌, eqb, length, get_or}
use mathlib.Core.List.{List, [], ◌∷◌, ◌++◌, Memᴰ as Mem}
use Rattle.std.specs.Prelude.{Option, None, Some}
use Rattle.netlist.specs.declared.Bit.{Bit}
use Rattle.netlist.specs.declared.Bit.TheVariants.{Wire}
use Rattle.netlist.specs.Netlist.{Port, SecondPort, Cell, lut4, pfumx, l6mux21, ccu2c, multiplier, flip_flop, block_ram, distributed_ram, io, jtagg, pll}
use Rattle.behaviour.specs.Banks.{Bank}
use Rattle.behaviour.specs.Behaviour.{wires_of}
use Rattle.wires.specs.Wires.{WireRef, Wires}
use Rattle.forms.specs.Typed.{NoSignal}

-- y is the signal of a wire among these bits
pub record From (m : Wires) (bits : List Bit) (y : ℕ) : Type 0 where
  pub wire : ℕ
  pub one_of : Mem wire (wires_of bits)
  pub ref : WireRef
  pub is : m wire ≡ Some ref
  pub signal : ref.signal ≡ y

-- the signal of wire w is v wide
abbrev pub WideAs : Wires → ℕ → ℕ → Type 0
WideAs m w v = (r : WireRef) → m w ≡ Some r → r.width ≡ v

-- D says what a signal may depend on; signals from number `words` on are those of RAM words
module _ (D : ℕ → ℕ → Type 0) (words : ℕ) (m : Wires) where
  -- the signal of wire w is v wide and may depend on the signals of S
  pub record Suits (w v : ℕ) (S : ℕ → Type 0) : Type 0 where
    pub width : WideAs m w v
    pub may : (r : WireRef) → m w ≡ Some r → (y : ℕ) → S y → D r.signal y

  abbrev pub AllSuit : List ℕ → (ℕ → Type 0) → Type 0
  AllSuit [] S = Unit {0}
  AllSuit (w ∷ ws) S = Suits w 1 S × AllSuit ws S

  abbrev pub SecondSuits : ℕ → Option SecondPort → Type 0
  SecondSuits width None = Unit {0}
  SecondSuits width (Some p) = WideAs m (get_or p.output 0 0) width

  abbrev pub CellSuits : Cell → Type 0
  CellSuits (lut4 i o t) = Suits o 1 (From m i)
  CellSuits (pfumx t f s o) = Suits o 1 (From m (t ∷ f ∷ s ∷ []))
  CellSuits (l6mux21 z y s o) = Suits o 1 (From m (z ∷ y ∷ s ∷ []))
  CellSuits (ccu2c u) = AllSuit (u.sum0 ∷ u.sum1 ∷ u.carry ∷ []) (From m (u.row0 ++ (u.row1 ++ (u.carry_in ∷ []))))
  CellSuits (multiplier l r p) = Suits (get_or p 0 0) 36 (From m (l ++ r))
  CellSuits (flip_flop f) = Unit {0}
  CellSuits (block_ram r) = WideAs m (get_or r.output 0 0) r.width × SecondSuits r.width r.second
  CellSuits (distributed_ram r) = Suits (get_or r.output 0 0) 4 (λ y. From m r.read_address y ⊎ (words ≤ y))
  CellSuits (io p d i t) = Suits i 1 (From m (Wire p ∷ d ∷ t ∷ []))
  CellSuits (jtagg ws) = (w : ℕ) → Mem w ws → Suits w 1 NoSignal
  CellSuits (pll p) = AllSuit (p.feedback ∷ p.output ∷ p.more) (From m (p.reference ∷ [])) × Suits p.locked 1 NoSignal

  abbrev pub BankSuits : Bank → Type 0
  BankSuits b = WideAs m b.leader.flop.output (length b.members)

  -- port p is an output
  abbrev pub PortSuits : ℕ → Port → Type 0
  PortSuits p port = eqb port.direction 1 ≡ true → (p < words) × ((y : ℕ) → From m port.bits y → D p y)

  abbrev pub PortsSuit : ℕ → List Port → Type 0
  PortsSuit p [] = Unit {0}
  PortsSuit p (x ∷ xs) = PortSuits p x × PortsSuit (suc p) xs
