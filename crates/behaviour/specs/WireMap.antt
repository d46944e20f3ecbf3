-- The wire map that the Rust holds in the end: for each wire the signal that holds it, its bit there and the signal's width.
-- Signals are numbered as the Rust makes them: ports, outputs of cells in cell order, banks of flip-flops, zero, one, RAM words.
use Rattle.std.specs.Prelude.{List, [], ◌∷◌, ◌++◌, map, Bool, true, false, ℕ, suc, ◌+◌, length, eqb}
use Rattle.std.specs.Prelude.{Option, None, Some}
use Rattle.bits.specs.Bits.{pick}
use Rattle.netlist.specs.declared.Bit.{Bit}
use Rattle.netlist.specs.declared.Bit.TheVariants.{Zero, One, Wire}
use Rattle.netlist.specs.Netlist.{SecondPort, Pll, Cell, Port, Netlist}
use Rattle.netlist.specs.Netlist.{lut4, pfumx, l6mux21, ccu2c, multiplier, flip_flop, block_ram, distributed_ram, io, jtagg, pll}
use Rattle.netlist.specs.Reader.{same_bit}
use Rattle.behaviour.specs.Banks.{Bank, collect_flip_flop_banks, cells_of, outputs_of}

-- SIGNALS

-- what gives a signal its bits, from the lowest
pub data Source : Type 0 where
  -- tick bits, from this one on
  inputs : ℕ → Source
  -- an output port: no wire is read from it
  shown : Source
  -- outputs of this cell, from this pin on
  pins : ℕ → ℕ → Source
  -- flip-flops, one to a bit, by their cells
  bank : List ℕ → Source

-- a signal that has wires: its source, and the bits that it holds for the wire map (none for an output port)
pub record Slot : Type 0 where
  pub source : Source
  pub bits : List Bit

-- PORTS: a signal each, in order

-- an input or inout port holds its bits, of which constants are no wires; an output port holds none
abbrev pub port_slots : List Port → ℕ → List Slot
port_slots [] k = []
port_slots (p ∷ l) k =
    pick (eqb p.direction 1)
    (record { source = shown; bits = [] } ∷ port_slots l k)
    (record { source = inputs k; bits = p.bits } ∷ port_slots l (k + length p.bits))

-- the number of tick bits: those of input and inout ports, constants too
abbrev pub tick_bits : List Port → ℕ
tick_bits [] = 0
tick_bits (p ∷ l) = pick (eqb p.direction 1) (tick_bits l) (length p.bits + tick_bits l)

-- WHERE A WIRE IS HELD

-- the place of a wire in a list of bits, counted from i
abbrev pub place_of : ℕ → List Bit → ℕ → Option ℕ
place_of w [] i = None
place_of w (b ∷ l) i = pick (same_bit (Wire w) b) (Some i) (place_of w l (suc i))

-- an entry of the wire map
pub record WireRef : Type 0 where
  pub signal : ℕ
  pub lowest : ℕ
  pub width : ℕ
  pub source : Source

abbrev pub held_at : Option ℕ → Slot → ℕ → Option WireRef → Option WireRef
held_at (Some i) s n later = Some (record { signal = n; lowest = i; width = length s.bits; source = s.source })
held_at None s n later = later

-- the first slot that holds a wire, counted from n. (Where lowering accepts, no wire stands twice in the slots: 7.)
abbrev pub find : ℕ → List Slot → ℕ → Option WireRef
find w [] n = None
find w (s ∷ l) n = held_at (place_of w s.bits 0) s n (find w l (suc n))

abbrev pub is_some : {A : Type 0} → Option A → Bool
is_some None = false
is_some (Some a) = true

-- CELLS: their outputs in cell order

-- one signal for each wire, pins from k on
abbrev pub single : ℕ → List ℕ → ℕ → List Slot
single c [] k = []
single c (w ∷ l) k = record { source = pins c k; bits = Wire w ∷ [] } ∷ single c l (suc k)

-- one signal for all wires
abbrev pub together : ℕ → List ℕ → ℕ → List Slot
together c ws k = record { source = pins c k; bits = map Wire ws } ∷ []

abbrev pub second_slot : ℕ → ℕ → Option SecondPort → List Slot
second_slot c k None = []
second_slot c k (Some p) = together c p.output k

-- the pins of a PLL, in the order in which they get signals
abbrev pub pll_wires : Pll → List ℕ
pll_wires p = p.feedback ∷ p.output ∷ p.locked ∷ p.more

-- a pin of a PLL whose wire is held already adds no signal: the wire keeps its driver
abbrev pub reserve_fresh : ℕ → List ℕ → ℕ → List Slot → List Slot
reserve_fresh c [] k held = held
reserve_fresh c (w ∷ l) k held = reserve_fresh c l (suc k) (pick (is_some (find w held 0)) held (held ++ single c (w ∷ []) k))

-- cell c after the slots that are held already; flip-flops come later, in banks
abbrev pub reserve : ℕ → Cell → List Slot → List Slot
reserve c (lut4 is o t) held = held ++ single c (o ∷ []) 0
reserve c (pfumx a b s o) held = held ++ single c (o ∷ []) 0
reserve c (l6mux21 a b s o) held = held ++ single c (o ∷ []) 0
reserve c (ccu2c u) held = held ++ single c (u.sum0 ∷ u.sum1 ∷ u.carry ∷ []) 0
reserve c (multiplier a b o) held = held ++ together c o 0
reserve c (flip_flop f) held = held
reserve c (block_ram r) held = held ++ (together c r.output 0 ++ second_slot c r.width r.second)
reserve c (distributed_ram r) held = held ++ together c r.output 0
reserve c (io p a o t) held = held ++ single c (o ∷ []) 0
reserve c (jtagg o) held = held ++ single c o 0
reserve c (pll p) held = reserve_fresh c (pll_wires p) 0 held

abbrev pub reserve_all : List Cell → ℕ → List Slot → List Slot
reserve_all [] c held = held
reserve_all (x ∷ l) c held = reserve_all l (suc c) (reserve c x held)

-- BANKS: a signal each, after the cells

abbrev pub bank_slot : Bank → Slot
bank_slot b = record { source = bank (cells_of b.members); bits = map Wire (outputs_of b.members) }

-- THE MAP

-- the signals before zero and one, by their numbers
abbrev pub slots : Netlist → List Slot
slots n = reserve_all n.cells 0 (port_slots n.ports 0) ++ map bank_slot (collect_flip_flop_banks n.cells)

abbrev pub wire_map : Netlist → ℕ → Option WireRef
wire_map n w = find w (slots n) 0

abbrev pub signal_in : Option WireRef → Option ℕ
signal_in None = None
signal_in (Some r) = Some r.signal

-- the signal that the map holds for a clock: zero and one come right after the slots. (A wire that is missing has none: 8.)
abbrev pub clock_signal : List Slot → Bit → Option ℕ
clock_signal held Zero = Some (length held)
clock_signal held One = Some (suc (length held))
clock_signal held (Wire w) = signal_in (find w held 0)

-- a RAM has one signal more for each of its words
abbrev pub word_signals : Cell → ℕ
word_signals (lut4 is o t) = 0
word_signals (pfumx a b s o) = 0
word_signals (l6mux21 a b s o) = 0
word_signals (ccu2c u) = 0
word_signals (multiplier a b o) = 0
word_signals (flip_flop f) = 0
word_signals (block_ram r) = r.depth
word_signals (distributed_ram r) = 16
word_signals (io p a o t) = 0
word_signals (jtagg o) = 0
word_signals (pll p) = 0

abbrev pub total : List ℕ → ℕ
total [] = 0
total (x ∷ l) = x + total l

-- the signals of the model
abbrev pub signal_count : Netlist → ℕ
signal_count n = length (slots n) + 2 + total (map word_signals n.cells)
