-- The wire map that lowering has reserved is the one of the tick rule, and each slot has its signal.
use Rattle.std.specs.Prelude.{◌≡◌, List, [], ◌∷◌, ◌++◌, ℕ, suc, ◌<◌, ◌≤◌, eqb, length, get_or}
use Rattle.std.specs.Prelude.{Option, None, Some}
use Rattle.bits.specs.Bits.{pick}
use Rattle.netlist.specs.declared.Bit.TheVariants.{Zero, Wire}
use Rattle.netlist.specs.Netlist.{Port, Netlist}
use Rattle.recorder.specs.Record.{Signal}
use Rattle.recorder.specs.Writer.{Event, signals_of, exprs_of, stmts_of}
use Rattle.behaviour.specs.WireMap.{Source, inputs, shown, pins, bank, Slot, WireRef, find, slots}
use Rattle.wires.specs.Wires.{Wires, WireRef as Ref}
use Rattle.lowering.specs.Reserve.{signal_of}

-- an entry of the tick rule's map, as lowering keeps it
abbrev pub ref_of : Option WireRef → Option Ref
ref_of None = None
ref_of (Some r) = Some (record { signal = r.signal; lsb = r.lowest; width = r.width })

-- the labels of the signals that a source may have: only an input has 0, and only an output port 1
abbrev pub LabelFits : Source → ℕ → Type 0
LabelFits (inputs k) label = label ≡ 0
LabelFits shown label = label ≡ 1
LabelFits (pins c k) label = (2 ≤ label) × (label ≤ 15)
LabelFits (bank cells) label = (2 ≤ label) × (label ≤ 15)

-- an output port's slot holds no bits, whatever its signal's width
abbrev pub WidthFits : Source → ℕ → ℕ → Type 0
WidthFits (inputs k) bits width = width ≡ bits
WidthFits shown bits width = Unit {0}
WidthFits (pins c k) bits width = width ≡ bits
WidthFits (bank cells) bits width = width ≡ bits

pub record SignalFits (slot : Slot) (s : Signal) : Type 0 where
  pub label : LabelFits slot.source s.label
  pub width : WidthFits slot.source (length slot.bits) s.width

abbrev pub SignalsFit : List Slot → List Signal → Type 0
SignalsFit [] [] = Unit {0}
SignalsFit [] (s ∷ ss) = ⊥
SignalsFit (x ∷ xs) [] = ⊥
SignalsFit (x ∷ xs) (s ∷ ss) = SignalFits x s × SignalsFit xs ss

abbrev pub no_slot : Slot
no_slot = record { source = shown; bits = [] }

-- what slot number s says of its bit i
abbrev pub entry_of : List Slot → ℕ → ℕ → WireRef
entry_of held s i = record { signal = s; lowest = i; width = length (get_or held s no_slot).bits; source = (get_or held s no_slot).source }

-- the slots so far, their signals and the map
pub record Mapping (held : List Slot) (ss : List Signal) (m : Wires) : Type 0 where
  pub finds : (w : ℕ) → m w ≡ ref_of (find w held 0)
  -- no wire stands twice: each is found where it stands
  pub apart : (s i w : ℕ) → s < length held → i < length (get_or held s no_slot).bits → get_or (get_or held s no_slot).bits i Zero ≡ Wire w → find w held 0 ≡ Some (entry_of held s i)
  pub fits : SignalsFit held ss

-- the signals of the ports, from number p on
abbrev pub port_signals : ℕ → List Port → List Signal
port_signals p [] = []
port_signals p (x ∷ xs) = pick (eqb x.direction 1) (signal_of 1 (length x.bits) p) (signal_of 0 (length x.bits) p) ∷ port_signals (suc p) xs

-- what reserving a netlist has written, when it ends with the map m
pub record Reserved (n : Netlist) (m : Wires) (es : List Event) : Type 0 where
  -- the signals of cells and banks, after those of the ports
  pub more : List Signal
  pub signals : signals_of es ≡ port_signals 0 n.ports ++ more
  pub exprs : exprs_of es ≡ []
  pub stmts : stmts_of es ≡ []
  pub mapping : Mapping (slots n) (port_signals 0 n.ports ++ more) m
