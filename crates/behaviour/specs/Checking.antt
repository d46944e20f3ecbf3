-- Rows of the computed tables, and what the definitions give for them.
use Rattle.std.specs.Prelude.{List, [], map, Bool, false, ℕ}
use Rattle.std.specs.Prelude.{Option, None, Some}
use Rattle.bits.specs.Bits.{Bits, flat, number}
use Rattle.netlist.specs.Reader.{Read, netlist, refused, read_words, base}
use Rattle.behaviour.specs.WireMap.{WireRef, wire_map, signal_count}
use Rattle.behaviour.specs.Behaviour.{Tick, shows}
use Rattle.behaviour.specs.LoopTest.{loop_free}

-- a tick with no clock, and one that fires a signal's edge
abbrev pub still : List ℕ → Tick
still bits = record { bits = bits; fired = None }

abbrev pub fire : List ℕ → ℕ → ℕ → Tick
fire bits signal edge = record { bits = bits; fired = Some (record { signal = signal; edge = edge }) }

-- TICKS

pub record Row : Type 0 where
  -- a netlist
  pub words : List ℕ
  pub ticks : List Tick
  -- after each tick, all output bits in port order as one number, the lowest bit first
  pub shown : List ℕ

abbrev pub shown_read : Read → List Tick → List ℕ
shown_read (netlist n) l = map (λ (ports : List Bits). number (flat ports)) (shows n l)
shown_read (refused k p) l = []

abbrev pub shown_by : Row → List ℕ
shown_by r = shown_read (read_words base r.words) r.ticks

-- THE WIRE MAP

pub record Entries : Type 0 where
  -- how many signals the model has
  pub signals : ℕ
  -- of each wire asked for: its signal, its bit there and the signal's width
  pub of : List (Option (ℕ × ℕ × ℕ))

pub record MapRow : Type 0 where
  pub words : List ℕ
  pub wires : List ℕ
  pub entries : Entries

abbrev pub entry : Option WireRef → Option (ℕ × ℕ × ℕ)
entry None = None
entry (Some r) = Some (r.signal, r.lowest, r.width)

abbrev pub map_read : Read → List ℕ → Entries
map_read (netlist n) ws = record { signals = signal_count n; of = map (λ (w : ℕ). entry (wire_map n w)) ws }
map_read (refused k p) ws = record { signals = 0; of = [] }

abbrev pub map_of : MapRow → Entries
map_of r = map_read (read_words base r.words) r.wires

-- LOOPS

pub record LoopRow : Type 0 where
  pub words : List ℕ
  -- whether it is without a loop
  pub without : Bool

abbrev pub loopless_read : Read → Bool
loopless_read (netlist n) = loop_free n
loopless_read (refused k p) = false

abbrev pub loopless : LoopRow → Bool
loopless r = loopless_read (read_words base r.words)
