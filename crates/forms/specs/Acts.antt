-- Which signals and which statements' targets a netlist's emission writes, in order.
use Rattle.std.specs.Prelude.{◌≡◌, ◌||◌, List, [], ◌∷◌, ◌++◌, map, ℕ, zero, suc, ◌+◌, eqb, get_or, take, drop, replicate}
use Rattle.std.specs.Prelude.{Option, None, Some}
use Rattle.bits.specs.Bits.{pick}
use Rattle.netlist.specs.Netlist.{Port, SecondPort, Netlist, Cell, lut4, pfumx, l6mux21, ccu2c, multiplier, flip_flop, block_ram, distributed_ram, io, jtagg, pll}
use Rattle.recorder.specs.Record.{Signal, Stmt, target}
use Rattle.recorder.specs.Writer.{Event, signals_of, stmts_of, Count, Writer}
use Rattle.behaviour.specs.Banks.{Bank, collect_flip_flop_banks}
use Rattle.behaviour.specs.WireMap.{word_signals}
use Rattle.wires.specs.Wires.{Wires, WireRef}
use Rattle.memories.specs.Memories.{word_signal}
use Rattle.lowering.specs.Reserve.{signal_of}
use Rattle.meaning.specs.Writes.{Writes}

-- a writer that makes neither
pub record Quiet {A : Type 0} (w : Writer A) : Type 0 where
  pub signals : (n : Count) → signals_of (w n).events ≡ []
  pub stmts : (n : Count) → stmts_of (w n).events ≡ []

abbrev pub targets : List Stmt → List ℕ
targets ts = map target ts

-- these signals, and statements on these targets
pub record Done (ss : List Signal) (ts : List ℕ) (es : List Event) : Type 0 where
  pub signals : signals_of es ≡ ss
  pub stmts : targets (stmts_of es) ≡ ts

-- from a count on: unless it refuses, its result is as R says, and its events are those
abbrev pub Acts : {A : Type 0} → Count → Writer A → (A → Type 0) → List Signal → List ℕ → Type 0
Acts n w R ss ts = Writes n w (λ a es. R a × Done ss ts es)

-- the signal of a wire (none where the wire is missing)
abbrev pub aim : Option WireRef → ℕ
aim None = 0
aim (Some r) = r.signal

abbrev pub range : ℕ → ℕ → List ℕ
range s zero = []
range s (suc k) = s ∷ range (suc s) k

abbrev pub second_aim : Wires → Option SecondPort → List ℕ
second_aim m None = []
second_aim m (Some p) = aim (m (get_or p.output 0 0)) ∷ []

abbrev pub aims : Wires → List ℕ → List ℕ
aims m ws = map (λ (w : ℕ). aim (m w)) ws

-- the further clocks of a PLL that are neither its feedback nor its output
abbrev pub clock_aims : Wires → ℕ → ℕ → List ℕ → List ℕ
clock_aims m f o [] = []
clock_aims m f o (w ∷ ws) = pick (eqb w f || eqb w o) [] (aim (m w) ∷ []) ++ clock_aims m f o ws

-- the targets of a cell's statements, where s is the next signal's number
abbrev pub cell_aims : Wires → ℕ → Cell → List ℕ
cell_aims m s (lut4 i o t) = aim (m o) ∷ []
cell_aims m s (pfumx t f x o) = aim (m o) ∷ []
cell_aims m s (l6mux21 z y x o) = aim (m o) ∷ []
cell_aims m s (ccu2c u) = aim (m u.sum0) ∷ aim (m u.sum1) ∷ aim (m u.carry) ∷ []
cell_aims m s (multiplier l r p) = aim (m (get_or p 0 0)) ∷ []
cell_aims m s (flip_flop f) = []
cell_aims m s (block_ram r) = aim (m (get_or r.output 0 0)) ∷ (second_aim m r.second ++ range s r.depth)
cell_aims m s (distributed_ram r) = range s 16 ++ (aim (m (get_or r.output 0 0)) ∷ [])
cell_aims m s (io p d i t) = aim (m i) ∷ []
cell_aims m s (jtagg ws) = aims m (take 6 ws ++ drop 7 ws) ++ (aim (m (get_or ws 6 0)) ∷ [])
cell_aims m s (pll p) =
    aim (m p.feedback) ∷ (pick (eqb p.output p.feedback) [] (aim (m p.output) ∷ []) ++ (clock_aims m p.feedback p.output p.more ++ (aim (m p.locked) ∷ [])))

-- the signals of its RAM words
abbrev pub cell_words : ℕ → Cell → List Signal
cell_words c (lut4 i o t) = []
cell_words c (pfumx t f x o) = []
cell_words c (l6mux21 z y x o) = []
cell_words c (ccu2c u) = []
cell_words c (multiplier l r p) = []
cell_words c (flip_flop f) = []
cell_words c (block_ram r) = replicate r.depth (word_signal r.width c)
cell_words c (distributed_ram r) = replicate 16 (word_signal 4 c)
cell_words c (io p d i t) = []
cell_words c (jtagg ws) = []
cell_words c (pll p) = []

abbrev pub all_aims : Wires → ℕ → List Cell → List ℕ
all_aims m s [] = []
all_aims m s (x ∷ xs) = cell_aims m s x ++ all_aims m (s + word_signals x) xs

abbrev pub all_words : ℕ → List Cell → List Signal
all_words c [] = []
all_words c (x ∷ xs) = cell_words c x ++ all_words (suc c) xs

abbrev pub bank_aims : Wires → List Bank → List ℕ
bank_aims m bs = map (λ (b : Bank). aim (m b.leader.flop.output)) bs

-- output ports, from number p on
abbrev pub port_aims : ℕ → List Port → List ℕ
port_aims p [] = []
port_aims p (x ∷ xs) = pick (eqb x.direction 1) (p ∷ []) [] ++ port_aims (suc p) xs

-- of a whole netlist: zero and one, cells, banks, output ports
abbrev pub netlist_words : Netlist → List Signal
netlist_words n = signal_of 14 1 0 ∷ signal_of 15 1 0 ∷ all_words 0 n.cells

abbrev pub netlist_aims : Wires → ℕ → Netlist → List ℕ
netlist_aims m s n = s ∷ suc s ∷ (all_aims m (suc (suc s)) n.cells ++ (bank_aims m (collect_flip_flop_banks n.cells) ++ port_aims 0 n.ports))
