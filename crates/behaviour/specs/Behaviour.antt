-- What a tick means, on the netlist's own cells. The sections follow document 01; the tick itself uses all the others and stands last.
use Rattle.std.specs.Prelude.{List, [], ◌∷◌, ◌++◌, map, Bool, true, false, ◌&&◌, ℕ, suc, ◌+◌, ◌*◌, length, get_or, take, drop, set, replicate, ltb, eqb}
use Rattle.std.specs.Prelude.{Option, None, Some}
use Rattle.bits.specs.Bits.{pick, Bits, number, table_bit, differ, same}
use Rattle.settle.specs.Walk.{NoLoop}
use Rattle.settle.specs.Settle.{iterate, sweep}
use Rattle.settle.specs.Loop.{Reads}
use Rattle.netlist.specs.declared.Control.{Control}
use Rattle.netlist.specs.declared.Reset.{Reset}
use Rattle.netlist.specs.declared.Bit.{Bit}
use Rattle.netlist.specs.declared.Bit.TheVariants.{Zero, One, Wire}
use Rattle.netlist.specs.Netlist.{Ccu2c, FlipFlop, SecondPort, BlockRam, DistributedRam, Cell, Port, Netlist}
use Rattle.netlist.specs.Netlist.{lut4, pfumx, l6mux21, ccu2c, multiplier, flip_flop, block_ram, distributed_ram, io, jtagg, pll}
use Rattle.netlist.specs.Reader.{address_width, shift_of}
use Rattle.behaviour.specs.WireMap.{Source, inputs, shown, pins, bank, Slot, WireRef, find, slots, tick_bits, signal_count, clock_signal}

-- what each wire holds
abbrev pub Valuation : Type 0
Valuation = ℕ → Bool

abbrev pub value : Valuation → Bit → Bool
value v Zero = false
value v One = true
value v (Wire w) = v w

abbrev pub values : Valuation → List Bit → Bits
values v bits = map (value v) bits

-- a flag, a level or a tick bit: 1 is true
abbrev pub level : ℕ → Bool
level x = eqb x 1

-- REGISTERS: flip-flops, RAM words and block RAM reads

-- those of one cell; a cell uses the fields of its kind
pub record Registers : Type 0 where
  pub flop : Bool
  pub words : List Bits
  -- the reads of a block RAM's two ports
  pub read_a : Bits
  pub read_b : Bits

abbrev pub zeros : ℕ → Bits
zeros width = replicate width false

abbrev pub unused : Registers
unused = record { flop = false; words = []; read_a = []; read_b = [] }

-- each starts at 0
abbrev pub initial : Cell → Registers
initial (lut4 is o t) = unused
initial (pfumx a b s o) = unused
initial (l6mux21 a b s o) = unused
initial (ccu2c u) = unused
initial (multiplier a b o) = unused
initial (flip_flop f) = unused
initial (block_ram r) = record { flop = false; words = replicate r.depth (zeros r.width); read_a = zeros r.width; read_b = zeros r.width }
initial (distributed_ram r) = record { flop = false; words = replicate 16 (zeros 4); read_a = []; read_b = [] }
initial (io p a o t) = unused
initial (jtagg o) = unused
initial (pll p) = unused

-- WHAT FIRES

pub record Fired : Type 0 where
  pub signal : ℕ
  pub edge : ℕ

abbrev pub is_signal : Option ℕ → ℕ → Bool
is_signal None s = false
is_signal (Some t) s = eqb t s

-- a register is clocked by its clock bit's signal in the wire map, on its own edge;
-- another signal that copies the clock's wire does not fire it
abbrev pub on_fired : List Slot → Option Fired → Bit → ℕ → Bool
on_fired held None clock edge = false
on_fired held (Some f) clock edge = is_signal (clock_signal held clock) f.signal && eqb edge f.edge

-- FLIP-FLOPS

abbrev pub asserted : Valuation → Bit → ℕ → Bool
asserted v signal active = same (value v signal) (level active)

-- a control that is not there is always asserted
abbrev pub enabled : Valuation → Option Control → Bool
enabled v None = true
enabled v (Some c) = asserted v c.signal c.active

-- a reset of this kind (1 asynchronous, 0 synchronous) is there and asserted
abbrev pub resetting : Valuation → ℕ → Option Reset → Bool
resetting v kind None = false
resetting v kind (Some r) = eqb r.asynchronous kind && asserted v r.signal r.active

abbrev pub reset_value : Option Reset → Bool
reset_value None = false
reset_value (Some r) = level r.value

-- what the fired clock loads: a synchronous reset beats an enable
abbrev pub loaded_flop : Valuation → FlipFlop → Bool → Bool
loaded_flop v f old = pick (resetting v 0 f.reset) (reset_value f.reset) (pick (enabled v f.enable) (value v f.input) old)

-- an asynchronous reset needs no clock and goes first; without it the clock decides between loading and keeping
abbrev pub next_flop : Bool → Valuation → FlipFlop → Bool → Bool
next_flop fired v f old = pick (resetting v 1 f.reset) (reset_value f.reset) (pick fired (loaded_flop v f old) old)

-- CELLS: their outputs

-- the table bit of the inputs: of four, a + 2b + 4c + 8d
abbrev pub look_table : ℕ → Bits → Bool
look_table init bits = table_bit init (number bits)

pub record CcuRow : Type 0 where
  pub sum : Bool
  pub carry : Bool

-- a row of a CCU2C: l looks all four inputs up, m only the first two (zeros for the others), g is the carry in unless inject blocks it
abbrev pub ccu_row : Bits → ℕ → ℕ → Bool → CcuRow
ccu_row bits init inject carry =
    let l = look_table init bits in
    let m = look_table init (take 2 bits ++ (false ∷ false ∷ [])) in
    let g = pick (level inject) false carry in
    record { sum = differ l g; carry = pick l g m }

-- the two sums and the carry, row by row
abbrev pub ccu_bits : Ccu2c → Bits → Bits → Bool → Bits
ccu_bits u bits0 bits1 carry_in =
    let r0 = ccu_row bits0 u.init0 u.inject0 carry_in in
    let r1 = ccu_row bits1 u.init1 u.inject1 r0.carry in
    r0.sum ∷ r1.sum ∷ r1.carry ∷ []

-- output pin k. Pins are counted in the order in which the cell's wires get signals: of a block RAM A's and then B's
abbrev pub output : Valuation → Registers → Cell → ℕ → Bool
output v r (lut4 abcd o init) k = look_table init (values v abcd)
output v r (pfumx lut_true lut_false select o) k = pick (value v select) (value v lut_true) (value v lut_false)
output v r (l6mux21 data_zero data_one select o) k = pick (value v select) (value v data_one) (value v data_zero)
output v r (ccu2c u) k = get_or (ccu_bits u (values v u.row0) (values v u.row1) (value v u.carry_in)) k false
-- the product is unsigned
output v r (multiplier left right o) k = table_bit (number (values v left) * number (values v right)) k
output v r (flip_flop f) k = r.flop
output v r (block_ram m) k = get_or (r.read_a ++ r.read_b) k false
-- a distributed RAM reads at once
output v r (distributed_ram m) k = get_or (get_or r.words (number (values v m.read_address)) []) k false
-- a released pad is read back; a driven one gives what the fabric drives
output v r (io pad fabric_output o tristate) k = pick (value v tristate) (value v (Wire pad)) (value v fabric_output)
-- all are 0 but pin 6, reset_n
output v r (jtagg o) k = eqb k 6
-- clocks copy the reference; pin 2, locked, is 1
output v r (pll p) k = pick (eqb k 2) true (value v p.reference)

-- BLOCK RAM AND DISTRIBUTED RAM

abbrev pub shift_in : Option ℕ → ℕ
shift_in None = 0
shift_in (Some s) = s

-- the window of the address bits that counts
abbrev pub address : Valuation → BlockRam → List Bit → ℕ
address v r bits = number (values v (take (address_width r.depth) (drop (shift_in (shift_of r.physical)) bits)))

-- a write beyond the depth is lost
abbrev pub written : Bool → ℕ → Bits → List Bits → List Bits
written true at x words = set words at x
written false at x words = words

-- a read sees the words as they were; addresses behind the last word read 0; a disabled read changes nothing
abbrev pub loaded : Bool → ℕ → BlockRam → List Bits → Bits → Bits
loaded true at r words old = get_or words at (zeros r.width)
loaded false at r words old = old

-- a port goes only while its clock enable, if it has one, is asserted: each by its own, in its write and in its read

abbrev pub written_a : Valuation → BlockRam → List Bits → List Bits
written_a v r words = written (enabled v (Some r.write) && enabled v r.clock_enable) (address v r r.write_address) (values v r.input) words

abbrev pub written_b : Valuation → BlockRam → Option SecondPort → List Bits → List Bits
written_b v r None words = words
written_b v r (Some p) words = written (enabled v (Some p.write) && enabled v p.clock_enable) (address v r p.address) (values v p.input) words

abbrev pub loaded_a : Valuation → BlockRam → List Bits → Bits → Bits
loaded_a v r words old = loaded (enabled v r.read_enable && enabled v r.clock_enable) (address v r r.read_address) r words old

abbrev pub loaded_b : Valuation → BlockRam → Option SecondPort → List Bits → Bits → Bits
loaded_b v r None words old = old
loaded_b v r (Some p) words old = loaded (enabled v p.read_enable && enabled v p.clock_enable) (address v r p.address) r words old

-- both ports are on one clock and edge (6). B writes last and so wins
abbrev pub next_ram : Bool → Valuation → BlockRam → Registers → Registers
next_ram false v r old = old
next_ram true v r old = record {
  flop = old.flop;
  words = written_b v r r.second (written_a v r old.words);
  read_a = loaded_a v r old.words old.read_a;
  read_b = loaded_b v r r.second old.words old.read_b;
}

abbrev pub next_distributed : Bool → Valuation → DistributedRam → Registers → Registers
next_distributed fired v r old = record {
  flop = old.flop;
  words = written (fired && enabled v (Some r.write)) (number (values v r.write_address)) (values v r.input) old.words;
  read_a = old.read_a;
  read_b = old.read_b;
}

-- COMMIT: every register goes by the settled valuation v, and none sees another's new value

-- the registers of a cell after it; `fires` tells for a clock and an edge whether they fire
abbrev pub next : (Bit → ℕ → Bool) → Valuation → Cell → Registers → Registers
next fires v (lut4 is o t) old = old
next fires v (pfumx a b s o) old = old
next fires v (l6mux21 a b s o) old = old
next fires v (ccu2c u) old = old
next fires v (multiplier a b o) old = old
next fires v (flip_flop f) old = record { flop = next_flop (fires f.clock f.edge) v f old.flop; words = old.words; read_a = old.read_a; read_b = old.read_b }
next fires v (block_ram r) old = next_ram (fires r.clock r.edge) v r old
next fires v (distributed_ram r) old = next_distributed (fires r.clock r.edge) v r old
next fires v (io p a o t) old = old
next fires v (jtagg o) old = old
next fires v (pll p) old = old

abbrev pub commit : (Bit → ℕ → Bool) → Valuation → List Cell → List Registers → List Registers
commit fires v [] regs = []
commit fires v (c ∷ cells) [] = []
commit fires v (c ∷ cells) (r ∷ regs) = next fires v c r ∷ commit fires v cells regs

-- THE DRIVER OF A WIRE: what gives its bits to the signal that the wire map holds for it in the end

pub data Driver : Type 0 where
  tick_bit : ℕ → Driver
  -- cell, output pin
  pin : ℕ → ℕ → Driver
  -- the wire is missing
  nobody : Driver

abbrev pub bit_source : Source → ℕ → Driver
bit_source (inputs k) i = tick_bit (k + i)
bit_source shown i = nobody
bit_source (pins c k) i = pin c (k + i)
bit_source (bank cells) i = pin (get_or cells i 0) 0

abbrev pub driver_in : Option WireRef → Driver
driver_in None = nobody
driver_in (Some r) = bit_source r.source r.lowest

abbrev pub driver : List Slot → ℕ → Driver
driver held w = driver_in (find w held 0)

-- a cell without outputs, where none is
abbrev pub absent : Cell
absent = jtagg []

-- SETTLING

-- what a driver gives
abbrev pub gives : List Cell → Bits → List Registers → Driver → Valuation → Bool
gives cells bits regs (tick_bit i) v = get_or bits i false
gives cells bits regs (pin c k) v = output v (get_or regs c unused) (get_or cells c absent) k
gives cells bits regs nobody v = false

-- what wire w's driver gives when the wires hold v
abbrev pub drive : List Slot → List Cell → Bits → List Registers → ℕ → Valuation → Bool
drive held cells bits regs w v = gives cells bits regs (driver held w) v

-- sweeps from zeros, one more than there are cells: without a loop a way passes each cell once at most, and ends at an input, at a
-- register or at a constant pin. (Without a loop this is the only settled valuation: Settled.)
abbrev pub settle : List Slot → List Cell → Bits → List Registers → Valuation
settle held cells bits regs = iterate (suc (length cells)) (sweep (drive held cells bits regs)) (λ w. false)

-- LOOPS

-- what output pin k depends on: every input of a combinational cell, but of a distributed RAM only the read address;
-- JTAGG outputs and locked depend on nothing, and neither do registers
abbrev pub depends : Cell → ℕ → List Bit
depends (lut4 abcd o init) k = abcd
depends (pfumx lut_true lut_false select o) k = lut_true ∷ lut_false ∷ select ∷ []
depends (l6mux21 data_zero data_one select o) k = data_zero ∷ data_one ∷ select ∷ []
depends (ccu2c u) k = u.row0 ++ (u.row1 ++ (u.carry_in ∷ []))
depends (multiplier left right o) k = left ++ right
depends (flip_flop f) k = []
depends (block_ram m) k = []
depends (distributed_ram m) k = m.read_address
depends (io pad fabric_output o tristate) k = Wire pad ∷ fabric_output ∷ tristate ∷ []
depends (jtagg o) k = []
depends (pll p) k = pick (eqb k 2) [] (p.reference ∷ [])

abbrev pub wires_of : List Bit → List ℕ
wires_of [] = []
wires_of (Zero ∷ l) = wires_of l
wires_of (One ∷ l) = wires_of l
wires_of (Wire w ∷ l) = w ∷ wires_of l

abbrev pub driver_reads : List Cell → Driver → List ℕ
driver_reads cells (tick_bit i) = []
driver_reads cells (pin c k) = wires_of (depends (get_or cells c absent) k)
driver_reads cells nobody = []

-- wire x depends on wire y: y is among what x's driver depends on
abbrev pub Depends : Netlist → ℕ → ℕ → Type 0
Depends n = Reads (λ x. driver_reads n.cells (driver (slots n) x))

-- no way leads from a wire back to itself
abbrev pub NoWireLoop : Netlist → Type 0
NoWireLoop n = NoLoop (Depends n)

-- OUTPUT PORTS: direction 1; each shows what its bit words hold

abbrev pub output_ports : List Port → List (List Bit)
output_ports [] = []
output_ports (p ∷ l) = pick (eqb p.direction 1) (p.bits ∷ output_ports l) (output_ports l)

-- TICKS

pub record Tick : Type 0 where
  -- the bits of all input and inout ports, in order, the lowest first
  pub bits : List ℕ
  -- no clock fires, or this one
  pub fired : Option Fired

-- the registers of each cell, and what each output port shows
pub record State : Type 0 where
  pub registers : List Registers
  pub outputs : List Bits

-- output ports show zeros before the first tick, constants too
abbrev pub start : Netlist → State
start n = record { registers = map initial n.cells; outputs = map (λ (bits : List Bit). zeros (length bits)) (output_ports n.ports) }

-- the input and inout bits are set, and the netlist settles
abbrev pub settled_by : Netlist → Tick → List Registers → Valuation
settled_by n t regs = settle (slots n) n.cells (map level t.bits) regs

abbrev pub committed_by : Netlist → Tick → List Registers → List Registers
committed_by n t regs = commit (on_fired (slots n) t.fired) (settled_by n t regs) n.cells regs

-- set all input and inout bits, settle, commit, settle again
abbrev pub tick : Netlist → State → Tick → State
tick n s t =
    let regs = committed_by n t s.registers in
    record { registers = regs; outputs = map (values (settled_by n t regs)) (output_ports n.ports) }

-- what 14 can mean for a netlist, which has no signal bytes: the number of tick bits, one of them, the fired signal
-- or an edge above 1
abbrev pub all_bits : List ℕ → Bool
all_bits [] = true
all_bits (b ∷ l) = ltb b 2 && all_bits l

abbrev pub fired_fits : Netlist → Option Fired → Bool
fired_fits n None = true
fired_fits n (Some f) = ltb f.signal (signal_count n) && ltb f.edge 2

abbrev pub accepts : Netlist → Tick → Bool
accepts n t = eqb (length t.bits) (tick_bits n.ports) && (all_bits t.bits && fired_fits n t.fired)

-- a refused tick changes nothing
abbrev pub step : Netlist → State → Tick → State
step n s t = pick (accepts n t) (tick n s t) s

-- a list of ticks, one after the other
abbrev pub run : Netlist → State → List Tick → State
run n s [] = s
run n s (t ∷ l) = run n (step n s t) l

-- what the output ports show after a list of ticks from the start
abbrev pub shown_after : Netlist → List Tick → List Bits
shown_after n l = (run n (start n) l).outputs

-- and after each tick of the list
abbrev pub shows_from : Netlist → State → List Tick → List (List Bits)
shows_from n s [] = []
shows_from n s (t ∷ l) = (step n s t).outputs ∷ shows_from n (step n s t) l

abbrev pub shows : Netlist → List Tick → List (List Bits)
shows n l = shows_from n (start n) l
