-- What the RAMs' functions hand over: the expressions of ports, words by their numbers; and the cells at an index.
use Rattle.std.specs.Prelude.{List, [], ◌∷◌, ℕ, zero, suc, ◌+◌, ◌*◌, ◌≤◌, max, length}
use Rattle.std.specs.Prelude.{Option, None, Some, option_map, Result}
use Rattle.refusal.specs.declared.Refusal.{Refusal}
use Rattle.netlist.specs.declared.Bit.{Bit}
use Rattle.netlist.specs.declared.Control.{Control}
use Rattle.netlist.specs.Netlist.{SecondPort, BlockRam, DistributedRam}
use Rattle.netlist.specs.Fields.{word_at, bit_at, bits_at, wires_at, control_at}
use Rattle.recorder.specs.declared.ExprId.{ExprId}
use Rattle.recorder.specs.declared.Tapes.{Tapes}
use Rattle.recorder.specs.Record.{Expr.const, Stmt.reg}
use Rattle.recorder.specs.Writer.{Writer, End, pure, emit, state, ◌>>=◌}
use Rattle.recorder.specs.Calls.{ended}
use Rattle.wires.specs.declared.Constants.{Constants}
use Rattle.wires.specs.Wires.{Wires}
use Rattle.wires.specs.Seen.{Seen, Reading, with_seen}
use Rattle.wires.specs.Expressions.{wire_ref, asserted_once, vector_once, bits_once, roomy}
use Rattle.address_mux.specs.declared.Works.{Works}
use Rattle.address_mux.specs.Address.{at_most}
use Rattle.address_mux.specs.AddressMux.{balanced_address_mux}
use Rattle.memories.specs.declared.Gate as code
use Rattle.memories.specs.declared.Port.{Port}
use Rattle.memories.specs.declared.RamWord.{RamWord}
use Rattle.memories.specs.declared.Words.{Words}
use Rattle.memories.specs.Memories.{Word, PortExprs, Gate, gate, candidates_from, enable_of, next_read, emit_block_ram}

-- ---- the expressions of a port

abbrev pub expr_in : Option ExprId → Option ℕ
expr_in o = option_map (λ (e : ExprId). e.0) o

-- the code keeps the first of the wires that it reads to
abbrev pub port_with : List ℕ → Port → PortExprs
port_with out p = record { write_address = p.write_address.0; write_data = p.write_data.0; write_asserted = p.write_asserted.0; read_address = p.read_address.0; read_data = out; read_enable = p.read_enable; clock_enabled = expr_in p.clock_enabled }

abbrev pub port_in : Port → PortExprs
port_in p = port_with (p.read_data ∷ []) p

abbrev pub second_with : List ℕ → Option Port → Option PortExprs
second_with out b = option_map (port_with out) b

abbrev pub second_in : Option Port → Option PortExprs
second_in b = option_map port_in b

abbrev pub gate_of : code.Gate → Gate
gate_of g = record { write_asserted = g.write_asserted.0; clock_enabled = expr_in g.clock_enabled }

abbrev pub gated : Result code.Gate Refusal → End Gate
gated r = ended gate_of r

abbrev pub ported : List ℕ → Result Port Refusal → End PortExprs
ported out r = ended (port_with out) r

abbrev pub seconded : List ℕ → Result (Option Port) Refusal → End (Option PortExprs)
seconded out r = ended (second_with out) r

-- the first port's, in the order of emit_block_ram
unfoldable pub first_exprs : Wires → Seen → ℕ → ℕ → BlockRam → Writer (Reading PortExprs)
first_exprs m seen shift aw r = do
  wa ← vector_once m seen r.write_address shift aw
  ra ← vector_once m wa.seen r.read_address shift aw
  d ← bits_once m ra.seen r.input
  g ← gate m d.seen r.write r.clock_enable
  pure (with_seen (record { write_address = wa.value; write_data = d.value; write_asserted = g.value.write_asserted; read_address = ra.value; read_data = r.output; read_enable = r.read_enable; clock_enabled = g.value.clock_enabled }) g.seen)

-- a distributed RAM's, in the order of emit_distributed_ram
unfoldable pub dram_exprs : Wires → Seen → DistributedRam → Writer (Reading PortExprs)
dram_exprs m seen r = do
  wa ← vector_once m seen r.write_address 0 4
  ra ← vector_once m wa.seen r.read_address 0 4
  d ← vector_once m ra.seen r.input 0 4
  y ← asserted_once m d.seen r.write
  pure (with_seen (record { write_address = wa.value; write_data = d.value; write_asserted = y.value; read_address = ra.value; read_data = r.output; read_enable = None; clock_enabled = None }) y.seen)

-- ---- words by their numbers

abbrev pub word_of : RamWord → Word
word_of w = record { signal = w.signal.0; current = w.current.0; next = w.next.0 }

abbrev pub worded : Result RamWord Refusal → End Word
worded r = ended word_of r

-- how far the next value of a word stands behind its read: four records for each port that writes
abbrev pub last_of : Option Port → ℕ
last_of None = 4
last_of (Some p) = 8

-- so many words, the first with this signal and this read: signals are consecutive, reads stand at a fixed distance
unfoldable pub words_from : ℕ → ℕ → ℕ → ℕ → List Word
words_from s q last zero = []
words_from s q last (suc n) = record { signal = s; current = q; next = q + last } ∷ words_from (s + 1) (q + (last + 1)) last n

abbrev pub words_of : Words → List Word
words_of w = words_from w.signal.0 w.current.0 w.last w.depth

-- the one at an index
abbrev pub nth_word : Words → ℕ → Word
nth_word w i =
    let q = w.current.0 + i * (w.last + 1) in
    record { signal = w.signal.0 + i; current = q; next = q + w.last }

-- numbers that records have
pub record Small (t : Tapes) : Type 0 where
  pub signals : t.signals.count ≤ 2147483648
  pub exprs : t.exprs.count ≤ 2147483648

-- two works have a word for each of so many candidates
abbrev pub Roomy : ℕ → Works → Type 0
Roomy n w = (n ≤ length w.parts.now) × (n ≤ length w.values.now)

-- ---- parts of a read port

unfoldable pub select_word : ℕ → List Word → ℕ → ℕ → Writer ℕ
select_word address words width aw = do
  e ← emit (const width 0)
  nodes ← candidates_from address aw 0 words []
  balanced_address_mux width nodes e

-- wire, read enable, clock enable, own read, width, selected word, clock signal, edge
unfoldable pub read_register : Wires → Constants → ℕ → Option Control → Option ℕ → Option ℕ → ℕ → ℕ → ℕ → ℕ → Writer (Unit {0})
read_register m z output enable clocked own width v clock edge = do
  r ← wire_ref m output
  en ← enable_of m z enable
  n ← next_read clocked own width r.signal v
  state (reg r.signal n clock edge None en)

-- ---- the cells at an index

abbrev pub dram_at : List ℕ → ℕ → DistributedRam
dram_at words i = record {
  write_address = bits_at words (i + 1) 4;
  input = bits_at words (i + 5) 4;
  write = control_at words (i + 9);
  read_address = bits_at words (i + 11) 4;
  output = wires_at words (i + 15) 4;
  clock = bit_at words (i + 19);
  edge = word_at words (i + 20);
  second = word_at words (i + 21);
}

-- a second port, a block RAM and a distributed RAM with other addresses: one that is written, one that is read, the second port's
abbrev pub second_addressed : Option SecondPort → List Bit → Option SecondPort
second_addressed None a = None
second_addressed (Some p) a = Some (record {
  address = a;
  write = p.write;
  read_enable = p.read_enable;
  clock_enable = p.clock_enable;
  clock = p.clock;
  edge = p.edge;
  input = p.input;
  output = p.output;
})

abbrev pub addressed : BlockRam → List Bit → List Bit → List Bit → BlockRam
addressed r written read second = record {
  depth = r.depth;
  width = r.width;
  physical = r.physical;
  write_address = written;
  write = r.write;
  read_address = read;
  read_enable = r.read_enable;
  clock_enable = r.clock_enable;
  clock = r.clock;
  edge = r.edge;
  second = second_addressed r.second second;
  input = r.input;
  output = r.output;
}

abbrev pub dram_addressed : DistributedRam → List Bit → List Bit → DistributedRam
dram_addressed r written read = record {
  write_address = written;
  input = r.input;
  write = r.write;
  read_address = read;
  output = r.output;
  clock = r.clock;
  edge = r.edge;
  second = r.second;
}

-- the words that each of a block RAM's two works must have
abbrev pub work_of : BlockRam → ℕ
work_of r = max r.depth r.width

-- both works are checked first, then that an array holds a node for each word
abbrev pub block_ram_in : List ℕ → List ℕ → Wires → Constants → Seen → ℕ → BlockRam → Writer (Reading (Unit {0}))
block_ram_in parts values m z seen owner r = roomy (work_of r) parts (roomy (work_of r) values (at_most 16384 r.depth (emit_block_ram m z seen owner r)))
