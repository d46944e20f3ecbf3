-- What a block RAM and a distributed RAM emit: a definition for each function of lib.rs, in its order of events.
use Rattle.std.specs.Prelude.{List, [], ◌∷◌, ◌++◌, ℕ, zero, suc, get_or}
use Rattle.std.specs.Prelude.{Option, None, Some}
use Rattle.netlist.specs.declared.Control.{Control}
use Rattle.netlist.specs.Netlist.{SecondPort, BlockRam, DistributedRam}
use Rattle.netlist.specs.Reader.{address_width, shift_of}
use Rattle.behaviour.specs.Behaviour.{shift_in}
use Rattle.recorder.specs.Record.{Signal, RegEnable, Expr.const, Expr.read, Expr.and, Expr.mux, Expr.eq, Stmt.reg}
use Rattle.recorder.specs.Writer.{Writer, pure, declare, emit, state, ◌>>=◌, ◌>>◌}
use Rattle.wires.specs.declared.Constants.{Constants}
use Rattle.wires.specs.Wires.{Wires}
use Rattle.wires.specs.Seen.{Seen, standing, Reading, with_seen, keeping}
use Rattle.wires.specs.Expressions.{wire_ref, bit_signal, asserted_once, vector_once, bits_once, assign_wire}
use Rattle.address_mux.specs.AddressMux.{Node, balanced_address_mux}

abbrev pub word_signal : ℕ → ℕ → Signal
word_signal width owner = record { label = 13; width = width; owner = owner }

-- a word of a RAM: its signal, its read, its next value
pub record Word : Type 0 where
  pub signal : ℕ
  pub current : ℕ
  pub next : ℕ

-- the expressions of a port
pub record PortExprs : Type 0 where
  pub write_address : ℕ
  pub write_data : ℕ
  pub write_asserted : ℕ
  pub read_address : ℕ
  pub read_data : List ℕ
  pub read_enable : Option Control
  -- the clock enable asserted, if there is one
  pub clock_enabled : Option ℕ

-- what a port's controls give: whether it writes, and its clock enable asserted, if it has one
pub record Gate : Type 0 where
  pub write_asserted : ℕ
  pub clock_enabled : Option ℕ

-- with a clock enable (request W1) a port writes where both are asserted
unfoldable pub gate : Wires → Seen → Control → Option Control → Writer (Reading Gate)
gate m seen write None = do
  y ← asserted_once m seen write
  pure (with_seen (record { write_asserted = y.value; clock_enabled = None }) y.seen)
gate m seen write (Some enable) = do
  y ← asserted_once m seen write
  c ← asserted_once m y.seen enable
  g ← emit (and y.value c.value)
  pure (with_seen (record { write_asserted = g; clock_enabled = Some c.value }) c.seen)

-- what a port makes of a word: its width, the address's width, the index, the expression so far
unfoldable pub write_word : PortExprs → ℕ → ℕ → ℕ → ℕ → Writer ℕ
write_word p width aw index now = do
  k ← emit (const aw index)
  e ← emit (eq p.write_address k)
  y ← emit (and p.write_asserted e)
  emit (mux width y p.write_data now)

abbrev pub write_second : Option PortExprs → ℕ → ℕ → ℕ → ℕ → Writer ℕ
write_second None width aw index now = pure now
write_second (Some p) width aw index now = write_word p width aw index now

unfoldable pub ram_word : PortExprs → Option PortExprs → ℕ → ℕ → ℕ → ℕ → Writer Word
ram_word a b owner width aw index = do
  s ← declare (word_signal width owner)
  q ← emit (read width s 0)
  n ← write_word a width aw index q
  n₂ ← write_second b width aw index n
  pure (record { signal = s; current = q; next = n₂ })

-- the words that are left, so many, from an index on, after those in `words`
unfoldable pub ram_words : PortExprs → Option PortExprs → ℕ → ℕ → ℕ → ℕ → ℕ → List Word → Writer (List Word)
ram_words a b owner width aw zero index words = pure words
ram_words a b owner width aw (suc left) index words = do
  w ← ram_word a b owner width aw index
  ram_words a b owner width aw left (suc index) (words ++ (w ∷ []))

-- the candidates of a read address, for the words from an index on
unfoldable pub candidates_from : ℕ → ℕ → ℕ → List Word → List Node → Writer (List Node)
candidates_from address aw index [] nodes = pure nodes
candidates_from address aw index (w ∷ ws) nodes = do
  k ← emit (const aw index)
  e ← emit (eq address k)
  candidates_from address aw (suc index) ws (nodes ++ (record { matched = e; value = w.current } ∷ []))

abbrev pub enable_of : Wires → Constants → Option Control → Writer (Option RegEnable)
enable_of m z None = pure None
enable_of m z (Some c) = do
  s ← bit_signal m z c.signal
  pure (Some (record { signal = s; active = c.active }))

-- the read of a read register's own signal stands already where the cell has read its wire: then its words have one bit, and it holds one wire
abbrev pub own_read : Seen → List ℕ → Option ℕ
own_read seen [] = None
own_read seen (w ∷ []) = standing seen w
own_read seen (w ∷ v ∷ ws) = None

abbrev pub own_expression : Option ℕ → ℕ → ℕ → Writer ℕ
own_expression (Some e) width target = pure e
own_expression None width target = emit (read width target 0)

-- what a read register takes: the selected word, and with a clock enable its own where that is not asserted
abbrev pub next_read : Option ℕ → Option ℕ → ℕ → ℕ → ℕ → Writer ℕ
next_read None own width target word = pure word
next_read (Some c) own width target word = do
  o ← own_expression own width target
  emit (mux width c word o)

-- port, its own read where it stands, words, their width, the address's width, clock signal, edge
unfoldable pub emit_block_ram_read_port : Wires → Constants → PortExprs → Option ℕ → List Word → ℕ → ℕ → ℕ → ℕ → Writer (Unit {0})
emit_block_ram_read_port m z p own words width aw clock edge = do
  e ← emit (const width 0)
  nodes ← candidates_from p.read_address aw 0 words []
  v ← balanced_address_mux width nodes e
  r ← wire_ref m (get_or p.read_data 0 0)
  en ← enable_of m z p.read_enable
  n ← next_read p.clock_enabled own width r.signal v
  state (reg r.signal n clock edge None en)

abbrev pub emit_second_read_port : Wires → Constants → Option PortExprs → Option ℕ → List Word → ℕ → ℕ → ℕ → ℕ → Writer (Unit {0})
emit_second_read_port m z None own words width aw clock edge = pure tt
emit_second_read_port m z (Some p) own words width aw clock edge = emit_block_ram_read_port m z p own words width aw clock edge

unfoldable pub update_words : List Word → ℕ → ℕ → Writer (Unit {0})
update_words [] clock edge = pure tt
update_words (w ∷ ws) clock edge = do
  state (reg w.signal w.next clock edge None None)
  update_words ws clock edge

-- the second port, whose address serves both: the shift, the address's width
abbrev pub second_exprs : Wires → Seen → ℕ → ℕ → Option SecondPort → Writer (Reading (Option PortExprs))
second_exprs m seen shift aw None = pure (with_seen None seen)
second_exprs m seen shift aw (Some p) = do
  a ← vector_once m seen p.address shift aw
  d ← bits_once m a.seen p.input
  g ← gate m d.seen p.write p.clock_enable
  pure (with_seen (Some (record { write_address = a.value; write_data = d.value; write_asserted = g.value.write_asserted; read_address = a.value; read_data = p.output; read_enable = p.read_enable; clock_enabled = g.value.clock_enabled })) g.seen)

abbrev pub second_output : Option SecondPort → List ℕ
second_output None = []
second_output (Some p) = p.output

-- cell number `owner`, after what it has read so far
unfoldable pub emit_block_ram : Wires → Constants → Seen → ℕ → BlockRam → Writer (Reading (Unit {0}))
emit_block_ram m z seen owner r = do
  let aw = address_width r.depth
  let shift = shift_in (shift_of r.physical)
  wa ← vector_once m seen r.write_address shift aw
  ra ← vector_once m wa.seen r.read_address shift aw
  d ← bits_once m ra.seen r.input
  g ← gate m d.seen r.write r.clock_enable
  b ← second_exprs m g.seen shift aw r.second
  clock ← bit_signal m z r.clock
  let a : PortExprs = record { write_address = wa.value; write_data = d.value; write_asserted = g.value.write_asserted; read_address = ra.value; read_data = r.output; read_enable = r.read_enable; clock_enabled = g.value.clock_enabled }
  words ← ram_words a b.value owner r.width aw r.depth 0 []
  emit_block_ram_read_port m z a (own_read b.seen r.output) words r.width aw clock r.edge
  emit_second_read_port m z b.value (own_read b.seen (second_output r.second)) words r.width aw clock r.edge
  keeping b.seen (update_words words clock r.edge)

-- the words of a distributed RAM that are left, each with its statement, after those in `words`
unfoldable pub dram_words : PortExprs → ℕ → ℕ → ℕ → ℕ → ℕ → List Word → Writer (List Word)
dram_words p owner clock edge zero index words = pure words
dram_words p owner clock edge (suc left) index words = do
  w ← ram_word p None owner 4 4 index
  state (reg w.signal w.next clock edge None None)
  dram_words p owner clock edge left (suc index) (words ++ (w ∷ []))

unfoldable pub dram_select : ℕ → ℕ → List Word → ℕ → Writer ℕ
dram_select address index [] now = pure now
dram_select address index (w ∷ ws) now = do
  k ← emit (const 4 index)
  e ← emit (eq address k)
  v ← emit (mux 4 e w.current now)
  dram_select address (suc index) ws v

unfoldable pub emit_distributed_ram : Wires → Constants → Seen → ℕ → DistributedRam → Writer (Reading (Unit {0}))
emit_distributed_ram m z seen owner r = do
  wa ← vector_once m seen r.write_address 0 4
  ra ← vector_once m wa.seen r.read_address 0 4
  d ← vector_once m ra.seen r.input 0 4
  y ← asserted_once m d.seen r.write
  clock ← bit_signal m z r.clock
  words ← dram_words (record { write_address = wa.value; write_data = d.value; write_asserted = y.value; read_address = ra.value; read_data = r.output; read_enable = None; clock_enabled = None }) owner clock r.edge 16 0 []
  e ← emit (const 4 0)
  v ← dram_select ra.value 0 words e
  keeping y.seen (assign_wire m (get_or r.output 0 0) v)
