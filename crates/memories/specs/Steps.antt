-- The steps of a block RAM and of a distributed RAM that functions of the code write.
use Rattle.std.specs.Prelude.{List, [], ℕ, ◌+◌, get_or}
use Rattle.std.specs.Prelude.{Option, None}
use Rattle.netlist.specs.Netlist.{SecondPort, BlockRam, DistributedRam}
use Rattle.netlist.specs.Fields.{word_at, first_size, second_port_at}
use Rattle.recorder.specs.Record.{Expr.const, Expr.mux, Stmt.reg}
use Rattle.recorder.specs.Writer.{Writer, pure, emit, state, ◌>>=◌, ◌>>◌}
use Rattle.wires.specs.declared.Constants.{Constants}
use Rattle.wires.specs.Wires.{Wires}
use Rattle.wires.specs.Expressions.{bit_signal, assign_wire}
use Rattle.memories.specs.Memories.{Word, PortExprs, ram_word, ram_words, candidates_from, emit_block_ram_read_port, emit_second_read_port, update_words, dram_words, dram_select}
use Rattle.address_mux.specs.Address.{match_address}
use Rattle.address_mux.specs.AddressMux.{balanced_address_mux}

-- the second port of the block RAM at an index
abbrev pub second_at : List ℕ → ℕ → SecondPort
second_at words i = second_port_at words (i + first_size words (word_at words (i + 2))) (word_at words (i + 2))

-- address, words, their width, the address's width, the expression of zero
unfoldable pub pick_word : ℕ → List Word → ℕ → ℕ → ℕ → Writer ℕ
pick_word address words width aw e = do
  nodes ← candidates_from address aw 0 words []
  balanced_address_mux width nodes e

-- all behind the ports' expressions: cell number, ports and their own reads, the address's width
unfoldable pub ram_body : Wires → Constants → ℕ → PortExprs → Option ℕ → Option PortExprs → Option ℕ → ℕ → BlockRam → Writer (Unit {0})
ram_body m z owner a own_a b own_b aw r = do
  clock ← bit_signal m z r.clock
  words ← ram_words a b owner r.width aw r.depth 0 []
  emit_block_ram_read_port m z a own_a words r.width aw clock r.edge
  emit_second_read_port m z b own_b words r.width aw clock r.edge
  update_words words clock r.edge

-- a word of a distributed RAM, with its statement
unfoldable pub dram_word : PortExprs → ℕ → ℕ → ℕ → ℕ → Writer Word
dram_word p owner clock edge index = do
  w ← ram_word p None owner 4 4 index
  state (reg w.signal w.next clock edge None None)
  pure w

-- address, index, word, what is read if it is not the address
unfoldable pub select_one : ℕ → ℕ → ℕ → ℕ → Writer ℕ
select_one address index word now = do
  e ← match_address address 4 index
  emit (mux 4 e word now)

-- all behind the port's expressions: cell number, port
unfoldable pub dram_body : Wires → Constants → ℕ → PortExprs → DistributedRam → Writer (Unit {0})
dram_body m z owner p r = do
  clock ← bit_signal m z r.clock
  words ← dram_words p owner clock r.edge 16 0 []
  e ← emit (const 4 0)
  v ← dram_select p.read_address 0 words e
  assign_wire m (get_or r.output 0 0) v
