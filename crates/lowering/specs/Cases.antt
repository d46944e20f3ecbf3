-- The P case of document 01 that lowering decides, and small netlists for each refusal, exactly full lists, PLL wires and banks.
use Rattle.std.specs.Prelude.{◌≡◌, refl, List, [], ◌∷◌, ◌++◌, map, replicate, ℕ, zero, suc}
use Rattle.netlist.specs.Reader.{base}
use Rattle.recorder.specs.Writer.{◌>>=◌}
use Rattle.recorder.specs.Lists.{play, fits, over}
use Rattle.behaviour.specs.Banks.{collect_flip_flop_banks, banks_from, leaders_from, flip_flops_from, bank_in, members_of}
use Rattle.wires.specs.Seen.{nothing_seen, standing, noted}
use Rattle.wires.specs.Expressions.{wire_ref, bit_expression, bit_signal, asserted_expression, bit_once, asserted_once, read_bits, concat_parts, vector_parts, vector_once, vector_expression, assign_wire}
use Rattle.optimize.specs.Rewrite.{mux_of, xor_of, emit_rewrite}
use Rattle.optimize.specs.Lut.{lut_cofactor, join_cofactors, evens}
use Rattle.cells.specs.Cells.{emit_lut4, emit_pfumx, emit_multiplier, ccu_row, emit_ccu2c, emit_cycle_pll, pll_clocks}
use Rattle.address_mux.specs.AddressMux.{mux_level, mux_levels}
use Rattle.memories.specs.Memories.{gate, write_word, ram_word, ram_words, candidates_from, emit_block_ram_read_port, update_words, emit_block_ram}
use Rattle.lowering.specs.Reserve.{insert_wire, insert_bits, insert_wires, reserve_scalar, reserve_scalars, reserve_vector, reserve_absent, reserve_cell_output, reserve_cells, reserve_port, reserve_ports, reserve_flip_flop_banks}
use Rattle.lowering.specs.Emit.{next_bit, next_bits, reset_bits, emit_flip_flop_bank, emit_banks, emit_cell, emit_cells, emit_outputs}
use Rattle.lowering.specs.Lower.{Lowered, Accepted, Refused, lowered, lower_netlist, reserve_netlist, emit_netlist, emit_constants, overdriven_from, statements_on, lower_sharing, lower_words}

-- words; the lengths of the three lists; the counts of an accepted model, or number and place
pub record Row : Type 0 where
  pub words : List ℕ
  pub signals : ℕ
  pub exprs : ℕ
  pub stmts : ℕ
  pub answer : List ℕ

abbrev pub said_by : Lowered → List ℕ
said_by (Accepted t) = t.signals.count ∷ t.exprs.count ∷ t.stmts.count ∷ []
said_by (Refused number place) = number ∷ place ∷ []

abbrev pub lowering : Row → List ℕ
lowering r = said_by (lower_words base r.words r.signals r.exprs r.stmts).answer

-- a LUT4 of these input bits, with this output wire and truth table
abbrev pub lut_with : List ℕ → ℕ → ℕ → List ℕ
lut_with bits wire init = 0 ∷ (bits ++ (wire ∷ init ∷ []))

-- one of one input bit
abbrev pub lut_of : ℕ → ℕ → List ℕ
lut_of bit wire = 0 ∷ bit ∷ 0 ∷ 0 ∷ 0 ∷ wire ∷ 0 ∷ []

-- a flip-flop of data Zero, with this output wire, clock and reset
abbrev pub flop_of : ℕ → ℕ → List ℕ → List ℕ
flop_of wire clock reset = 5 ∷ 0 ∷ wire ∷ clock ∷ 0 ∷ 0 ∷ 0 ∷ 0 ∷ reset

-- from x on, so many
abbrev pub upwards : ℕ → ℕ → List ℕ
upwards x zero = []
upwards x (suc k) = x ∷ upwards (suc x) k

-- a block RAM of words of one bit: depth, the lowest bits of both addresses, clock enable, data bit, output wire; all else is constant
abbrev pub ram_with : ℕ → List ℕ → List ℕ → List ℕ → ℕ → ℕ → List ℕ
ram_with depth written read enable bit wire =
    6 ∷ depth ∷ 1 ∷ 1 ∷ (written ++ (replicate 12 0 ++ (1 ∷ 1 ∷ (read ++ (replicate 12 0 ++ (0 ∷ 0 ∷ 0 ∷ (enable ++ (0 ∷ 0 ∷ 0 ∷ bit ∷ wire ∷ []))))))))

-- one of one word, with this output wire and clock enable; all else is constant
abbrev pub ram_of : ℕ → List ℕ → List ℕ
ram_of wire enable = ram_with 1 (0 ∷ 0 ∷ []) (0 ∷ 0 ∷ []) enable 0 wire

abbrev pub cases : List Row
cases =
    -- no ports, no cells; the same with one word too few in each list
    record { words = 0 ∷ 0 ∷ 0 ∷ 0 ∷ []; signals = 8; exprs = 8; stmts = 8; answer = 2 ∷ 2 ∷ 2 ∷ [] } ∷
    record { words = 0 ∷ 0 ∷ 0 ∷ 0 ∷ []; signals = 7; exprs = 8; stmts = 8; answer = 2 ∷ 0 ∷ [] } ∷
    record { words = 0 ∷ 0 ∷ 0 ∷ 0 ∷ []; signals = 8; exprs = 7; stmts = 8; answer = 2 ∷ 1 ∷ [] } ∷
    record { words = 0 ∷ 0 ∷ 0 ∷ 0 ∷ []; signals = 8; exprs = 8; stmts = 7; answer = 2 ∷ 2 ∷ [] } ∷
    -- a LUT4 between an input of two bits and an output
    record { words = 0 ∷ 2 ∷ 2 ∷ 3 ∷ 1 ∷ 1 ∷ 4 ∷ 0 ∷ 2 ∷ 3 ∷ 0 ∷ 0 ∷ 2 ∷ 8 ∷ 0 ∷ 2 ∷ 7 ∷ 1 ∷ []; signals = 20; exprs = 28; stmts = 16; answer = 5 ∷ 6 ∷ 4 ∷ [] } ∷
    -- a PLL whose output is its feedback wire: accepted
    record { words = 10 ∷ 1 ∷ 0 ∷ 0 ∷ 1 ∷ 0 ∷ 0 ∷ 0 ∷ 0 ∷ 1 ∷ []; signals = 16; exprs = 8; stmts = 16; answer = 4 ∷ 2 ∷ 4 ∷ [] } ∷
    -- a wire driven twice; a wire missing
    record { words = lut_of 0 5 ++ lut_of 0 5 ++ (0 ∷ 0 ∷ 0 ∷ 2 ∷ []); signals = 99; exprs = 99; stmts = 99; answer = 7 ∷ 5 ∷ [] } ∷
    record { words = lut_of 5 0 ++ (0 ∷ 0 ∷ 0 ∷ 1 ∷ []); signals = 99; exprs = 99; stmts = 99; answer = 8 ∷ 3 ∷ [] } ∷
    -- a clock that is one bit of two
    record { words = 0 ∷ 2 ∷ 2 ∷ 3 ∷ (flop_of 9 2 (0 ∷ 0 ∷ 0 ∷ 0 ∷ 0 ∷ []) ++ (0 ∷ 1 ∷ 4 ∷ 1 ∷ [])); signals = 99; exprs = 99; stmts = 99; answer = 9 ∷ 0 ∷ [] } ∷
    -- a distributed RAM with a second port
    record { words = 7 ∷ 0 ∷ 0 ∷ 0 ∷ 0 ∷ 0 ∷ 0 ∷ 0 ∷ 0 ∷ 0 ∷ 1 ∷ 0 ∷ 0 ∷ 0 ∷ 0 ∷ 0 ∷ 1 ∷ 2 ∷ 3 ∷ 0 ∷ 0 ∷ 1 ∷ 0 ∷ 0 ∷ 0 ∷ 1 ∷ []; signals = 99; exprs = 99; stmts = 99; answer = 10 ∷ 0 ∷ [] } ∷
    -- a PLL that drives an input's wire
    record { words = 0 ∷ 1 ∷ 2 ∷ 10 ∷ 1 ∷ 0 ∷ 1 ∷ 2 ∷ 0 ∷ 0 ∷ 1 ∷ 3 ∷ 1 ∷ []; signals = 99; exprs = 99; stmts = 99; answer = 11 ∷ 0 ∷ [] } ∷
    -- two flip-flops on one clock, one of them with an asynchronous reset: two banks; with a synchronous one: one bank
    record { words = flop_of 0 1 (0 ∷ 0 ∷ 0 ∷ 0 ∷ 0 ∷ []) ++ flop_of 1 1 (1 ∷ 1 ∷ 1 ∷ 1 ∷ 0 ∷ []) ++ (0 ∷ 0 ∷ 0 ∷ 2 ∷ []); signals = 99; exprs = 99; stmts = 99; answer = 4 ∷ 2 ∷ 4 ∷ [] } ∷
    record { words = flop_of 0 1 (0 ∷ 0 ∷ 0 ∷ 0 ∷ 0 ∷ []) ++ flop_of 1 1 (1 ∷ 1 ∷ 1 ∷ 0 ∷ 0 ∷ []) ++ (0 ∷ 0 ∷ 0 ∷ 2 ∷ []); signals = 99; exprs = 99; stmts = 99; answer = 3 ∷ 4 ∷ 3 ∷ [] } ∷
    -- a block RAM without a clock enable; a constant one gives its and, the own read and the mux, and active low its not
    record { words = ram_of 0 (0 ∷ 0 ∷ 0 ∷ []) ++ (0 ∷ 0 ∷ 0 ∷ 1 ∷ []); signals = 99; exprs = 99; stmts = 99; answer = 4 ∷ 11 ∷ 4 ∷ [] } ∷
    record { words = ram_of 0 (1 ∷ 0 ∷ 1 ∷ []) ++ (0 ∷ 0 ∷ 0 ∷ 1 ∷ []); signals = 99; exprs = 99; stmts = 99; answer = 4 ∷ 14 ∷ 4 ∷ [] } ∷
    record { words = ram_of 0 (1 ∷ 0 ∷ 0 ∷ []) ++ (0 ∷ 0 ∷ 0 ∷ 1 ∷ []); signals = 99; exprs = 99; stmts = 99; answer = 4 ∷ 15 ∷ 4 ∷ [] } ∷
    -- a clock enable whose wire is missing; one that is a bit of two is read as any bit
    record { words = ram_of 0 (1 ∷ 7 ∷ 1 ∷ []) ++ (0 ∷ 0 ∷ 0 ∷ 1 ∷ []); signals = 99; exprs = 99; stmts = 99; answer = 8 ∷ 5 ∷ [] } ∷
    record { words = 0 ∷ 2 ∷ 2 ∷ 3 ∷ (ram_of 9 (1 ∷ 3 ∷ 1 ∷ []) ++ (0 ∷ 1 ∷ 4 ∷ 1 ∷ [])); signals = 99; exprs = 99; stmts = 99; answer = 5 ∷ 15 ∷ 4 ∷ [] } ∷
    -- READS THAT A CELL SHARES, in lists that they just fill: a LUT4 of two equal inputs reads one time, and their exclusive or is zero;
    -- so is that of its own output. One word less is refused
    record { words = 0 ∷ 1 ∷ 2 ∷ 1 ∷ 1 ∷ 3 ∷ (lut_with (2 ∷ 2 ∷ 0 ∷ 0 ∷ []) 1 26214 ++ (0 ∷ 2 ∷ 6 ∷ 1 ∷ [])); signals = 20; exprs = 18; stmts = 16; answer = 5 ∷ 4 ∷ 4 ∷ [] } ∷
    record { words = 0 ∷ 1 ∷ 2 ∷ 1 ∷ 1 ∷ 3 ∷ (lut_with (2 ∷ 2 ∷ 0 ∷ 0 ∷ []) 1 26214 ++ (0 ∷ 2 ∷ 6 ∷ 1 ∷ [])); signals = 20; exprs = 17; stmts = 16; answer = 2 ∷ 1 ∷ [] } ∷
    record { words = 1 ∷ 1 ∷ 2 ∷ (lut_with (2 ∷ 2 ∷ 0 ∷ 0 ∷ []) 0 26214 ++ (0 ∷ 1 ∷ 3 ∷ 1 ∷ [])); signals = 16; exprs = 18; stmts = 16; answer = 4 ∷ 4 ∷ 4 ∷ [] } ∷
    -- three equal inputs, whose exclusive or is the input; four, of which there are three ands
    record { words = 0 ∷ 1 ∷ 2 ∷ 1 ∷ 1 ∷ 3 ∷ (lut_with (2 ∷ 2 ∷ 2 ∷ 0 ∷ []) 1 38550 ++ (0 ∷ 2 ∷ 6 ∷ 1 ∷ [])); signals = 20; exprs = 18; stmts = 16; answer = 5 ∷ 4 ∷ 4 ∷ [] } ∷
    record { words = 0 ∷ 1 ∷ 2 ∷ 1 ∷ 1 ∷ 3 ∷ (lut_with (2 ∷ 2 ∷ 2 ∷ 2 ∷ []) 1 32768 ++ (0 ∷ 2 ∷ 6 ∷ 1 ∷ [])); signals = 20; exprs = 33; stmts = 16; answer = 5 ∷ 7 ∷ 4 ∷ [] } ∷
    -- two LUT4s of one wire read it twice: each cell shares by itself
    record { words = 0 ∷ 1 ∷ 2 ∷ (lut_with (2 ∷ 0 ∷ 0 ∷ 0 ∷ []) 1 43690 ++ (lut_with (2 ∷ 0 ∷ 0 ∷ 0 ∷ []) 2 43690 ++ (0 ∷ 1 ∷ 3 ∷ 2 ∷ []))); signals = 20; exprs = 18; stmts = 16; answer = 5 ∷ 4 ∷ 4 ∷ [] } ∷
    -- a CCU2C whose rows have the same two inputs, one of them its carry in: two reads, six exclusive ors, two muxes
    record { words = 0 ∷ 2 ∷ 2 ∷ 3 ∷ 3 ∷ 2 ∷ 3 ∷ 0 ∷ 0 ∷ 3 ∷ 2 ∷ 0 ∷ 0 ∷ 2 ∷ 2 ∷ 3 ∷ 4 ∷ 26214 ∷ 26214 ∷ 0 ∷ 0 ∷ 0 ∷ 1 ∷ 4 ∷ 1 ∷ []; signals = 24; exprs = 60; stmts = 20; answer = 6 ∷ 12 ∷ 5 ∷ [] } ∷
    -- a PFUMX of equal arms is the arm
    record { words = 0 ∷ 2 ∷ 2 ∷ 3 ∷ 1 ∷ 2 ∷ 2 ∷ 3 ∷ 2 ∷ 0 ∷ 1 ∷ 4 ∷ 1 ∷ []; signals = 16; exprs = 18; stmts = 12; answer = 4 ∷ 4 ∷ 3 ∷ [] } ∷
    -- a multiplier whose factors are the same wires: 18 reads, two concats
    record { words = 0 ∷ 18 ∷ (upwards 2 18 ++ (4 ∷ (upwards 2 18 ++ (upwards 2 18 ++ (upwards 18 36 ++ (0 ∷ 1 ∷ 20 ∷ 1 ∷ [])))))); signals = 16; exprs = 181; stmts = 12; answer = 4 ∷ 23 ∷ 3 ∷ [] } ∷
    -- a block RAM of three words whose addresses are the same wires: two reads, two concats
    record { words = 0 ∷ 2 ∷ 2 ∷ 3 ∷ (ram_with 3 (2 ∷ 3 ∷ []) (2 ∷ 3 ∷ []) (0 ∷ 0 ∷ 0 ∷ []) 0 2 ++ (0 ∷ 1 ∷ 4 ∷ 1 ∷ [])); signals = 28; exprs = 162; stmts = 40; answer = 7 ∷ 33 ∷ 6 ∷ [] } ∷
    -- one whose data bit is the wire of its own read, with a clock enable: the own read stands, only its mux is new
    record { words = ram_with 1 (0 ∷ 0 ∷ []) (0 ∷ 0 ∷ []) (1 ∷ 0 ∷ 1 ∷ []) 2 0 ++ (0 ∷ 0 ∷ 0 ∷ 1 ∷ []); signals = 16; exprs = 68; stmts = 24; answer = 4 ∷ 14 ∷ 4 ∷ [] } ∷
    -- NOTHING IS SHARED in a bank: a flip-flop whose data is its enable; nor in an output port of one wire twice
    record { words = 0 ∷ 1 ∷ 2 ∷ 5 ∷ 2 ∷ 1 ∷ 1 ∷ 0 ∷ 1 ∷ 2 ∷ 1 ∷ 0 ∷ 0 ∷ 0 ∷ 0 ∷ 0 ∷ 0 ∷ 1 ∷ 3 ∷ 1 ∷ []; signals = 16; exprs = 29; stmts = 16; answer = 4 ∷ 6 ∷ 3 ∷ [] } ∷
    record { words = 0 ∷ 1 ∷ 2 ∷ 1 ∷ 2 ∷ 2 ∷ 2 ∷ 0 ∷ 2 ∷ 7 ∷ 0 ∷ []; signals = 16; exprs = 23; stmts = 12; answer = 4 ∷ 5 ∷ 3 ∷ [] } ∷
    []

-- where nothing is shared, the first of the LUT4s with two equal inputs has two reads, and their exclusive or
abbrev pub unshared : List ℕ
unshared = said_by (lower_sharing 0 base (0 ∷ 1 ∷ 2 ∷ 1 ∷ 1 ∷ 3 ∷ (lut_with (2 ∷ 2 ∷ 0 ∷ 0 ∷ []) 1 26214 ++ (0 ∷ 2 ∷ 6 ∷ 1 ∷ []))) 20 28 16).answer

pub cases_hold : (map lowering cases ≡ map (λ (r : Row). r.answer) cases) × (unshared ≡ 5 ∷ 6 ∷ 4 ∷ [])
unfolding lowered lower_netlist reserve_netlist emit_netlist emit_constants emit_cells emit_cell emit_banks emit_outputs emit_flip_flop_bank next_bits next_bit reset_bits reserve_ports reserve_port reserve_cells reserve_cell_output reserve_scalar reserve_scalars reserve_vector reserve_absent reserve_flip_flop_banks insert_bits insert_wire insert_wires overdriven_from statements_on play fits over ◌>>=◌ collect_flip_flop_banks banks_from leaders_from flip_flops_from bank_in members_of emit_lut4 emit_pfumx emit_multiplier ccu_row emit_ccu2c nothing_seen standing noted bit_once asserted_once read_bits bit_expression wire_ref lut_cofactor join_cofactors evens mux_of xor_of emit_rewrite assign_wire emit_cycle_pll pll_clocks bit_signal asserted_expression concat_parts vector_expression vector_once vector_parts mux_level mux_levels gate write_word ram_word ram_words candidates_from emit_block_ram_read_port update_words emit_block_ram
cases_hold = (refl, refl)
