-- What cells, banks and output ports emit: a definition for each function of lib.rs, in its order of events.
use Rattle.std.specs.Prelude.{List, [], ◌∷◌, ℕ, suc, eqb}
use Rattle.std.specs.Prelude.{Option, None, Some}
use Rattle.bits.specs.Bits.{pick}
use Rattle.netlist.specs.declared.Control.{Control}
use Rattle.netlist.specs.declared.Reset.{Reset}
use Rattle.netlist.specs.Netlist.{FlipFlop, Port, Cell, Cell.lut4, Cell.pfumx, Cell.l6mux21, Cell.ccu2c, Cell.multiplier, Cell.flip_flop, Cell.block_ram, Cell.distributed_ram, Cell.io, Cell.jtagg, Cell.pll}
use Rattle.behaviour.specs.Banks.{Member, Bank, async_reset}
use Rattle.recorder.specs.Record.{Expr.mux, RegReset, Stmt.assign, Stmt.reg}
use Rattle.recorder.specs.Writer.{Writer, pure, refuse, emit, state, ◌>>=◌, ◌>>◌}
use Rattle.wires.specs.declared.Constants.{Constants}
use Rattle.wires.specs.Wires.{Wires}
use Rattle.wires.specs.Seen.{nothing_seen, forgetting}
use Rattle.wires.specs.Expressions.{wire_ref, read_ref, bit_expression, bit_signal, asserted_expression, concat_parts, bits_expression}
use Rattle.cells.specs.Cells.{emit_lut4, emit_pfumx, emit_l6mux21, emit_ccu2c, emit_multiplier, emit_io, emit_idle_jtagg, emit_cycle_pll}
use Rattle.memories.specs.Memories.{emit_block_ram, emit_distributed_ram}

-- FLIP-FLOPS

abbrev pub with_enable : Wires → ℕ → Option Control → ℕ → Writer ℕ
with_enable m output None next = pure next
with_enable m output (Some c) next = do
  r ← wire_ref m output
  q ← read_ref r
  y ← asserted_expression m c
  emit (mux 1 y next q)

-- the expression of a reset's value
abbrev pub reset_bit : Option Reset → ℕ
reset_bit None = 0
reset_bit (Some r) = pick (eqb r.value 1) 1 0

abbrev pub with_reset : Wires → Option Reset → ℕ → Writer ℕ
with_reset m None next = pure next
with_reset m (Some r) next =
    pick (eqb r.asynchronous 1) (pure next)
    (asserted_expression m (record { signal = r.signal; active = r.active }) >>= λ y. emit (mux 1 y (reset_bit (Some r)) next))

unfoldable pub next_bit : Wires → FlipFlop → Writer ℕ
next_bit m f = do
  d ← bit_expression m f.input
  e ← with_enable m f.output f.enable d
  with_reset m f.reset e

-- of the flip-flops left, lowest first; `parts` has those done, the highest first
unfoldable pub next_bits : Wires → List Member → List ℕ → Writer (List ℕ)
next_bits m [] parts = pure parts
next_bits m (f ∷ fs) parts = do
  e ← next_bit m f.flop
  next_bits m fs (e ∷ parts)

unfoldable pub reset_bits : List Member → List ℕ → List ℕ
reset_bits [] parts = parts
reset_bits (f ∷ fs) parts = reset_bits fs (reset_bit f.flop.reset ∷ parts)

abbrev pub bank_reset : Wires → Constants → Option Reset → List Member → Writer (Option RegReset)
bank_reset m z None fs = pure None
bank_reset m z (Some r) fs = do
  v ← concat_parts (reset_bits fs [])
  s ← bit_signal m z r.signal
  pure (Some (record { signal = s; active = r.active; value = v }))

unfoldable pub emit_flip_flop_bank : Wires → Constants → Bank → Writer (Unit {0})
emit_flip_flop_bank m z b = do
  target ← wire_ref m b.leader.flop.output
  parts ← next_bits m b.members []
  next ← concat_parts parts
  reset ← bank_reset m z (async_reset b.leader.flop) b.members
  clock ← bit_signal m z b.leader.flop.clock
  state (reg target.signal next clock b.leader.flop.edge reset None)

unfoldable pub emit_banks : Wires → Constants → List Bank → Writer (Unit {0})
emit_banks m z [] = pure tt
emit_banks m z (b ∷ bs) = do
  emit_flip_flop_bank m z b
  emit_banks m z bs

-- CELLS: each shares its reads of so many wires, by itself

unfoldable pub emit_cell : ℕ → Wires → Constants → ℕ → Cell → Writer (Unit {0})
emit_cell shared m z owner (lut4 inputs output init) = forgetting (emit_lut4 m (nothing_seen shared) inputs output init)
emit_cell shared m z owner (pfumx high low select output) = forgetting (emit_pfumx m (nothing_seen shared) high low select output)
emit_cell shared m z owner (l6mux21 low high select output) = forgetting (emit_l6mux21 m (nothing_seen shared) low high select output)
emit_cell shared m z owner (ccu2c c) = forgetting (emit_ccu2c m (nothing_seen shared) c)
emit_cell shared m z owner (multiplier lhs rhs product) = forgetting (emit_multiplier m (nothing_seen shared) lhs rhs product)
emit_cell shared m z owner (flip_flop f) = pure tt
emit_cell shared m z owner (block_ram r) = forgetting (emit_block_ram m z (nothing_seen shared) owner r)
emit_cell shared m z owner (distributed_ram r) = pick (eqb r.second 1) (refuse 10 owner) (forgetting (emit_distributed_ram m z (nothing_seen shared) owner r))
emit_cell shared m z owner (io pad driven input tristate) = forgetting (emit_io m (nothing_seen shared) pad driven input tristate)
emit_cell shared m z owner (jtagg ws) = emit_idle_jtagg m ws
emit_cell shared m z owner (pll p) = emit_cycle_pll m p

unfoldable pub emit_cells : ℕ → Wires → Constants → ℕ → List Cell → Writer (Unit {0})
emit_cells shared m z c [] = pure tt
emit_cells shared m z c (x ∷ xs) = do
  emit_cell shared m z c x
  emit_cells shared m z (suc c) xs

-- OUTPUTS

-- the ports from number p on
unfoldable pub emit_outputs : Wires → ℕ → List Port → Writer (Unit {0})
emit_outputs m p [] = pure tt
emit_outputs m p (port ∷ ports) = do
  pick (eqb port.direction 1) (bits_expression m port.bits >>= λ e. state (assign p e)) (pure tt)
  emit_outputs m (suc p) ports
