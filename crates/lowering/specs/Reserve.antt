-- The signals that ports, cells and banks reserve, and the wires that they hold: a definition for each function of lib.rs.
use Rattle.std.specs.Prelude.{List, [], ◌∷◌, ℕ, suc, eqb, length}
use Rattle.std.specs.Prelude.{Option, None, Some}
use Rattle.bits.specs.Bits.{pick}
use Rattle.netlist.specs.declared.Bit.{Bit}
use Rattle.netlist.specs.declared.Bit.TheVariants.{Zero, One, Wire}
use Rattle.netlist.specs.Netlist.{Port, SecondPort, Cell, Cell.lut4, Cell.pfumx, Cell.l6mux21, Cell.ccu2c, Cell.multiplier, Cell.flip_flop, Cell.block_ram, Cell.distributed_ram, Cell.io, Cell.jtagg, Cell.pll}
use Rattle.behaviour.specs.Banks.{Bank, outputs_of}
use Rattle.recorder.specs.Record.{Signal}
use Rattle.recorder.specs.Writer.{Writer, pure, refuse, declare, ◌>>=◌}
use Rattle.wires.specs.Wires.{WireRef, Wires, put}

abbrev pub insert_at : Option WireRef → Wires → ℕ → WireRef → Writer Wires
insert_at None m w r = pure (put m w r)
insert_at (Some q) m w r = refuse 7 w

-- a wire that is there already is refused; a constant is no wire
unfoldable pub insert_wire : Wires → Bit → WireRef → Writer Wires
insert_wire m Zero r = pure m
insert_wire m One r = pure m
insert_wire m (Wire w) r = insert_at (m w) m w r

-- the bits of a signal of this width, from bit number `lsb` on
unfoldable pub insert_bits : Wires → ℕ → ℕ → ℕ → List Bit → Writer Wires
insert_bits m signal width lsb [] = pure m
insert_bits m signal width lsb (b ∷ bs) = do
  m₁ ← insert_wire m b (record { signal = signal; lsb = lsb; width = width })
  insert_bits m₁ signal width (suc lsb) bs

unfoldable pub insert_wires : Wires → ℕ → ℕ → ℕ → List ℕ → Writer Wires
insert_wires m signal width lsb [] = pure m
insert_wires m signal width lsb (w ∷ ws) = do
  m₁ ← insert_wire m (Wire w) (record { signal = signal; lsb = lsb; width = width })
  insert_wires m₁ signal width (suc lsb) ws

-- ---- reserving: map, label, owner, wires

abbrev pub signal_of : ℕ → ℕ → ℕ → Signal
signal_of label width owner = record { label = label; width = width; owner = owner }

unfoldable pub reserve_scalar : Wires → ℕ → ℕ → ℕ → Writer Wires
reserve_scalar m label owner w = do
  s ← declare (signal_of label 1 owner)
  insert_wire m (Wire w) (record { signal = s; lsb = 0; width = 1 })

-- one signal of several wires (reserve_block_ram_read_output, reserve_flip_flop_banks)
unfoldable pub reserve_vector : Wires → ℕ → ℕ → List ℕ → Writer Wires
reserve_vector m label owner ws = do
  s ← declare (signal_of label (length ws) owner)
  insert_wires m s (length ws) 0 ws

-- a signal for each wire
unfoldable pub reserve_scalars : Wires → ℕ → ℕ → List ℕ → Writer Wires
reserve_scalars m label owner [] = pure m
reserve_scalars m label owner (w ∷ ws) = do
  m₁ ← reserve_scalar m label owner w
  reserve_scalars m₁ label owner ws

-- a signal for a wire that is not there yet
abbrev pub reserve_unless : Option WireRef → Wires → ℕ → ℕ → ℕ → Writer Wires
reserve_unless None m label owner w = reserve_scalar m label owner w
reserve_unless (Some q) m label owner w = pure m

unfoldable pub reserve_absent : Wires → ℕ → ℕ → List ℕ → Writer Wires
reserve_absent m label owner [] = pure m
reserve_absent m label owner (w ∷ ws) = do
  m₁ ← reserve_unless (m w) m label owner w
  reserve_absent m₁ label owner ws

abbrev pub reserve_second : Wires → ℕ → Option SecondPort → Writer Wires
reserve_second m owner None = pure m
reserve_second m owner (Some p) = reserve_vector m 8 owner p.output

-- cell number `owner`
unfoldable pub reserve_cell_output : Wires → ℕ → Cell → Writer Wires
reserve_cell_output m owner (lut4 inputs output init) = reserve_scalar m 2 owner output
reserve_cell_output m owner (pfumx high low select output) = reserve_scalar m 3 owner output
reserve_cell_output m owner (l6mux21 low high select output) = reserve_scalar m 4 owner output
reserve_cell_output m owner (ccu2c c) = reserve_scalars m 5 owner (c.sum0 ∷ c.sum1 ∷ c.carry ∷ [])
reserve_cell_output m owner (multiplier lhs rhs product) = reserve_vector m 6 owner product
reserve_cell_output m owner (flip_flop f) = pure m
reserve_cell_output m owner (block_ram r) = do
  m₁ ← reserve_vector m 8 owner r.output
  reserve_second m₁ owner r.second
reserve_cell_output m owner (distributed_ram r) = reserve_vector m 9 owner r.output
reserve_cell_output m owner (io pad driven input tristate) = reserve_scalar m 10 owner input
reserve_cell_output m owner (jtagg ws) = reserve_scalars m 11 owner ws
reserve_cell_output m owner (pll p) = reserve_absent m 12 owner (p.feedback ∷ p.output ∷ p.locked ∷ p.more)

unfoldable pub reserve_cells : Wires → ℕ → List Cell → Writer Wires
reserve_cells m c [] = pure m
reserve_cells m c (x ∷ xs) = do
  m₁ ← reserve_cell_output m c x
  reserve_cells m₁ (suc c) xs

-- port number p, whose signal has the same number: an output has no wires of its own
unfoldable pub reserve_port : Wires → ℕ → Port → Writer Wires
reserve_port m p port =
    pick (eqb port.direction 1)
    (declare (signal_of 1 (length port.bits) p) >>= λ s. pure m)
    (declare (signal_of 0 (length port.bits) p) >>= λ s. insert_bits m s (length port.bits) 0 port.bits)

unfoldable pub reserve_ports : Wires → ℕ → List Port → Writer Wires
reserve_ports m p [] = pure m
reserve_ports m p (port ∷ ports) = do
  m₁ ← reserve_port m p port
  reserve_ports m₁ (suc p) ports

unfoldable pub reserve_flip_flop_banks : Wires → ℕ → List Bank → Writer Wires
reserve_flip_flop_banks m b [] = pure m
reserve_flip_flop_banks m b (bank ∷ banks) = do
  m₁ ← reserve_vector m 7 b (outputs_of bank.members)
  reserve_flip_flop_banks m₁ (suc b) banks
