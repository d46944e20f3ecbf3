-- The registers of a netlist's cells, as the signals of its model hold them.
use Rattle.std.specs.Prelude.{List, [], ◌∷◌, map, false, ℕ, get_or}
use Rattle.std.specs.Prelude.{Option, None, Some}
use Rattle.bits.specs.Bits.{Bits, window}
use Rattle.netlist.specs.Netlist.{SecondPort, Cell, lut4, pfumx, l6mux21, ccu2c, multiplier, flip_flop, block_ram, distributed_ram, io, jtagg, pll}
use Rattle.recorder.specs.Evaluate.{Signals}
use Rattle.behaviour.specs.Behaviour.{Registers, unused, zeros}
use Rattle.wires.specs.Wires.{Wires}
use Rattle.meaning.specs.Held.{held}
use Rattle.forms.specs.Acts.{aim}

-- the bits of a word of this width
abbrev pub bits_of : Signals → ℕ → ℕ → Bits
bits_of σ width s = window (σ s) 0 width

-- the read of a port whose first wire is w
abbrev pub read_of : Signals → Wires → ℕ → ℕ → Bits
read_of σ m width w = bits_of σ width (aim (m w))

abbrev pub second_read : Signals → Wires → ℕ → Option SecondPort → Bits
second_read σ m width None = zeros width
second_read σ m width (Some p) = read_of σ m width (get_or p.output 0 0)

-- those of a cell, whose RAM words have these signals
abbrev pub registers_of : Signals → Wires → Cell → List ℕ → Registers
registers_of σ m (lut4 i o t) ws = unused
registers_of σ m (pfumx t f s o) ws = unused
registers_of σ m (l6mux21 z y s o) ws = unused
registers_of σ m (ccu2c u) ws = unused
registers_of σ m (multiplier l r p) ws = unused
registers_of σ m (flip_flop f) ws = record { flop = held σ m f.output; words = []; read_a = []; read_b = [] }
registers_of σ m (block_ram r) ws = record { flop = false; words = map (bits_of σ r.width) ws; read_a = read_of σ m r.width (get_or r.output 0 0); read_b = second_read σ m r.width r.second }
registers_of σ m (distributed_ram r) ws = record { flop = false; words = map (bits_of σ 4) ws; read_a = []; read_b = [] }
registers_of σ m (io p d i t) ws = unused
registers_of σ m (jtagg o) ws = unused
registers_of σ m (pll p) ws = unused

abbrev pub registers_all : Signals → Wires → List Cell → List (List ℕ) → List Registers
registers_all σ m [] ws = []
registers_all σ m (x ∷ xs) [] = registers_of σ m x [] ∷ registers_all σ m xs []
registers_all σ m (x ∷ xs) (w ∷ ws) = registers_of σ m x w ∷ registers_all σ m xs ws
