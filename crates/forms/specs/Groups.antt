-- The outputs of a cell, in groups: each group's wires share a signal.
use Rattle.std.specs.Prelude.{Bool, true, false, List, [], ◌∷◌, map, ℕ, suc}
use Rattle.std.specs.Prelude.{Option, None, Some}
use Rattle.netlist.specs.declared.Bit.TheVariants.{Wire}
use Rattle.netlist.specs.Netlist.{SecondPort, Cell, lut4, pfumx, l6mux21, ccu2c, multiplier, flip_flop, block_ram, distributed_ram, io, jtagg, pll}
use Rattle.behaviour.specs.WireMap.{Slot, pins, pll_wires}

-- the first wire is at this output pin
pub record Group : Type 0 where
  pub pin : ℕ
  pub wires : List ℕ

abbrev pub apiece : List ℕ → ℕ → List Group
apiece [] k = []
apiece (w ∷ ws) k = record { pin = k; wires = w ∷ [] } ∷ apiece ws (suc k)

abbrev pub second_group : ℕ → Option SecondPort → List Group
second_group k None = []
second_group k (Some p) = record { pin = k; wires = p.output } ∷ []

abbrev pub groups : Cell → List Group
groups (lut4 i o t) = apiece (o ∷ []) 0
groups (pfumx t f s o) = apiece (o ∷ []) 0
groups (l6mux21 z y s o) = apiece (o ∷ []) 0
groups (ccu2c u) = apiece (u.sum0 ∷ u.sum1 ∷ u.carry ∷ []) 0
groups (multiplier l r p) = record { pin = 0; wires = p } ∷ []
groups (flip_flop f) = []
groups (block_ram r) = record { pin = 0; wires = r.output } ∷ second_group r.width r.second
groups (distributed_ram r) = record { pin = 0; wires = r.output } ∷ []
groups (io p d i t) = apiece (i ∷ []) 0
groups (jtagg ws) = apiece ws 0
groups (pll p) = apiece (pll_wires p) 0

-- the slot of a group of cell c
abbrev pub slot_of : ℕ → Group → Slot
slot_of c g = record { source = pins c g.pin; bits = map Wire g.wires }

abbrev pub is_pll : Cell → Bool
is_pll (lut4 i o t) = false
is_pll (pfumx t f s o) = false
is_pll (l6mux21 z y s o) = false
is_pll (ccu2c u) = false
is_pll (multiplier l r p) = false
is_pll (flip_flop f) = false
is_pll (block_ram r) = false
is_pll (distributed_ram r) = false
is_pll (io p d i t) = false
is_pll (jtagg ws) = false
is_pll (pll p) = true
