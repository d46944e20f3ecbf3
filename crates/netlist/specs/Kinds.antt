-- The kinds of cells by number.
use Rattle.std.specs.Prelude.{List, [], ◌∷◌, ℕ, get_or}
use Rattle.netlist.specs.declared.Kind.{Kind}
use Rattle.netlist.specs.declared.Kind.TheVariants as K

-- from 0
abbrev pub kinds : List Kind
kinds = K.Lut4 ∷ K.Pfumx ∷ K.L6mux21 ∷ K.Ccu2c ∷ K.Multiplier ∷ K.FlipFlop ∷ K.BlockRam ∷ K.DistributedRam ∷ K.Io ∷ K.Jtagg ∷ K.Pll ∷ []

-- the kind that a number names; a number above the last names the last
abbrev pub kind_of : ℕ → Kind
kind_of number = get_or kinds number K.Pll
