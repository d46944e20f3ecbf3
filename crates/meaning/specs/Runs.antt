-- What every part of a netlist does in a tick, on the signals of its wires.
use Rattle.std.specs.Prelude.{◌≡◌, List, [], ◌∷◌, ℕ, length}
use Rattle.netlist.specs.Netlist.{Cell}
use Rattle.behaviour.specs.WireMap.{word_signals}

-- the signals of each cell's RAM words: as many as it has words
abbrev pub Laid : List Cell → List (List ℕ) → Type 0
Laid [] [] = Unit {0}
Laid [] (w ∷ ws) = ⊥
Laid (x ∷ xs) [] = ⊥
Laid (x ∷ xs) (w ∷ ws) = (length w ≡ word_signals x) × Laid xs ws
