-- Bits as bytes, one a bit, and the bytes that hold values of given widths one after the other.
use Rattle.std.specs.Prelude.{ℕ, ◌≡◌, Bool, true, false, ◌&&◌, ◌||◌, not, List, [], ◌∷◌, ◌++◌, map, eqb, take, drop}
use Rattle.bits.specs.Bits.{pick, Bits, digit, differ}
use Rattle.simulation.specs.Run.{flat}
use Rattle.simulation.proofs.Flat.{Wide}

-- n bytes from an index on
abbrev pub part : List ℕ → ℕ → ℕ → List ℕ
part l i n = take n (drop i l)

abbrev pub same_bytes : List ℕ → List ℕ → Bool
same_bytes [] [] = true
same_bytes [] (c ∷ cs) = false
same_bytes (b ∷ bs) [] = false
same_bytes (b ∷ bs) (c ∷ cs) = eqb b c && same_bytes bs cs

-- a gate of two inputs by its kind, 4 and, 5 or, 6 xor; any other is the complement of the first
abbrev pub gate_of : ℕ → Bool → Bool → Bool
gate_of kind x y = pick (eqb kind 4) (x && y) (pick (eqb kind 5) (x || y) (pick (eqb kind 6) (differ x y) (not x)))

-- bytes that begin with the values vs, which have the widths ws
pub record Holds (ws : List ℕ) (vs : List Bits) (rest bytes : List ℕ) : Type 0 where
  pub wide : Wide ws vs
  pub begin : bytes ≡ map digit (flat vs) ++ rest
