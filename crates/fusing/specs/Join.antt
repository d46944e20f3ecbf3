-- The table of a gate whose operands are tables: row i gives each of four positions a bit of i, and has the gate of what the operands show there.
use Rattle.std.specs.Prelude.{ℕ, zero, suc, ◌+◌, ◌-◌, ◌*◌, ◌/◌, ◌%◌, ◌^◌, ◌<◌, ◌≡◌, Bool, false, ◌||◌, List, [], ◌∷◌, eqb, get_or}
use Rattle.bits.specs.Bits.{pick, Bits, digit, binary, same, same_bits, table_bit}
use Rattle.evaluation.specs.Bytes.{gate_of}
use Rattle.fusing.specs.declared.join.Lut.{Lut}
use Rattle.fusing.specs.Form.{Form, form_bit}

abbrev pub form_of : Lut → Form
form_of v = record { table = v.table; first = get_or v.inputs 0 0; second = get_or v.inputs 1 0; third = get_or v.inputs 2 0; fourth = get_or v.inputs 3 0 }

-- a gate of up to three bits by its kind: 7 mux, 8 equal; the others take the first two
abbrev pub gate_bit : ℕ → Bool → Bool → Bool → Bool
gate_bit kind p q r = pick (eqb kind 7) (pick p q r) (pick (eqb kind 8) (same p q) (gate_of kind p q))

-- the bit of row i at a position
abbrev pub look_in : List ℕ → ℕ → ℕ → Bool
look_in s i p =
    pick (eqb p (get_or s 0 0)) (eqb (i % 2) 1)
    (pick (eqb p (get_or s 1 0)) (eqb (i / 2 % 2) 1)
    (pick (eqb p (get_or s 2 0)) (eqb (i / 4 % 2) 1)
    (pick (eqb p (get_or s 3 0)) (eqb (i / 8 % 2) 1)
    false)))

abbrev pub among : List ℕ → ℕ → Bool
among s p = eqb p (get_or s 0 0) || eqb p (get_or s 1 0) || eqb p (get_or s 2 0) || eqb p (get_or s 3 0)

-- the row of some bits
abbrev pub row_of : (ℕ → Bool) → List ℕ → ℕ
row_of x s = digit (x (get_or s 0 0)) + 2 * digit (x (get_or s 1 0)) + 4 * digit (x (get_or s 2 0)) + 8 * digit (x (get_or s 3 0))

abbrev pub row_bit : ℕ → List ℕ → Lut → Lut → Lut → ℕ → Bool
row_bit kind s p q r i = gate_bit kind (form_bit (look_in s i) (form_of p)) (form_bit (look_in s i) (form_of q)) (form_bit (look_in s i) (form_of r))

-- the rows from i on, as a number
pub record Tabled (f : ℕ → Bool) (t i : ℕ) : Type 0 where
  pub rows : (j : ℕ) → i + j < 16 → table_bit t j ≡ f (i + j)
  pub small : t < 2 ^ (16 - i)

abbrev pub flat_table : ℕ → Bool
flat_table t = eqb t 0 || eqb t 65535

-- the row that some bits make shows what the bits show
pub record Covers (s : List ℕ) (v : Lut) : Type 0 where
  pub covers : (x : ℕ → Bool) → form_bit (look_in s (row_of x s)) (form_of v) ≡ form_bit x (form_of v)

pub record Alone (p : ℕ) (v : Lut) : Type 0 where
  pub alone : (x : ℕ → Bool) → form_bit x (form_of v) ≡ x p

pub record Joins (kind : ℕ) (p q r z : Lut) : Type 0 where
  pub joins : (x : ℕ → Bool) → form_bit x (form_of z) ≡ gate_bit kind (form_bit x (form_of p)) (form_bit x (form_of q)) (form_bit x (form_of r))

-- the bits at w positions from p on
abbrev pub bits_from : (ℕ → Bool) → ℕ → ℕ → Bits
bits_from x p zero = []
bits_from x p (suc w) = x p ∷ bits_from x (suc p) w

-- they are the lowest of v
pub record Matches (w v p : ℕ) (z : Lut) : Type 0 where
  pub matches : (x : ℕ → Bool) → form_bit x (form_of z) ≡ same_bits (bits_from x p w) (binary w v)
