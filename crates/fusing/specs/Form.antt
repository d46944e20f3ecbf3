-- One-bit expressions as tables of up to four bits. Positions count the bits of all expressions in order and, behind them, of all signals.
use Rattle.std.specs.Prelude.{ℕ, ◌+◌, ◌*◌, ◌<◌, ◌≡◌, Bool, false, List, [], ◌∷◌, ◌++◌, get_or}
use Rattle.bits.specs.Bits.{Bits, digit, table_bit}
use Rattle.simulation.specs.Run.{flat}
use Rattle.simulation.specs.Index.{widths_in, offset}
use Rattle.simulation.proofs.Flat.{Wide}
use Rattle.evaluation.specs.Consistent.{Consistent}
use Rattle.evaluation.specs.Ready.{model_in}

-- the bit at each position, for the values vs of all expressions and the signals old
abbrev pub bit_at : List Bits → List Bits → ℕ → Bool
bit_at vs old p = get_or (flat vs ++ flat old) p false

-- a table of 16 bits, and the positions of its four inputs
pub record Form : Type 0 where
  pub table : ℕ
  pub first : ℕ
  pub second : ℕ
  pub third : ℕ
  pub fourth : ℕ

abbrev pub row : (ℕ → Bool) → Form → ℕ
row x f = digit (x f.first) + 2 * digit (x f.second) + 4 * digit (x f.third) + 8 * digit (x f.fourth)

abbrev pub form_bit : (ℕ → Bool) → Form → Bool
form_bit x f = table_bit f.table (row x f)

-- six words for each expression: its table, its own position, the four positions; a table from 65,536 on is none
abbrev pub form_at : List ℕ → ℕ → Form
form_at forms e = record {
  table = get_or forms (6 * e) 0;
  first = get_or forms (6 * e + 2) 0;
  second = get_or forms (6 * e + 3) 0;
  third = get_or forms (6 * e + 4) 0;
  fourth = get_or forms (6 * e + 5) 0;
}

module _ (signals exprs stmts : List ℕ) where
  -- values that agree with one another show it
  pub record Means (e : ℕ) (f : Form) : Type 0 where
    pub means : (old vs : List Bits) → Wide (widths_in signals) old → Wide (widths_in exprs) vs → Consistent (model_in signals exprs stmts) old vs → get_or vs e [] ≡ form_bit (bit_at vs old) f ∷ []

  -- every form that is there, of the first n expressions, is right
  pub record Formed (forms : List ℕ) (n : ℕ) : Type 0 where
    pub own_position : (e : ℕ) → e < n → get_or forms (6 * e) 0 < 65536 → get_or forms (6 * e + 1) 0 ≡ offset (widths_in exprs) e
    pub formed : (e : ℕ) → e < n → get_or forms (6 * e) 0 < 65536 → Means e (form_at forms e)
