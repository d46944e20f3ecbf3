-- Code: expressions to evaluate, in order, each from what is known by then. One with a form is looked up in its table. A table of words has
-- first an order of all n expressions, then six words for each one's form; code stands somewhere behind them.
use Rattle.std.specs.Prelude.{ℕ, ◌+◌, ◌*◌, ◌/◌, ◌%◌, ◌^◌, ◌≤◌, ◌<◌, ◌≡◌, ◌⊎◌, length, get_or, drop, set}
use mathlib.Core.List.{List, [], Memᴰ as Mem}
use Rattle.bits.specs.Bits.{Bits}
use Rattle.simulation.specs.Index.{records_in, widths_in, offset}
use Rattle.simulation.specs.Tick.{values_in, settle}
use Rattle.ordering.specs.Order.{needs}
use Rattle.evaluation.specs.Bytes.{Holds}
use Rattle.evaluation.specs.Ready.{model_in}
use Rattle.evaluation.specs.Late.{Among}
use Rattle.fusing.specs.Form.{Formed}

-- all bits of the records of a list
abbrev pub bits_in : List ℕ → ℕ
bits_in list = offset (widths_in list) (length (records_in list))

-- a position of expression e
abbrev pub Within : List ℕ → ℕ → ℕ → Type 0
Within exprs e p = (e < length (records_in exprs)) × (offset (widths_in exprs) e ≤ p) × (p < offset (widths_in exprs) e + get_or (widths_in exprs) e 0)

-- a position of a signal, or of an expression in S
abbrev pub Known : List ℕ → List ℕ → (ℕ → Type 0) → ℕ → Type 0
Known signals exprs S p = ((bits_in exprs ≤ p) × (p < bits_in exprs + bits_in signals)) ⊎ ((d : ℕ) × S d × Within exprs d p)

module _ (signals exprs stmts : List ℕ) where
  -- what e is computed from is known: the inputs of its form, or what it needs
  pub record Computable (S : ℕ → Type 0) (forms : List ℕ) (e : ℕ) : Type 0 where
    pub there : e < length (records_in exprs)
    pub by_form : get_or forms (6 * e) 0 < 65536 → Known signals exprs S (get_or forms (6 * e + 2) 0) × Known signals exprs S (get_or forms (6 * e + 3) 0) × Known signals exprs S (get_or forms (6 * e + 4) 0) × Known signals exprs S (get_or forms (6 * e + 5) 0)
    pub by_needs : 65536 ≤ get_or forms (6 * e) 0 → (d : ℕ) → Mem d (needs (model_in signals exprs stmts) e) → S d

  -- k words of right code, from a word on
  pub record Coded (n from k : ℕ) (order : List ℕ) : Type 0 where
    pub forms_before : 7 * n ≤ from
    pub room : from + k ≤ length order
    pub formed : Formed signals exprs stmts (drop n order) n
    pub each : (j : ℕ) → j < k → Computable (Among order from j) (drop n order) (get_or order (from + j) 0)

  -- every code word has the value that it has in the settled model
  pub record SettlesCode (order : List ℕ) (from k : ℕ) (bytes values' : List ℕ) : Type 0 where
    pub settles_code : (old : List Bits) (behind : List ℕ) → Holds (widths_in signals) old behind bytes → (vs : List Bits) × (rest : List ℕ) × Holds (widths_in exprs) vs rest values' × ((e : ℕ) → Among order from k e → get_or vs e [] ≡ get_or (values_in (model_in signals exprs stmts) (settle (model_in signals exprs stmts) old)) e [])

-- a bit of a table, by the four bytes at its inputs
abbrev pub looked : ℕ → ℕ → ℕ → ℕ → ℕ → ℕ
looked t a b c d = t / 2 ^ ((a + 2 * b + 4 * c + 8 * d) % 16) % 2

-- the values with that of the expression whose form stands at a word
abbrev pub looked_up : List ℕ → ℕ → List ℕ → List ℕ
looked_up order at values = set values (get_or order (at + 1) 0) (looked (get_or order at 0) (get_or values (get_or order (at + 2) 0) 0) (get_or values (get_or order (at + 3) 0) 0) (get_or values (get_or order (at + 4) 0) 0) (get_or values (get_or order (at + 5) 0) 0))
