-- Settling expression by expression: those that have their values so far, and what one expression and one pass add.
use Rattle.std.specs.Prelude.{ℕ, ◌<◌, ◌≡◌, Bool, true, false, length, take, set}
use mathlib.Core.List.{List, Memᴰ as Mem}
use Rattle.bits.specs.Bits.{pick, Bits}
use Rattle.simulation.specs.Index.{widths_in}
use Rattle.ordering.specs.Order.{needs}
use Rattle.ordering.specs.Marks.{marked, Stuck, left, adds}
use Rattle.evaluation.specs.Bytes.{Holds}
use Rattle.evaluation.specs.Consistent.{Right}
use Rattle.evaluation.specs.Ready.{model_in, Computed}

-- the first j of an order
abbrev pub InOrder : List ℕ → ℕ → ℕ → Type 0
InOrder order j e = Mem e (take j order)

-- the marked ones
abbrev pub InMarks : List ℕ → ℕ → Type 0
InMarks marks e = marked marks e ≡ true

module _ (signals exprs stmts : List ℕ) where
  -- what the expressions in S need is in S, and their values are right over the signals
  pub record RightOn (S : ℕ → Type 0) (bytes values : List ℕ) : Type 0 where
    pub closed : (e d : ℕ) → S e → Mem d (needs (model_in signals exprs stmts) e) → S d
    pub right_on : (old : List Bits) (behind : List ℕ) → Holds (widths_in signals) old behind bytes → (vs : List Bits) × (rest : List ℕ) × Holds (widths_in exprs) vs rest values × ((e : ℕ) → e < length (model_in signals exprs stmts).exprs → S e → Right (model_in signals exprs stmts) old vs e)

  -- one expression: evaluated and marked, or nothing
  pub record SettlesOne (bytes : List ℕ) (e : ℕ) (values marks : List ℕ) (r : Bool) (values' marks' : List ℕ) : Type 0 where
    pub added : r ≡ adds (model_in signals exprs stmts) marks e
    pub marks_are : marks' ≡ pick r (set marks e 1) marks
    pub computes : r ≡ true → Computed signals exprs stmts bytes e values values'
    pub keeps : r ≡ false → values' ≡ values

  -- a pass: fewer are left, or none can be added
  pub record SettlesPass (n : ℕ) (bytes marks : List ℕ) (r : Bool) (values' marks' : List ℕ) : Type 0 where
    pub right : RightOn (InMarks marks') bytes values'
    pub fewer : r ≡ true → left marks' n < left marks n
    pub stuck : r ≡ false → Stuck (model_in signals exprs stmts) marks'
