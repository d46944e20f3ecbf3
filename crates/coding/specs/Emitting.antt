-- How code is made: along an order of all expressions, one that is wanted becomes the next code word if what it is computed from is known.
-- Marks and bytes note what is known: an expression that is a code word is marked, and each of its positions is 1.
use Rattle.std.specs.Prelude.{ℕ, ◌+◌, ◌*◌, ◌≤◌, ◌<◌, ◌≡◌, true, ◌⊎◌, List, length, get_or, take, drop}
use Rattle.std.specs.Prelude.{Option, Some, IfSome}
use Rattle.simulation.specs.Tick.{given, assigns}
use Rattle.simulation.specs.Index.{stmts_in}
use Rattle.ordering.specs.Marks.{marked}
use Rattle.evaluation.specs.Late.{Among, Loaded}
use Rattle.fusing.specs.Form.{Formed}
use Rattle.coding.specs.Coded.{bits_in, Within, Computable}

-- no position is known yet
pub record Unplaced (values : List ℕ) : Type 0 where
  pub none_placed : (p : ℕ) → get_or values p 0 ≡ 1 → ⊥

-- a position of a signal, or one that is known
pub record Placed (values : List ℕ) (base top p : ℕ) : Type 0 where
  pub placed : ((base ≤ p) × (p < top)) ⊎ ((p < base) × (get_or values p 0 ≡ 1))

-- those from one position to another become known
pub record Places (from end : ℕ) (values values' : List ℕ) : Type 0 where
  pub places : (p : ℕ) → get_or values' p 0 ≡ 1 → ((from ≤ p) × (p < end)) ⊎ (get_or values p 0 ≡ 1)

-- all that registers may load is marked
pub record MarksLoaded (stmts marks : List ℕ) : Type 0 where
  pub marks_loaded : (e : ℕ) → Loaded stmts e → marked marks e ≡ true

-- all that is assigned to the signals of a list is marked
pub record MarksDrivers (stmts list : List ℕ) (from k : ℕ) (marks : List ℕ) : Type 0 where
  pub marks_drivers : (s d : ℕ) → Among list from k s → given assigns (stmts_in stmts) s ≡ Some d → marked marks d ≡ true

module _ (signals exprs stmts : List ℕ) where
  -- k code words are made, from a word on
  pub record Emitting (n from k : ℕ) (order values marks : List ℕ) : Type 0 where
    pub forms_before : 7 * n ≤ from
    pub room : from + n ≤ length order
    pub few : k ≤ n
    pub formed : Formed signals exprs stmts (drop n order) n
    pub each : (j : ℕ) → j < k → Computable signals exprs stmts (Among order from j) (drop n order) (get_or order (from + j) 0)
    pub in_marks : (e : ℕ) → marked marks e ≡ true → Among order from k e
    pub in_values : (p : ℕ) → p < bits_in exprs → get_or values p 0 ≡ 1 → (d : ℕ) × Among order from k d × Within exprs d p

  -- there were k, and r are there now; None says that the code can't be made. What stands before the code is kept
  pub record Emits (n from k : ℕ) (r : Option ℕ) (order order' values' marks' : List ℕ) : Type 0 where
    pub kept : take from order' ≡ take from order
    pub made : IfSome r (λ r. Emitting n from r order' values' marks' × (r ≤ k + 1))

  -- all that are wanted
  pub record EmitsAll (n from : ℕ) (r : Option ℕ) (order order' values' marks' : List ℕ) : Type 0 where
    pub kept : take from order' ≡ take from order
    pub made : IfSome r (λ r. Emitting n from r order' values' marks')
