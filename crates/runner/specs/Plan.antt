-- What is made once for a list of ticks: two pieces of code, one before the registers load and one behind, and what they are for.
use Rattle.std.specs.Prelude.{ℕ, ◌+◌, ◌*◌, ◌≤◌, ◌<◌, ◌≡◌, true, List, length}
use Rattle.std.specs.Prelude.{Some}
use Rattle.simulation.specs.Tick.{given, assigns}
use Rattle.simulation.specs.Index.{records_in, stmts_in}
use Rattle.ordering.specs.Marks.{marked}
use Rattle.evaluation.specs.Loads.{stmt_in}
use Rattle.evaluation.specs.Ticks.{signals_in}
use Rattle.evaluation.specs.Late.{Among, Output, Asks, Loaded, Registers}
use Rattle.coding.specs.Coded.{bits_in, Coded}
use Rattle.runner.specs.declared.code.Code.{Code}

-- where each part begins, in a table for n expressions and s signals: the order of the expressions and their forms come first
abbrev pub registers_at : ℕ → ℕ → ℕ
registers_at n s = 7 * n

abbrev pub controls_at : ℕ → ℕ → ℕ
controls_at n s = 7 * n + s

abbrev pub outputs_at : ℕ → ℕ → ℕ
outputs_at n s = 7 * n + 2 * s

abbrev pub first_at : ℕ → ℕ → ℕ
first_at n s = 7 * n + 3 * s

abbrev pub second_at : ℕ → ℕ → ℕ
second_at n s = 8 * n + 3 * s

-- LISTS

-- marked numbers are among k words of a list
pub record Listing (order : List ℕ) (from k : ℕ) (marks : List ℕ) : Type 0 where
  pub listed : (x : ℕ) → marked marks x ≡ true → Among order from k x

-- the signals whose levels registers ask for
pub record Controls (stmts order : List ℕ) (from k : ℕ) : Type 0 where
  pub all_asked : (number x : ℕ) → number < length (records_in stmts) → Asks (stmt_in stmts number) x → Among order from k x

pub record Outputs (signals order : List ℕ) (from k : ℕ) : Type 0 where
  pub all_outputs : (x : ℕ) → Output (signals_in signals) x → Among order from k x

-- THE PLAN

module _ (signals exprs stmts : List ℕ) where
  -- a right plan, with room behind the expressions' values for the signals' bits
  pub record Planned (n s : ℕ) (c : Code) (order values : List ℕ) : Type 0 where
    pub room : 9 * n + 3 * s ≤ length order
    pub base_is : c.base ≡ bits_in exprs
    pub state_is : c.state ≡ bits_in signals
    pub values_room : bits_in exprs + bits_in signals ≤ length values
    pub registers : Registers stmts order (registers_at n s) c.registers
    pub controls : Controls stmts order (controls_at n s) c.controls
    pub outputs : Outputs signals order (outputs_at n s) c.outputs
    pub registers_few : c.registers ≤ s
    pub controls_few : c.controls ≤ s
    pub outputs_few : c.outputs ≤ s
    pub first : Coded signals exprs stmts n (first_at n s) c.first order
    pub second : Coded signals exprs stmts n (second_at n s) c.second order
    pub loaded_coded : (e : ℕ) → Loaded stmts e → Among order (first_at n s) c.first e
    pub controls_coded : (x d : ℕ) → Among order (controls_at n s) c.controls x → given assigns (stmts_in stmts) x ≡ Some d → Among order (first_at n s) c.first d
    pub outputs_coded : (x d : ℕ) → Among order (outputs_at n s) c.outputs x → given assigns (stmts_in stmts) x ≡ Some d → Among order (second_at n s) c.second d
