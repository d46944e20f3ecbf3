-- What evaluating an expression asks, and what it leaves.
use Rattle.std.specs.Prelude.{ℕ, ◌+◌, ◌≤◌, ◌<◌, ◌≡◌, true, List, [], length, get_or, set}
use Rattle.std.specs.Prelude.{Some, None}
use Rattle.bits.specs.Bits.{Bits}
use Rattle.recorder.specs.Record.{Expr, Model, const, expr_words}
use Rattle.recorder.specs.Lists.{lists}
use Rattle.recorder.specs.Words.{raw_of}
use Rattle.recorder.specs.Read.{read_expr, read_all, model_of}
use Rattle.recorder.specs.Evaluate.{Signals, eval_expr}
use Rattle.simulation.specs.Wellformed.{expr_fits, first_fault}
use Rattle.simulation.specs.Index.{records_in, widths_in, offset, Indexed}
use Rattle.evaluation.specs.Bytes.{Holds}
use Rattle.evaluation.specs.Consistent.{computed}

-- expression e of a list of words
abbrev pub expr_in : List ℕ → ℕ → Expr
expr_in exprs e = get_or (read_all read_expr (records_in exprs)) e (const 0 0)

-- expression e stands at an index, and its operands can be found: it is well-formed, the table holds the first offsets, and the
-- values have room
pub record Ready (exprs table values : List ℕ) (at e : ℕ) : Type 0 where
  pub widest : ℕ
  pub signal_widths_lem : List ℕ
  pub there : e < length (records_in exprs)
  pub reads : read_expr (get_or (records_in exprs) e []) ≡ Some (expr_in exprs e)
  pub fits : expr_fits widest signal_widths_lem (widths_in exprs) e (expr_in exprs e) ≡ true
  pub inside : at + length (expr_words (expr_in exprs e)) ≤ length exprs
  pub words : (j : ℕ) → j < length (expr_words (expr_in exprs e)) → get_or exprs (at + j) 0 ≡ get_or (expr_words (expr_in exprs e)) j 0
  pub offsets : Indexed (widths_in exprs) table
  pub room : offset (widths_in exprs) (length (records_in exprs)) ≤ length values

-- expression e has its value over the others, which are as before, whatever the signals hold
pub record Evaluated (exprs : List ℕ) (e : ℕ) (values values' : List ℕ) : Type 0 where
  pub evaluated : (σ : Signals) (vs : List Bits) (rest : List ℕ) → Holds (widths_in exprs) vs rest values → Holds (widths_in exprs) (set vs e (eval_expr σ vs (expr_in exprs e))) rest values'

-- THE WHOLE MODEL

-- the model in three lists of words
abbrev pub model_in : List ℕ → List ℕ → List ℕ → Model
model_in signals exprs stmts = model_of (raw_of (lists signals exprs stmts))

-- a model without a fault, and tables of the offsets of its expressions and signals
pub record Prepared (signals exprs stmts expr_table signal_table : List ℕ) : Type 0 where
  pub widest : ℕ
  pub faultless : first_fault widest (raw_of (lists signals exprs stmts)) ≡ None
  pub expr_offsets : Indexed (widths_in exprs) expr_table
  pub signal_offsets : Indexed (widths_in signals) signal_table

-- every signal has room in the bytes, and every expression in the values
pub record Room (signals exprs bytes values : List ℕ) : Type 0 where
  pub bytes_room : offset (widths_in signals) (length (records_in signals)) ≤ length bytes
  pub values_room : offset (widths_in exprs) (length (records_in exprs)) ≤ length values

-- the same where the bytes hold the signals `old`: an assigned signal is read from its expression's value
pub record Computed (signals exprs stmts bytes : List ℕ) (e : ℕ) (values values' : List ℕ) : Type 0 where
  pub computed_holds : (old vs : List Bits) (behind rest : List ℕ) → Holds (widths_in signals) old behind bytes → Holds (widths_in exprs) vs rest values → Holds (widths_in exprs) (set vs e (computed (model_in signals exprs stmts) old vs e)) rest values'
