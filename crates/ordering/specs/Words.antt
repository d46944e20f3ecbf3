-- A model's expressions and statements from their words, and the tables that find them.
use Rattle.std.specs.Prelude.{ℕ, Bool, List, []}
use Rattle.std.specs.Prelude.{Option, None, Some}
use Rattle.recorder.specs.Record.{Model}
use Rattle.recorder.specs.Read.{read_signal, read_expr, read_all}
use Rattle.recorder.specs.Words.{EachReads}
use Rattle.simulation.specs.Tick.{given, assigns}
use Rattle.simulation.specs.Index.{records_in, stmts_in, Starts, Driven}
use Rattle.simulation.specs.Sound.{Sound}
use Rattle.ordering.specs.Marks.{marked}

-- whatever signals it has
abbrev pub model_in : List ℕ → List ℕ → Model
model_in exprs stmts = record { signals = []; exprs = read_all read_expr (records_in exprs); stmts = stmts_in stmts }

-- every expression can be read, and the tables are right
pub record Tabled (exprs starts stmts drivers : List ℕ) : Type 0 where
  pub readable : EachReads read_expr (records_in exprs)
  pub started : Starts exprs starts
  pub driven : Driven stmts drivers

-- the mark of the expression that is assigned to a signal
abbrev pub mark_of : List ℕ → Bool → Option ℕ → Bool
mark_of marks b None = b
mark_of marks b (Some e) = marked marks e

abbrev pub driver_marked : List ℕ → List ℕ → ℕ → Bool → Bool
driver_marked stmts marks s b = mark_of marks b (given assigns (stmts_in stmts) s)

-- with its signals
abbrev pub model_with : List ℕ → List ℕ → List ℕ → Model
model_with signals exprs stmts = record { signals = read_all read_signal (records_in signals); exprs = read_all read_expr (records_in exprs); stmts = stmts_in stmts }

-- it has no fault
pub record Faultless (signals exprs stmts : List ℕ) : Type 0 where
  pub widest : ℕ
  pub sound : Sound widest (model_with signals exprs stmts)
