-- How the registers load, in two passes over the statements: marks note what each loads before any value is stored, as a register's control
-- may be a register; then the values are stored.
use Rattle.std.specs.Prelude.{ℕ, ◌+◌, ◌≤◌, ◌<◌, ◌≡◌, Bool, List, [], ◌⊎◌, eqb, length, get_or}
use Rattle.std.specs.Prelude.{Option, None, Some}
use Rattle.bits.specs.Bits.{pick, Bits}
use Rattle.settle.specs.Table.{at as signals_at}
use Rattle.recorder.specs.Record.{RegReset, Stmt, assign, reg}
use Rattle.recorder.specs.Read.{read_stmt}
use Rattle.recorder.specs.Words.{EachReads}
use Rattle.recorder.specs.Evaluate.{Signals}
use Rattle.simulation.specs.Wellformed.{count_of, stmt_fits}
use Rattle.simulation.specs.Tick.{target, assigns, asserted, Firing, loads}
use Rattle.simulation.specs.Sound.{AllFrom, on}
use Rattle.simulation.specs.Index.{records_in, widths_in, start_of, stmts_in}
use Rattle.simulation.proofs.Stores.{store, stores}
use Rattle.evaluation.specs.Bytes.{Holds}

-- THE STATEMENTS

-- statement k of a list of words
abbrev pub stmt_in : List ℕ → ℕ → Stmt
stmt_in stmts k = get_or (stmts_in stmts) k (assign 0 0)

-- statements that can be read and fit the signals, at most one on each
pub record Stated (signals stmts : List ℕ) : Type 0 where
  pub expr_widths_lem : List ℕ
  pub readable : EachReads read_stmt (records_in stmts)
  pub fit : AllFrom (λ (n : ℕ). stmt_fits (widths_in signals) expr_widths_lem) 0 (stmts_in stmts)
  pub one_each : (i : ℕ) → i < length (records_in signals) → count_of (on i) (stmts_in stmts) ≤ 1

-- a record of a list begins at a word
pub record Begins (list : List ℕ) (word : ℕ) : Type 0 where
  pub number : ℕ
  pub there : number < length (records_in list)
  pub begins : word ≡ start_of list number

-- CONTROLS: a reset or an enable in a register's record is 0, or 1, its signal, the level that asserts it

-- one that is given has a signal of one bit
pub record Control (signals stmts : List ℕ) (word : ℕ) : Type 0 where
  pub inside : word < length stmts
  pub one_bit : (get_or stmts word 0 ≡ 0 → ⊥) → (word + 2 < length stmts) × (get_or stmts (word + 1) 0 < length (records_in signals)) × (get_or (widths_in signals) (get_or stmts (word + 1) 0) 0 ≡ 1)

-- it is asserted; `absent` where none is given
abbrev pub control_at : Signals → List ℕ → ℕ → Bool → Bool
control_at v stmts word absent = pick (eqb (get_or stmts word 0) 0) absent (asserted v (get_or stmts (word + 1) 0) (get_or stmts (word + 2) 0))

-- the word of a register's enable, which stands behind its reset
abbrev pub enable_at : List ℕ → ℕ → ℕ
enable_at stmts word = pick (eqb (get_or stmts (word + 6) 0) 0) (word + 7) (word + 10)

-- MARKS: a register's is 1 if it loads its next value, 2 if it loads its reset's, anything else if it keeps its own

abbrev pub reset_value : Option RegReset → Option ℕ
reset_value None = None
reset_value (Some r) = Some r.value

-- what a statement loads by a mark
abbrev pub marked : ℕ → Stmt → Option ℕ
marked mark (assign t e) = None
marked mark (reg t n c d r e) = pick (eqb mark 1) (Some n) (pick (eqb mark 2) (reset_value r) None)

-- each signal's mark stands by its number
abbrev pub by_marks : List ℕ → Stmt → Option ℕ
by_marks marks x = marked (get_or marks (target x) 0) x

-- EXPRESSIONS THAT STATEMENTS NAME: what is assigned, a register's next value and its reset's

abbrev pub Names : Stmt → ℕ → Type 0
Names x e = (assigns x ≡ Some e) ⊎ ((marked 1 x ≡ Some e) ⊎ (marked 2 x ≡ Some e))

pub record Named (stmts : List ℕ) (e : ℕ) : Type 0 where
  pub number : ℕ
  pub there : number < length (records_in stmts)
  pub names : Names (stmt_in stmts number) e

-- values that agree on them
abbrev pub SameNamed : List ℕ → List Bits → List Bits → Type 0
SameNamed stmts a b = (e : ℕ) → Named stmts e → get_or a e [] ≡ get_or b e []

-- every statement's signal has one
pub record Markable (stmts marks : List ℕ) : Type 0 where
  pub signals : List ℕ
  pub stated : Stated signals stmts
  pub room : length (records_in signals) ≤ length marks

module _ (signals stmts : List ℕ) (fires : Firing) (bytes : List ℕ) where
  -- the mark of statement k
  pub record MarkOf (k mark : ℕ) : Type 0 where
    pub means : (t : List Bits) (behind : List ℕ) → Holds (widths_in signals) t behind bytes → marked mark (stmt_in stmts k) ≡ loads fires (signals_at [] t) (stmt_in stmts k)

  -- it is noted, and the other signals' marks are kept
  pub record NotesOne (k : ℕ) (marks marks' : List ℕ) : Type 0 where
    pub own : MarkOf k (get_or marks' (target (stmt_in stmts k)) 0)
    pub others : (i : ℕ) → (i ≡ target (stmt_in stmts k) → ⊥) → get_or marks' i 0 ≡ get_or marks i 0

  -- the first n statements are noted
  pub record Noted (n : ℕ) (marks : List ℕ) : Type 0 where
    pub noted : (k : ℕ) → k < n → MarkOf k (get_or marks (target (stmt_in stmts k)) 0)

-- STORING: one statement after the other stores what it loads by the marks
pub record StoresMarked (signals exprs stmts values marks bytes bytes' : List ℕ) : Type 0 where
  pub stores_marked : (old vs : List Bits) (behind rest : List ℕ) → Holds (widths_in signals) old behind bytes → Holds (widths_in exprs) vs rest values → Holds (widths_in signals) (stores (by_marks marks) vs (stmts_in stmts) old) behind bytes'

-- statement k alone
pub record StoresLoad (signals exprs stmts values marks : List ℕ) (k : ℕ) (bytes bytes' : List ℕ) : Type 0 where
  pub stores_load : (old vs : List Bits) (behind rest : List ℕ) → Holds (widths_in signals) old behind bytes → Holds (widths_in exprs) vs rest values → Holds (widths_in signals) (store vs (by_marks marks (stmt_in stmts k)) (target (stmt_in stmts k)) old) behind bytes'
