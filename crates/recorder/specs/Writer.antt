-- What an emitting function means, as a value: the records that it adds to the three lists, in order, and how it ends.
-- Lowering never reads a record back, so this is all that it does but for the lists' room (Lists.antt).
use Rattle.std.specs.Prelude.{List, [], ◌∷◌, ◌++◌, ℕ, ◌+◌, length}
use Rattle.recorder.specs.Record.{Signal, Expr, Stmt, Model}

infixl 20 ◌>>=◌
infixl 20 ◌>>◌
-- a record goes to the signals, the expressions or the statements
pub data Event : Type 0 where
  signal : Signal → Event
  expr : Expr → Event
  stmt : Stmt → Event

abbrev pub signals_of : List Event → List Signal
signals_of [] = []
signals_of (signal s ∷ es) = s ∷ signals_of es
signals_of (expr x ∷ es) = signals_of es
signals_of (stmt t ∷ es) = signals_of es

abbrev pub exprs_of : List Event → List Expr
exprs_of [] = []
exprs_of (signal s ∷ es) = exprs_of es
exprs_of (expr x ∷ es) = x ∷ exprs_of es
exprs_of (stmt t ∷ es) = exprs_of es

abbrev pub stmts_of : List Event → List Stmt
stmts_of [] = []
stmts_of (signal s ∷ es) = stmts_of es
stmts_of (expr x ∷ es) = stmts_of es
stmts_of (stmt t ∷ es) = t ∷ stmts_of es

abbrev pub model_of : List Event → Model
model_of es = record { signals = signals_of es; exprs = exprs_of es; stmts = stmts_of es }

-- the numbers that the next signal, expression and statement take
pub record Count : Type 0 where
  pub signals : ℕ
  pub exprs : ℕ
  pub stmts : ℕ

abbrev pub further : Count → List Event → Count
further n es = record { signals = n.signals + length (signals_of es); exprs = n.exprs + length (exprs_of es); stmts = n.stmts + length (stmts_of es) }

-- a value, or a refusal's number and place
pub data End (A : Type 0) : Type 0 where
  ok : A → End A
  no : ℕ → ℕ → End A

pub record Out (A : Type 0) : Type 0 where
  pub events : List Event
  pub end : End A

abbrev pub Writer : Type 0 → Type 0
Writer A = Count → Out A

abbrev pub pure : {A : Type 0} → A → Writer A
pure a n = record { events = []; end = ok a }

abbrev pub refuse : {A : Type 0} → ℕ → ℕ → Writer A
refuse number place n = record { events = []; end = no number place }

-- a signal, and its number
abbrev pub declare : Signal → Writer ℕ
declare s n = record { events = signal s ∷ []; end = ok n.signals }

-- an expression, and its number
abbrev pub emit : Expr → Writer ℕ
emit x n = record { events = expr x ∷ []; end = ok n.exprs }

abbrev pub state : Stmt → Writer (Unit {0})
state t n = record { events = stmt t ∷ []; end = ok tt }

abbrev pub after : {A B : Type 0} → List Event → End A → Count → (A → Writer B) → Out B
after es (ok a) n k =
    let o = k a n in
    record { events = es ++ o.events; end = o.end }
after es (no number place) n k = record { events = es; end = no number place }

-- one after the other; a refusal stops
unfoldable pub ◌>>=◌ : {A B : Type 0} → Writer A → (A → Writer B) → Writer B
(w >>= k) n =
    let o = w n in
    after o.events o.end (further n o.events) k

abbrev pub ◌>>◌ : {A B : Type 0} → Writer A → Writer B → Writer B
w >> v = w >>= λ x. v
