-- Words back to records: a list cut into records, and each record read.
use Rattle.std.specs.Prelude.{ℕ, zero, suc, Bool, true, false, List, [], ◌∷◌, eqb, leb, length, get_or, take, drop}
use Rattle.std.specs.Prelude.{Option, None, Some}
use Rattle.recorder.specs.Record.{Signal, Expr, RegReset, RegEnable, Stmt, Model}
use Rattle.recorder.specs.Record.{const, read, concat, not, and, or, xor, mux, eq, mul, assign, reg}

-- the records from the left, each without its length, as far as they stand whole; whether that is the whole list
pub record Cut : Type 0 where
  pub records : List (List ℕ)
  pub whole : Bool

abbrev pub none_left : Cut
none_left = record { records = []; whole = true }

abbrev pub stopped : Cut
stopped = record { records = []; whole = false }

abbrev pub before : List ℕ → Cut → Cut
before r c = record { records = r ∷ c.records; whole = c.whole }

-- at most k records
abbrev pub cut : ℕ → List ℕ → Cut
cut zero ws = none_left
cut (suc k) [] = none_left
cut (suc k) (zero ∷ ws) = stopped
cut (suc k) (suc n ∷ ws) = elim (leb n (length ws)) [ true ↦ before (take n ws) (cut k (drop n ws)) | false ↦ stopped ]

-- a list has no more records than words
unfoldable pub split : List ℕ → Cut
split ws = cut (length ws) ws

-- as many fields as a record must have, no more and no fewer
abbrev pub one : {A : Type 0} → (ℕ → A) → List ℕ → Option A
one f [] = None
one f (a ∷ []) = Some (f a)
one f (a ∷ b ∷ l) = None

abbrev pub two : {A : Type 0} → (ℕ → ℕ → A) → List ℕ → Option A
two f [] = None
two f (a ∷ l) = one (f a) l

abbrev pub three : {A : Type 0} → (ℕ → ℕ → ℕ → A) → List ℕ → Option A
three f [] = None
three f (a ∷ l) = two (f a) l

abbrev pub only : {A : Type 0} → Bool → Option A → Option A
only true o = o
only false o = None

abbrev pub read_signal : List ℕ → Option Signal
read_signal = three (λ l w o. record { label = l; width = w; owner = o })

-- by kind: from the width and the operands
abbrev pub kinds : List (ℕ → List ℕ → Option Expr)
kinds =
    (λ w l. one (const w) l)
    ∷ (λ w l. two (read w) l)
    ∷ (λ w l. Some (concat w l))
    ∷ (λ w l. only (eqb w 1) (one not l))
    ∷ (λ w l. only (eqb w 1) (two and l))
    ∷ (λ w l. only (eqb w 1) (two or l))
    ∷ (λ w l. only (eqb w 1) (two xor l))
    ∷ (λ w l. three (mux w) l)
    ∷ (λ w l. only (eqb w 1) (two eq l))
    ∷ (λ w l. only (eqb w 36) (two mul l))
    ∷ []

abbrev pub read_expr : List ℕ → Option Expr
read_expr [] = None
read_expr (k ∷ []) = None
read_expr (k ∷ w ∷ l) = get_or kinds k (λ w' l'. None) w l

-- a reset is 0, or 1 and its three fields, before what follows
abbrev pub with_reset : {A : Type 0} → (Option RegReset → List ℕ → Option A) → List ℕ → Option A
with_reset f [] = None
with_reset f (zero ∷ l) = f None l
with_reset f (suc zero ∷ []) = None
with_reset f (suc zero ∷ s ∷ []) = None
with_reset f (suc zero ∷ s ∷ a ∷ []) = None
with_reset f (suc zero ∷ s ∷ a ∷ v ∷ l) = f (Some (record { signal = s; active = a; value = v })) l
with_reset f (suc (suc n) ∷ l) = None

-- an enable, 0 or 1 and its two fields, comes last
abbrev pub with_enable : {A : Type 0} → (Option RegEnable → A) → List ℕ → Option A
with_enable f [] = None
with_enable f (zero ∷ []) = Some (f None)
with_enable f (zero ∷ a ∷ l) = None
with_enable f (suc zero ∷ l) = two (λ s a. f (Some (record { signal = s; active = a }))) l
with_enable f (suc (suc n) ∷ l) = None

abbrev pub read_reg : List ℕ → Option Stmt
read_reg [] = None
read_reg (t ∷ []) = None
read_reg (t ∷ n ∷ []) = None
read_reg (t ∷ n ∷ c ∷ []) = None
read_reg (t ∷ n ∷ c ∷ d ∷ l) = with_reset (λ r. with_enable (reg t n c d r)) l

abbrev pub read_stmt : List ℕ → Option Stmt
read_stmt [] = None
read_stmt (zero ∷ l) = two assign l
read_stmt (suc zero ∷ l) = read_reg l
read_stmt (suc (suc k) ∷ l) = None

-- those that can be read
abbrev pub read_all : {A : Type 0} → (List ℕ → Option A) → List (List ℕ) → List A
read_all f [] = []
read_all {A} f (r ∷ rs) = elim (f r) [ None ↦ read_all f rs | Some a ↦ a ∷ read_all f rs ]

-- three lists of records
pub record Raw : Type 0 where
  pub signals : List (List ℕ)
  pub exprs : List (List ℕ)
  pub stmts : List (List ℕ)

-- what was read of them
unfoldable pub model_of : Raw → Model
model_of c = record { signals = read_all read_signal c.signals; exprs = read_all read_expr c.exprs; stmts = read_all read_stmt c.stmts }
