-- When records are well made: operands are earlier ones and have the widths that the record asks for, and an assignment reads only what
-- its target may depend on.
use Rattle.std.specs.Prelude.{◌≡◌, ℕ, ◌+◌, ◌^◌, ◌<◌, ◌≤◌, length, get_or}
use mathlib.Core.List.{List, [], ◌∷◌, ◌++◌, Memᴰ as Mem}
use Rattle.std.specs.Prelude.{Option, None, Some}
use Rattle.recorder.specs.Record.{Expr, Expr.const, Expr.read, Expr.concat, Expr.not, Expr.and, Expr.or, Expr.xor, Expr.mux, Expr.eq, Expr.mul, RegReset, RegEnable, Stmt, Stmt.assign, Stmt.reg}
use Rattle.recorder.specs.Writer.{Event, Event.signal, Event.expr, Event.stmt, Count, Writer}
use Rattle.recorder.specs.Meaning.{Ends}
use Rattle.wires.specs.Wires.{WireRef, Wires}
use Rattle.simulation.specs.Tick.{reads_expr}
use Rattle.simulation.specs.Run.{expr_width}

-- the widths of the signals and of the expressions so far, and the signals that each expression reads
pub record Context : Type 0 where
  pub signals : List ℕ
  pub exprs : List ℕ
  pub reads : List (List ℕ)

abbrev pub grow : Context → Event → Context
grow c (signal s) = record { signals = c.signals ++ (s.width ∷ []); exprs = c.exprs; reads = c.reads }
grow c (expr x) = record { signals = c.signals; exprs = c.exprs ++ (expr_width x ∷ []); reads = c.reads ++ (reads_expr c.reads x ∷ []) }
grow c (stmt t) = c

abbrev pub grow_all : Context → List Event → Context
grow_all c [] = c
grow_all c (e ∷ es) = grow_all (grow c e) es

-- number i of a list of widths is there, and is w
pub record At (ws : List ℕ) (i w : ℕ) : Type 0 where
  pub there : i < length ws
  pub width : get_or ws i 0 ≡ w

abbrev pub Sig : Context → ℕ → ℕ → Type 0
Sig c s w = At c.signals s w

-- expression e is w wide and reads only signals of S
pub record Exp (c : Context) (e w : ℕ) (S : ℕ → Type 0) : Type 0 where
  pub typed : At c.exprs e w
  pub recorded : e < length c.reads
  pub only : (y : ℕ) → Mem y (get_or c.reads e []) → S y

-- expressions of one bit each
pub data Parts (c : Context) (S : ℕ → Type 0) : List ℕ → Type 0 where
  no_part : Parts c S []
  part : {p : ℕ} {ps : List ℕ} → Exp c p 1 S → Parts c S ps → Parts c S (p ∷ ps)

abbrev pub Typed₁ : Context → List ℕ → Type 0
Typed₁ c [] = Unit {0}
Typed₁ c (p ∷ ps) = At c.exprs p 1 × Typed₁ c ps

-- what is there stays
pub record Grows (c c' : Context) : Type 0 where
  pub signals : (s w : ℕ) → Sig c s w → Sig c' s w
  pub exprs : (e w : ℕ) → At c.exprs e w → At c'.exprs e w
  pub reads : (e : ℕ) → e < length c.reads → (e < length c'.reads) × (get_or c'.reads e [] ≡ get_or c.reads e [])
  pub many : length c.signals ≤ length c'.signals

-- the next numbers are those behind the context
pub record Numbered (c : Context) (n : Count) : Type 0 where
  pub signals : n.signals ≡ length c.signals
  pub exprs : n.exprs ≡ length c.exprs
  pub reads : n.exprs ≡ length c.reads

abbrev pub Wide : ℕ → ℕ → Type 0
Wide widest w = (1 ≤ w) × (w ≤ widest)

abbrev pub GoodReset : Context → ℕ → Option RegReset → Type 0
GoodReset c w None = Unit {0}
GoodReset c w (Some r) = Sig c r.signal 1 × (r.active ≤ 1) × At c.exprs r.value w

abbrev pub GoodEnable : Context → Option RegEnable → Type 0
GoodEnable c None = Unit {0}
GoodEnable c (Some e) = Sig c e.signal 1 × (e.active ≤ 1)

-- a model's largest width, the number of the first signal on which no assignment stands, and what a signal may depend on
module _ (widest words : ℕ) (D : ℕ → ℕ → Type 0) where
  abbrev pub GoodExpr : Context → Expr → Type 0
  GoodExpr c (const w v) = Wide widest w × (v < 2 ^ w)
  GoodExpr c (read w s l) = Wide widest w × ((width : ℕ) × Sig c s width × (l + w ≤ width))
  GoodExpr c (concat w ps) = Wide widest w × (w ≡ length ps) × Typed₁ c ps
  GoodExpr c (not a) = At c.exprs a 1
  GoodExpr c (and a b) = At c.exprs a 1 × At c.exprs b 1
  GoodExpr c (or a b) = At c.exprs a 1 × At c.exprs b 1
  GoodExpr c (xor a b) = At c.exprs a 1 × At c.exprs b 1
  GoodExpr c (mux w s t f) = Wide widest w × At c.exprs s 1 × At c.exprs t w × At c.exprs f w
  GoodExpr c (eq a b) = (w : ℕ) × At c.exprs a w × At c.exprs b w
  GoodExpr c (mul a b) = At c.exprs a 36 × At c.exprs b 36

  abbrev pub GoodStmt : Context → Stmt → Type 0
  GoodStmt c (assign t e) = (w : ℕ) × Sig c t w × Exp c e w (D t) × (t < words)
  GoodStmt c (reg t n k d r e) = (w : ℕ) × Sig c t w × At c.exprs n w × Sig c k 1 × (d ≤ 1) × GoodReset c w r × GoodEnable c e

  abbrev pub Good : Context → Event → Type 0
  Good c (signal s) = Wide widest s.width
  Good c (expr x) = GoodExpr c x
  Good c (stmt t) = GoodStmt c t

  abbrev pub GoodAll : Context → List Event → Type 0
  GoodAll c [] = Unit {0}
  GoodAll c (e ∷ es) = Good c e × GoodAll (grow c e) es

  -- a writer, at the context's numbers, makes good records; and, unless it refuses, its result and the context after are as P says
  pub record Fit {A : Type 0} (c : Context) (w : Writer A) (P : A → Context → Type 0) : Type 0 where
    pub fit : (n : Count) → Numbered c n → GoodAll c (w n).events × Ends (w n).end (λ a. P a (grow_all c (w n).events))

abbrev pub NoSignal : ℕ → Type 0
NoSignal y = ⊥

abbrev pub Any : ℕ → Type 0
Any y = Unit {0}

-- every wire's bit is there
abbrev pub Wired : Context → Wires → Type 0
Wired c m = (w : ℕ) (r : WireRef) → m w ≡ Some r → Sig c r.signal r.width × (r.lsb < r.width)

-- the constants are expressions 0 and 1, and read nothing
pub record Based (c : Context) : Type 0 where
  pub zero_is : Exp c 0 1 NoSignal
  pub one_is : Exp c 1 1 NoSignal
