-- What it is for statements to hold in a tick, and what a writer settles where its statements hold.
use Rattle.std.specs.Prelude.{◌≡◌, Bool, true, false, ◌&&◌, ℕ, eqb, length}
use mathlib.Core.List.{List, [], ◌∷◌, Memᴰ as Mem}
use Rattle.std.specs.Prelude.{Option, None, Some}
use Rattle.bits.specs.Bits.{pick, Bits, lowest, same}
use Rattle.recorder.specs.Record.{Stmt, Stmt.assign, Stmt.reg, RegReset, RegEnable}
use Rattle.recorder.specs.Writer.{Event, exprs_of, stmts_of, Count, Writer}
use Rattle.recorder.specs.Evaluate.{Signals, Values, value_of, eval_all}
use Rattle.recorder.specs.Meaning.{Keeps, Ends}

-- the signals before a commit and after it, which clock and edge fires, and the statements of the whole model
pub record Tick : Type 0 where
  pub before : Signals
  pub next : Signals
  pub fires : ℕ → ℕ → Bool
  pub stmts : List Stmt

-- a control's signal has the level that asserts it
abbrev pub asserts : Signals → ℕ → ℕ → Bool
asserts σ signal active = same (lowest (σ signal)) (eqb active 1)

abbrev pub reset_now : Signals → Option RegReset → Bool
reset_now σ None = false
reset_now σ (Some r) = asserts σ r.signal r.active

abbrev pub reset_bits : Values → Option RegReset → Bits
reset_bits Ω None = []
reset_bits Ω (Some r) = value_of Ω r.value

abbrev pub enable_now : Signals → Option RegEnable → Bool
enable_now σ None = true
enable_now σ (Some e) = asserts σ e.signal e.active

abbrev pub IsReg : Stmt → ℕ → Type 0
IsReg (assign u e) t = ⊥
IsReg (reg u n c d r e) t = u ≡ t

-- signal t is a register of the model
pub record RegOn (κ : Tick) (t : ℕ) : Type 0 where
  pub statement : Stmt
  pub one_of : Mem statement κ.stmts
  pub register : IsReg statement t

-- an assignment holds before the commit, and a register has taken its value after it; Ω are the values of all expressions before it
abbrev pub Holds : Tick → Values → Stmt → Type 0
Holds κ Ω (assign t e) = κ.before t ≡ value_of Ω e
Holds κ Ω (reg t n c d r e) =
    (κ.next t ≡ pick (reset_now κ.before r) (reset_bits Ω r) (pick (κ.fires c d && enable_now κ.before e) (value_of Ω n) (κ.before t))) × RegOn κ t

abbrev pub AllHold : Tick → Values → List Stmt → Type 0
AllHold κ Ω [] = Unit {0}
AllHold κ Ω (t ∷ ts) = Holds κ Ω t × AllHold κ Ω ts

-- the values after more events, in each of several ticks
abbrev pub values_after : {K : Type 0} → (K → Tick) → (K → Values) → List Event → K → Values
values_after κ env es k = eval_all (κ k).before (env k) (exprs_of es)

-- Several ticks of one model at once, so that what the writer's run decides is decided once for all of them. Ω are the values of the
-- whole model in each tick, of which env are the first. Where w's statements hold in all ticks, its result is as P says.
pub record Settles {A K : Type 0} (κ : K → Tick) (Ω env : K → Values) (w : Writer A) (P : A → (K → Values) → Type 0) : Type 0 where
  pub settles : (n : Count) → ((k : K) → n.exprs ≡ length (env k)) → ((k : K) → Keeps (values_after κ env (w n).events k) (Ω k))
      → ((k : K) → AllHold (κ k) (Ω k) (stmts_of (w n).events)) → Ends (w n).end (λ a. P a (values_after κ env (w n).events))

-- what a writer's result is, unless it refuses
pub record Gets {A : Type 0} (w : Writer A) (P : A → Type 0) : Type 0 where
  pub gets : (n : Count) → Ends (w n).end P
