-- Values of all expressions that agree with one another: what a settling in any order reaches.
use Rattle.std.specs.Prelude.{ℕ, ◌<◌, ◌≡◌, List, [], ◌∷◌, length, get_or}
use Rattle.std.specs.Prelude.{None}
use Rattle.bits.specs.Bits.{Bits}
use Rattle.settle.specs.Table.{tab_from}
use Rattle.recorder.specs.Record.{Expr, Model}
use Rattle.recorder.specs.Record.{const, read, concat, not, and, or, xor, mux, eq, mul}
use Rattle.recorder.specs.Evaluate.{Signals, eval_expr}
use Rattle.simulation.specs.Tick.{given, assigns, become, values_in, settle, looped}
use Rattle.simulation.specs.Settled.{IsSettled}
use Rattle.simulation.specs.Sound.{Sound}

-- the bits of each signal: the value of the expression that is assigned to it, or, where none is, what it had
abbrev pub assigned : Model → List Bits → List Bits → Signals
assigned m old vs s = become vs (given assigns m.stmts s) (get_or old s [])

-- all of them as a state
abbrev pub stored : Model → List Bits → List Bits → List Bits
stored m old vs = tab_from (assigned m old vs) 0 (length m.signals)

-- expression number e
abbrev pub expr_at : Model → ℕ → Expr
expr_at m e = get_or m.exprs e (const 0 0)

-- what expression e means over the values vs
abbrev pub computed : Model → List Bits → List Bits → ℕ → Bits
computed m old vs e = eval_expr (assigned m old vs) vs (expr_at m e)

-- it has that value
abbrev pub Right : Model → List Bits → List Bits → ℕ → Type 0
Right m old vs e = computed m old vs e ≡ get_or vs e []

pub record Consistent (m : Model) (old vs : List Bits) : Type 0 where
  pub each : length vs ≡ length m.exprs
  pub right : (e : ℕ) → e < length m.exprs → Right m old vs e

-- such values are those of the state that they make, it is settled, and without a loop it is what settling gives
pub record Settling (m : Model) (old vs : List Bits) : Type 0 where
  pub values : values_in m (stored m old vs) ≡ vs
  pub settled : IsSettled m old (stored m old vs)
  pub settling : looped m ≡ None → settle m old ≡ stored m old vs

abbrev pub ConsistentSettles : Type 0
ConsistentSettles = (widest : ℕ) (m : Model) (old vs : List Bits) → Sound widest m → length old ≡ length m.signals → Consistent m old vs → Settling m old vs

-- WHAT AN EXPRESSION IS COMPUTED FROM

-- the operands of a record
abbrev pub operands : Expr → List ℕ
operands (const w v) = []
operands (read w s l) = []
operands (concat w ps) = ps
operands (not a) = a ∷ []
operands (and a b) = a ∷ b ∷ []
operands (or a b) = a ∷ b ∷ []
operands (xor a b) = a ∷ b ∷ []
operands (mux w s t f) = s ∷ t ∷ f ∷ []
operands (eq a b) = a ∷ b ∷ []
operands (mul a b) = a ∷ b ∷ []

-- the signal that it reads
abbrev pub signals_of : Expr → List ℕ
signals_of (const w v) = []
signals_of (read w s l) = s ∷ []
signals_of (concat w ps) = []
signals_of (not a) = []
signals_of (and a b) = []
signals_of (or a b) = []
signals_of (xor a b) = []
signals_of (mux w s t f) = []
signals_of (eq a b) = []
signals_of (mul a b) = []
