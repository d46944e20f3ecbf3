-- What a writer makes: its result and the values after its records, over the values before them.
use Rattle.std.specs.Prelude.{◌≡◌, true, false, [], ◌∷◌, ℕ, ◌<◌, length}
use Rattle.bits.specs.Bits.{Bits}
use Rattle.recorder.specs.Writer.{exprs_of, Count, End, End.ok, End.no, Writer}
use Rattle.recorder.specs.Evaluate.{Signals, Values, value_of, eval_all}

-- an expression is there and has these bits
pub record Is (env : Values) (e : ℕ) (v : Bits) : Type 0 where
  pub there : e < length env
  pub value : value_of env e ≡ v

-- what has a value keeps it
abbrev pub Keeps : Values → Values → Type 0
Keeps env env' = (e : ℕ) (v : Bits) → Is env e v → Is env' e v

-- the constants are expressions 0 and 1
pub record Base (env : Values) : Type 0 where
  pub zero_is : Is env 0 (false ∷ [])
  pub one_is : Is env 1 (true ∷ [])

abbrev pub Ends : {A : Type 0} → End A → (A → Type 0) → Type 0
Ends (ok a) P = P a
Ends (no number place) P = Unit {0}

-- What a writer makes, where env are the values so far: unless it refuses, its result and the values after its records are as P says.
pub record Makes {A : Type 0} (σ : Signals) (env : Values) (w : Writer A) (P : A → Values → Type 0) : Type 0 where
  pub makes : (n : Count) → n.exprs ≡ length env → Ends (w n).end (λ a. P a (eval_all σ env (exprs_of (w n).events)))

-- it makes an expression of these bits
abbrev pub Means : Signals → Values → Writer ℕ → Bits → Type 0
Means σ env w v = Makes σ env w (λ e env'. Is env' e v)
