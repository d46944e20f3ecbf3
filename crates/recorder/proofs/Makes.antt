-- Laws of what writers make: a small logic over the values of the expressions.
-- Assumes nothing.
use mathlib.Core.Path.{◌≡◌, refl, ap, sym, ◌∙◌, subst}
use mathlib.Core.List.{List, [], ◌∷◌, ◌++◌}
use Prim.Native.Nat.{ℕ, ◌+◌}
use native.Mathlib.Omega.{arith}
use lib.ListN.{length, length-append, get_or-append}
use lib.Seq.{get_or-append_seam}
use Rattle.bits.specs.Bits.{Bits}
use Rattle.recorder.specs.Record.{Signal, Expr}
use Rattle.recorder.specs.Writer.{Event, exprs_of, Count, further, End, End.ok, End.no, Writer, pure, refuse, declare, emit, after, ◌>>=◌}
use Rattle.recorder.specs.Evaluate.{Signals, Values, eval_expr, eval_all}
use Rattle.recorder.specs.Meaning.{Is, Keeps, Base, Ends, Makes, Means}
use Rattle.recorder.proofs.Events.{exprs_append}

-- ---- values

pub is_more : {env : Values} {e : ℕ} {v : Bits} (x : Bits) → Is env e v → Is (env ++ (x ∷ [])) e v
is_more {env} {e} x h = record { there = omega (arith, h.there, length-append env (x ∷ [])); value = get_or-append env (x ∷ []) [] e h.there ∙ h.value }

pub is_new : (env : Values) (v : Bits) → Is (env ++ (v ∷ [])) (length env) v
is_new env v = record { there = omega (arith, length-append env (v ∷ [])); value = get_or-append_seam env v [] [] }

pub is_as : {env : Values} {e : ℕ} {v v' : Bits} → v ≡ v' → Is env e v → Is env e v'
is_as {env} {e} p h = subst (λ (x : Bits). Is env e x) p h

pub base_keeps : {env env' : Values} → Keeps env env' → Base env → Base env'
base_keeps k b = record { zero_is = k _ _ b.zero_is; one_is = k _ _ b.one_is }

pub keeps_all : (σ : Signals) (xs : List Expr) (env : Values) → Keeps env (eval_all σ env xs)
unfolding eval_all
keeps_all σ [] env e v h = h
keeps_all σ (x ∷ xs) env e v h = keeps_all σ xs (env ++ (eval_expr σ env x ∷ [])) e v (is_more (eval_expr σ env x) h)

pub length_all : (σ : Signals) (xs : List Expr) (env : Values) → length (eval_all σ env xs) ≡ length env + length xs
unfolding eval_all
length_all σ [] env = omega arith
length_all σ (x ∷ xs) env = omega (arith, length_all σ xs (env ++ (eval_expr σ env x ∷ [])), length-append env (eval_expr σ env x ∷ []))

pub eval_append : (σ : Signals) (xs ys : List Expr) (env : Values) → eval_all σ env (xs ++ ys) ≡ eval_all σ (eval_all σ env xs) ys
unfolding eval_all
eval_append σ [] ys env = refl
eval_append σ (x ∷ xs) ys env = eval_append σ xs ys (env ++ (eval_expr σ env x ∷ []))

-- ---- one step

module _ {σ : Signals} {env : Values} where
  pub makes_pure : {A : Type 0} {a : A} {P : A → Values → Type 0} → P a env → Makes σ env (pure a) P
  unfolding eval_all
  makes_pure h = record { makes = λ n q. h }

  pub makes_refuse : {A : Type 0} {a b : ℕ} {P : A → Values → Type 0} → Makes σ env (refuse {A = A} a b) P
  makes_refuse = record { makes = λ n q. tt }

  pub makes_emit : {x : Expr} {P : ℕ → Values → Type 0} → P (length env) (env ++ (eval_expr σ env x ∷ [])) → Makes σ env (emit x) P
  unfolding eval_all
  makes_emit {x} {P} h = record { makes = λ n q. subst (λ (i : ℕ). P i (env ++ (eval_expr σ env x ∷ []))) (sym q) h }

  pub makes_declare : {s : Signal} {P : ℕ → Values → Type 0} → ((i : ℕ) → P i env) → Makes σ env (declare s) P
  unfolding eval_all
  makes_declare h = record { makes = λ n q. h n.signals }

  -- an expression means the value of its record
  pub means_emit : {x : Expr} {v : Bits} → eval_expr σ env x ≡ v → Means σ env (emit x) v
  means_emit {x} {v} p = makes_emit (is_as p (is_new env (eval_expr σ env x)))

-- ---- one writer after another: the second may rely on what the first made, and on all values before

module _ {A B : Type 0} (σ : Signals) (env : Values) (w : Writer A) (k : A → Writer B) (P : A → Values → Type 0) (Q : B → Values → Type 0)
    (g : (a : A) (env₁ : Values) → Keeps env env₁ → P a env₁ → Makes σ env₁ (k a) Q) (n : Count) (q : n.exprs ≡ length env) where
  abbrev es : List Event
  es = (w n).events

  abbrev m : Count
  m = further n es

  abbrev env₂ : Values
  env₂ = eval_all σ env (exprs_of es)

  there_m : m.exprs ≡ length env₂
  there_m = omega (arith, q, length_all σ (exprs_of es) env)

  move : (y : End B) (ys : List Event) → Ends y (λ b. Q b (eval_all σ env₂ (exprs_of ys))) → Ends y (λ b. Q b (eval_all σ env (exprs_of (es ++ ys))))
  move (ok b) ys h = subst (Q b) (sym (ap (eval_all σ env) (exprs_append es ys) ∙ eval_append σ (exprs_of es) (exprs_of ys) env)) h
  move (no x y) ys h = tt

  go : (y : End A) → Ends y (λ a. P a env₂) → Ends (after es y m k).end (λ b. Q b (eval_all σ env (exprs_of (after es y m k).events)))
  go (ok a) h = move (k a m).end (k a m).events ((g a env₂ (keeps_all σ (exprs_of es) env) h).makes m there_m)
  go (no x y) h = tt

module _ {A B : Type 0} {σ : Signals} {env : Values} {w : Writer A} {k : A → Writer B} {P : A → Values → Type 0} {Q : B → Values → Type 0} where
  pub makes_bind : Makes σ env w P → ((a : A) (env₁ : Values) → Keeps env env₁ → P a env₁ → Makes σ env₁ (k a) Q) → Makes σ env (w >>= k) Q
  unfolding ◌>>=◌
  makes_bind f g = record { makes = λ n q. go σ env w k P Q g n q (w n).end (f.makes n q) }

module _ {A : Type 0} {σ : Signals} {env : Values} {w : Writer A} {P Q : A → Values → Type 0} where
  pub makes_so : Makes σ env w P → ((a : A) (env₁ : Values) → Keeps env env₁ → P a env₁ → Q a env₁) → Makes σ env w Q
  makes_so f g = record { makes = λ n q. so (w n).end (keeps_all σ (exprs_of (w n).events) env) (f.makes n q) }
    where
      so : {env₁ : Values} (y : End A) → Keeps env env₁ → Ends y (λ a. P a env₁) → Ends y (λ a. Q a env₁)
      so (ok a) k h = g a _ k h
      so (no x y) k h = tt
