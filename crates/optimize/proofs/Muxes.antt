-- What the rewrites make: an exclusive or, and a mux, of one bit.
-- Assumes nothing.
use mathlib.Core.Path.{◌≡◌, refl, ap, ap₂, sym, ◌∙◌}
use mathlib.Core.Bool.{Bool, true, false, not, ◌&&◌, ◌||◌, false≢true}
use mathlib.Core.List.{[], ◌∷◌}
use Prim.Native.Nat.{ℕ}
use lib.Dec.{eqb}
use borrow.Author.Tests.{eqb-true}
use Rattle.recorder.specs.Record.{Expr.not as complement, Expr.and, Expr.or, Expr.xor, Expr.mux}
use Rattle.bits.specs.Bits.{pick, Bits, lowest, differ}
use Rattle.recorder.specs.Writer.{Writer, emit}
use Rattle.optimize.specs.declared.optimizer.Rewrite.{Rewrite}
use Rattle.optimize.specs.declared.optimizer.Rewrite.TheVariants.{Value}
use Rattle.optimize.specs.Rewrite.{expr, emit_rewrite, xor_of, mux_of}
use Rattle.recorder.specs.Evaluate.{Signals, Values, value_of}
use Rattle.recorder.specs.Meaning.{Is, Base, Means}
use Rattle.recorder.proofs.Makes.{is_as, makes_pure, means_emit, makes_bind, makes_so}

-- a choice by a test, from both sides
pub by_test : {A : Type 0} (S : A → Type 0) (b : Bool) {x y : A} → (b ≡ true → S x) → (b ≡ false → S y) → S (pick b x y)
by_test S true f g = f refl
by_test S false f g = g refl

pub means_as : {σ : Signals} {env : Values} {w : Writer ℕ} {v v' : Bits} → v ≡ v' → Means σ env w v → Means σ env w v'
means_as p f = makes_so f (λ e env₁ k h. is_as p h)

-- equal numbers have equal bits
pub same_bit : {env : Values} {a b : ℕ} {x y : Bool} → Is env a (x ∷ []) → Is env b (y ∷ []) → eqb a b ≡ true → x ≡ y
same_bit {env} {a} {b} ha hb q = ap lowest (sym ha.value ∙ ap (value_of env) (eqb-true a b q) ∙ hb.value)

both : (a b : Bool) → a && b ≡ true → (a ≡ true) × (b ≡ true)
both true b q = (refl, q)
both false b q = absurd (false≢true q)

either : (a b : Bool) (G : Type 0) → a || b ≡ true → (a ≡ true → G) → (b ≡ true → G) → G
either true b G q f g = f refl
either false b G q f g = g q

-- ---- the records of one bit

module _ (σ : Signals) {env : Values} where
  pub not_value : {a : ℕ} {x : Bool} → Is env a (x ∷ []) → Means σ env (emit (complement a)) (not x ∷ [])
  not_value h = means_emit (ap (λ (p : Bits). not (lowest p) ∷ []) h.value)

  pub and_value : {a b : ℕ} {x y : Bool} → Is env a (x ∷ []) → Is env b (y ∷ []) → Means σ env (emit (and a b)) ((x && y) ∷ [])
  and_value h g = means_emit (ap₂ (λ (p q : Bits). (lowest p && lowest q) ∷ []) h.value g.value)

  pub or_value : {a b : ℕ} {x y : Bool} → Is env a (x ∷ []) → Is env b (y ∷ []) → Means σ env (emit (or a b)) ((x || y) ∷ [])
  or_value h g = means_emit (ap₂ (λ (p q : Bits). (lowest p || lowest q) ∷ []) h.value g.value)

  pub xor_value : {a b : ℕ} {x y : Bool} → Is env a (x ∷ []) → Is env b (y ∷ []) → Means σ env (emit (xor a b)) (differ x y ∷ [])
  xor_value h g = means_emit (ap₂ (λ (p q : Bits). differ (lowest p) (lowest q) ∷ []) h.value g.value)

  pub mux_value : {s t f w : ℕ} {b : Bool} {x y : Bits} → Is env s (b ∷ []) → Is env t x → Is env f y → Means σ env (emit (mux w s t f)) (pick b x y)
  mux_value {f = f} {b = b} {x} hs ht hf =
      means_emit (ap₂ (λ (p q : Bits). pick (lowest p) q (value_of env f)) hs.value ht.value ∙ ap (λ (q : Bits). pick b x q) hf.value)

-- ---- the rules

abbrev bit : Bool → Bits
bit b = b ∷ []

pick_bit : (b x y : Bool) → pick b (bit x) (bit y) ≡ bit (pick b x y)
pick_bit true x y = refl
pick_bit false x y = refl

pick_same : (b x y : Bool) → x ≡ y → x ≡ pick b x y
pick_same true x y p = refl
pick_same false x y p = p

rule_select : (b x y : Bool) → y ≡ false → x ≡ true → b ≡ pick b x y
rule_select true x y p q = sym q
rule_select false x y p q = sym p

rule_not : (b x y : Bool) → y ≡ true → x ≡ false → not b ≡ pick b x y
rule_not true x y p q = sym q
rule_not false x y p q = sym p

rule_and : (b x y : Bool) → y ≡ false → b && x ≡ pick b x y
rule_and true x y p = refl
rule_and false x y p = sym p

rule_or : (b x y : Bool) → x ≡ true → b || y ≡ pick b x y
rule_or true x y p = sym p
rule_or false x y p = refl

rule_and_not : (b x y : Bool) → x ≡ false → not b && y ≡ pick b x y
rule_and_not true x y p = sym p
rule_and_not false x y p = refl

rule_or_not : (b x y : Bool) → y ≡ true → not b || x ≡ pick b x y
rule_or_not true x y p = refl
rule_or_not false x y p = sym p

module _ (σ : Signals) {env : Values} (base : Base env) {s t f : ℕ} {b x y : Bool} (hs : Is env s (b ∷ [])) (ht : Is env t (x ∷ [])) (hf : Is env f (y ∷ [])) where
  pub mux_means : Means σ env (mux_of s t f) (pick b x y ∷ [])
  unfolding mux_of emit_rewrite
  mux_means =
      by_test S (eqb s 0) (λ q. makes_pure (is_as (ap bit (sym (ap (λ (z : Bool). pick z x y) (same_bit hs base.zero_is q)))) hf)) (λ n₁.
      by_test S (eqb s 1 || eqb t f)
      (λ q. either (eqb s 1) (eqb t f) (S (Value (expr t))) q
      (λ p. makes_pure (is_as (ap bit (sym (ap (λ (z : Bool). pick z x y) (same_bit hs base.one_is p)))) ht))
      (λ p. makes_pure (is_as (ap bit (pick_same b x y (same_bit ht hf p))) ht))) (λ n₂.
      by_test S (eqb f 0 && eqb t 1)
      (λ q. makes_pure (is_as (ap bit (rule_select b x y (same_bit hf base.zero_is (both (eqb f 0) (eqb t 1) q).0) (same_bit ht base.one_is (both (eqb f 0) (eqb t 1) q).1))) hs)) (λ n₃.
      by_test S (eqb f 1 && eqb t 0)
      (λ q. means_as (ap bit (rule_not b x y (same_bit hf base.one_is (both (eqb f 1) (eqb t 0) q).0) (same_bit ht base.zero_is (both (eqb f 1) (eqb t 0) q).1))) (not_value σ hs)) (λ n₄.
      by_test S (eqb f 0) (λ q. means_as (ap bit (rule_and b x y (same_bit hf base.zero_is q))) (and_value σ hs ht)) (λ n₅.
      by_test S (eqb t 1) (λ q. means_as (ap bit (rule_or b x y (same_bit ht base.one_is q))) (or_value σ hs hf)) (λ n₆.
      by_test S (eqb t 0)
      (λ q. makes_bind (not_value σ hs) (λ i env₁ k hi. means_as (ap bit (rule_and_not b x y (same_bit ht base.zero_is q))) (and_value σ hi (k _ _ hf)))) (λ n₇.
      by_test S (eqb f 1)
      (λ q. makes_bind (not_value σ hs) (λ i env₁ k hi. means_as (ap bit (rule_or_not b x y (same_bit hf base.one_is q))) (or_value σ hi (k _ _ ht)))) (λ n₈.
      means_as (pick_bit b x y) (mux_value σ hs ht hf)))))))))
    where
      S : Rewrite → Type 0
      S r = Means σ env (unfold emit_rewrite in emit_rewrite r) (pick b x y ∷ [])

differ_same : (x y : Bool) → x ≡ y → false ≡ differ x y
differ_same true true p = refl
differ_same true false p = sym p
differ_same false true p = p
differ_same false false p = refl

differ_false : (x y : Bool) → y ≡ false → x ≡ differ x y
differ_false true y p = sym (ap not p)
differ_false false y p = sym p

differ_true : (x y : Bool) → y ≡ true → not x ≡ differ x y
differ_true true y p = sym (ap not p)
differ_true false y p = sym p

module _ (σ : Signals) {env : Values} (base : Base env) {a c : ℕ} {x y : Bool} (ha : Is env a (x ∷ [])) (hc : Is env c (y ∷ [])) where
  pub xor_means : Means σ env (xor_of a c) (differ x y ∷ [])
  unfolding xor_of emit_rewrite
  xor_means =
      by_test S (eqb a c) (λ q. makes_pure (is_as (ap bit (differ_same x y (same_bit ha hc q))) base.zero_is)) (λ n₁.
      by_test S (eqb a 0) (λ q. makes_pure (is_as (ap bit (sym (ap (λ (z : Bool). differ z y) (same_bit ha base.zero_is q)))) hc)) (λ n₂.
      by_test S (eqb c 0) (λ q. makes_pure (is_as (ap bit (differ_false x y (same_bit hc base.zero_is q))) ha)) (λ n₃.
      by_test S (eqb a 1) (λ q. means_as (ap bit (sym (ap (λ (z : Bool). differ z y) (same_bit ha base.one_is q)))) (not_value σ hc)) (λ n₄.
      by_test S (eqb c 1) (λ q. means_as (ap bit (differ_true x y (same_bit hc base.one_is q))) (not_value σ ha)) (λ n₅.
      xor_value σ ha hc)))))
    where
      S : Rewrite → Type 0
      S r = Means σ env (unfold emit_rewrite in emit_rewrite r) (differ x y ∷ [])
