-- What a truth table makes: the table's bit that the inputs name.
-- Assumes nothing.
use mathlib.Core.Path.{◌≡◌, refl, sym, ap, ◌∙◌, subst}
use mathlib.Core.Bool.{Bool, true, false, not}
use mathlib.Core.List.{List, [], ◌∷◌}
use Prim.Native.Nat.{ℕ, suc, ◌+◌, ◌*◌, ◌/◌, ◌^◌, ◌<◌, ◌≤◌}
use native.Mathlib.Nat.{zero-add, pow-succ'}
use native.Mathlib.Omega.{arith}
use lib.Dec.{eqb}
use lib.Bits.{bit_xor}
use lib.Pow.{pow_mono}
use lib.ListN.{length}
use borrow.Author.Tests.{eqb-true, eqb-false}
use Rattle.bits.specs.Bits.{pick, Bits, differ, digit, number, table_bit}
use Rattle.bits.proofs.TableBits.{bit_none, bit_ones, bit_xor_lem}
use Rattle.recorder.specs.Writer.{Writer}
use Rattle.optimize.specs.Lut.{low_of, high_of, full_table, join_cofactors, lut_cofactor}
use Rattle.recorder.specs.Evaluate.{Signals, Values}
use Rattle.recorder.specs.Meaning.{Is, Keeps, Base, Means}
use Rattle.optimize.specs.Claims.{Inputs, XorMeans, MuxMeans, LutMeans}
use Rattle.recorder.proofs.Makes.{is_as, base_keeps, makes_pure, makes_bind}
use Rattle.optimize.proofs.Muxes.{by_test, means_as, same_bit, mux_means, xor_means}
use Rattle.optimize.proofs.TableBits.{bit_low, bit_high, evens_lt}

pub inputs_keep : {env env' : Values} → Keeps env env' → (xs : List ℕ) (bs : Bits) → Inputs env xs bs → Inputs env' xs bs
inputs_keep k [] [] h = tt
inputs_keep k [] (b ∷ bs) h = absurd h
inputs_keep k (x ∷ xs) [] h = absurd h
inputs_keep k (x ∷ xs) (b ∷ bs) h = (k _ _ h.0, inputs_keep k xs bs h.1)

digit_lt : (b : Bool) → digit b < 2
digit_lt true = omega arith
digit_lt false = omega arith

number_lt : (env : Values) (xs : List ℕ) (bs : Bits) → Inputs env xs bs → number bs < 2 ^ length xs
number_lt env [] [] h = omega arith
number_lt env [] (b ∷ bs) h = absurd h
number_lt env (x ∷ xs) [] h = absurd h
number_lt env (x ∷ xs) (b ∷ bs) h =
    let less : number bs < 2 ^ length xs = number_lt env xs bs h.1 in
    omega (arith, digit_lt b, pow-succ' 2 (length xs))

choose : (t i : ℕ) (b : Bool) → i < 8 → pick b (table_bit (high_of t) i) (table_bit (low_of t) i) ≡ table_bit t (digit b + 2 * i)
choose t i true h = bit_high t i h
choose t i false h = bit_low t i h ∙ ap (table_bit t) (sym (zero-add (2 * i)))

not_of : (a b : Bool) → differ a b ≡ true → not a ≡ b
not_of true true e = e
not_of true false e = refl
not_of false true e = refl
not_of false false e = sym e

differ_pick : (x a b : Bool) → differ a b ≡ true → differ x a ≡ pick x b a
differ_pick true a b e = not_of a b e
differ_pick false a b e = refl

pick_equal : (x a b : Bool) → a ≡ b → a ≡ pick x b a
pick_equal true a b e = e
pick_equal false a b e = refl

abbrev bit : Bool → Bits
bit b = b ∷ []

abbrev Tables : Signals → List ℕ → Type 0
Tables σ xs = (bs : Bits) (t : ℕ) (env : Values) → Base env → Inputs env xs bs → length xs ≤ 4 → t < 2 ^ 2 ^ length xs → Means σ env (lut_cofactor xs t) (table_bit t (number bs) ∷ [])

no_input : (σ : Signals) (t : ℕ) {env : Values} → Base env → t < 2 ^ 2 ^ 0 → Means σ env (lut_cofactor [] t) (table_bit t 0 ∷ [])
unfolding lut_cofactor
no_input σ t {env} base h =
    by_test (λ (w : Writer ℕ). Means σ env w (table_bit t 0 ∷ [])) (eqb t 0)
    (λ e. makes_pure (is_as (ap (λ (x : ℕ). bit (table_bit x 0)) (sym (eqb-true t 0 e))) base.zero_is))
    (λ e. let one : t ≡ 1 = omega (arith, eqb-false t 0 e) in makes_pure (is_as (ap (λ (x : ℕ). bit (table_bit x 0)) (sym one)) base.one_is))

module _ (σ : Signals) (x : ℕ) (xs : List ℕ) (rest : Tables σ xs) (b : Bool) (bs : Bits) (t : ℕ) {env : Values} (base : Base env) (hx : Is env x (b ∷ [])) (hs : Inputs env xs bs)
    (short : length xs < 4) (fits : t < 2 ^ 2 ^ suc (length xs)) where
  fits_twice : t < 2 ^ (2 * 2 ^ length xs)
  fits_twice = subst (λ (n : ℕ). t < 2 ^ n) (pow-succ' 2 (length xs)) fits

  low_fits : low_of t < 2 ^ 2 ^ length xs
  low_fits = evens_lt 8 (2 ^ length xs) t fits_twice

  high_fits : high_of t < 2 ^ 2 ^ length xs
  high_fits = evens_lt 8 (2 ^ length xs) (t / 2) (omega (arith, fits_twice))

  abbrev i : ℕ
  i = number bs

  small : i < 8
  small =
      let three : length xs ≤ 3 = omega arith in
      let p : 2 ^ length xs ≤ 2 ^ 3 = pow_mono three in
      omega (arith, number_lt env xs bs hs)

  abbrev bit_of : Bool
  bit_of = table_bit t (digit b + 2 * i)

  chosen : pick b (table_bit (high_of t) i) (table_bit (low_of t) i) ≡ bit_of
  chosen = choose t i b small

  joined : (l : ℕ) (env₁ : Values) → Keeps env env₁ → Is env₁ l (table_bit (low_of t) i ∷ [])
      → Means σ env₁ (join_cofactors x (low_of t) (high_of t) (full_table (length xs)) (lut_cofactor xs (high_of t)) l) (bit_of ∷ [])
  unfolding join_cofactors
  joined l env₁ k hl =
      by_test S (eqb (low_of t) (high_of t))
      (λ e. makes_pure (is_as (ap bit (pick_equal b _ _ (ap (λ (n : ℕ). table_bit n i) (eqb-true (low_of t) (high_of t) e)) ∙ chosen)) hl))
      (λ e. by_test S (eqb (bit_xor (low_of t) (high_of t)) (full_table (length xs)))
      (λ q. let d : differ (table_bit (low_of t) i) (table_bit (high_of t) i) ≡ true =
      sym (bit_xor_lem (low_of t) (high_of t) i) ∙ ap (λ (n : ℕ). table_bit n i) (eqb-true _ _ q) ∙ bit_ones (2 ^ length xs) i (number_lt env xs bs hs) in
      means_as (ap bit (differ_pick b _ _ d ∙ chosen)) (xor_means σ (base_keeps k base) (k _ _ hx) hl))
      (λ q. makes_bind (rest bs (high_of t) env₁ (base_keeps k base) (inputs_keep k xs bs hs) (omega arith) high_fits)
      (λ h env₂ k₂ hh. means_as (ap bit chosen) (mux_means σ (base_keeps k₂ (base_keeps k base)) (k₂ _ _ (k _ _ hx)) hh (k₂ _ _ hl)))))
    where
      S : Writer ℕ → Type 0
      S w = Means σ env₁ w (bit_of ∷ [])

  more_inputs : Means σ env (lut_cofactor (x ∷ xs) t) (bit_of ∷ [])
  unfolding lut_cofactor
  more_inputs =
      by_test S (eqb t 0)
      (λ e. makes_pure (is_as (ap bit (sym (ap (λ (n : ℕ). table_bit n (digit b + 2 * i)) (eqb-true t 0 e) ∙ bit_none (digit b + 2 * i)))) base.zero_is))
      (λ e. by_test S (eqb t (full_table (suc (length xs))))
      (λ q. makes_pure (is_as (ap bit (sym (ap (λ (n : ℕ). table_bit n (digit b + 2 * i)) (eqb-true _ _ q) ∙ bit_ones (2 ^ suc (length xs)) _ (number_lt env (x ∷ xs) (b ∷ bs) (hx, hs))))) base.one_is))
      (λ e. by_test S (eqb x 0)
      (λ q. means_as (ap bit (ap (λ (z : Bool). pick z (table_bit (high_of t) i) (table_bit (low_of t) i)) (sym (same_bit hx base.zero_is q)) ∙ chosen)) (rest bs (low_of t) env base hs (omega arith) low_fits))
      (λ e. by_test S (eqb x 1)
      (λ q. means_as (ap bit (ap (λ (z : Bool). pick z (table_bit (high_of t) i) (table_bit (low_of t) i)) (sym (same_bit hx base.one_is q)) ∙ chosen)) (rest bs (high_of t) env base hs (omega arith) high_fits))
      (λ e. makes_bind (rest bs (low_of t) env base hs (omega arith) low_fits) joined))))
    where
      S : Writer ℕ → Type 0
      S w = Means σ env w (bit_of ∷ [])

pub lut_means : (σ : Signals) (xs : List ℕ) (bs : Bits) (t : ℕ) {env : Values} → Base env → Inputs env xs bs → length xs ≤ 4 → t < 2 ^ 2 ^ length xs
    → Means σ env (lut_cofactor xs t) (table_bit t (number bs) ∷ [])
lut_means σ [] [] t base h l q = no_input σ t base q
lut_means σ [] (b ∷ bs) t base h l q = absurd h
lut_means σ (x ∷ xs) [] t base h l q = absurd h
lut_means σ (x ∷ xs) (b ∷ bs) t base h l q = more_inputs σ x xs (λ cs u e bb hh ll qq. lut_means σ xs cs u bb hh ll qq) b bs t base h.0 h.1 l q

-- what specs/Claims.antt claims
pub xor_claim : XorMeans
xor_claim σ env a b x y base ha hb = xor_means σ base ha hb

pub mux_claim : MuxMeans
mux_claim σ env s t f b x y base hs ht hf = mux_means σ base hs ht hf

pub lut_claim : LutMeans
lut_claim σ env e₁ e₂ e₃ e₄ init a b c d base ha hb hc hd h =
    let n : number (a ∷ b ∷ c ∷ d ∷ []) ≡ digit a + 2 * digit b + 4 * digit c + 8 * digit d = omega arith in
    means_as (ap (λ (i : ℕ). table_bit init i ∷ []) n) (lut_means σ (e₁ ∷ e₂ ∷ e₃ ∷ e₄ ∷ []) (a ∷ b ∷ c ∷ d ∷ []) init base (ha, (hb, (hc, (hd, tt)))) (omega arith) h)
