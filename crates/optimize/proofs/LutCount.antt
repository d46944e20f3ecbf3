-- How many records a truth table adds: fewer than it has entries. A result that was there before comes with no record.
-- Assumes nothing.
use mathlib.Core.Path.{◌≡◌, refl, sym, ap, ◌∙◌, subst}
use mathlib.Core.Bool.{Bool, true, false, ◌&&◌, ◌||◌}
use mathlib.Core.List.{List, [], ◌∷◌}
use mathlib.Core.Logic.{◌⊎◌, inl, inr, ⊎_elim}
use Prim.Native.Nat.{ℕ, zero, suc, ◌+◌, ◌*◌, ◌/◌, ◌^◌, ◌<◌, ◌≤◌}
use native.Mathlib.Nat.{pow-succ', not-suc-le-zero, le_of_suc-le-suc}
use native.Mathlib.Omega.{arith}
use lib.Dec.{eqb}
use lib.Bits.{bit_xor}
use lib.Pow.{pow_pos}
use lib.ListN.{length, length-append}
use borrow.Author.Tests.{eqb-true, eqb-false}
use Rattle.bits.specs.Bits.{pick}
use Rattle.recorder.specs.Record.{Expr, Expr.not as complement, Expr.and, Expr.or}
use Rattle.recorder.specs.Writer.{exprs_of, Count, further, End.ok, Out, Writer, pure, emit, ◌>>=◌}
use Rattle.recorder.proofs.Events.{exprs_append, bind_ok}
use Rattle.optimize.specs.declared.optimizer.Rewrite.{Rewrite}
use Rattle.optimize.specs.Rewrite.{emit_rewrite, xor_of, mux_of}
use Rattle.optimize.specs.Lut.{low_of, high_of, full_table, join_cofactors, lut_cofactor}
use Rattle.optimize.specs.Claims.{LutAdds}
use Rattle.optimize.proofs.Muxes.{by_test}
use Rattle.optimize.proofs.TableBits.{evens_lt}

-- it never refuses, and its result and the number of its expression records are as P says
pub record Adds (n : Count) (w : Writer ℕ) (P : ℕ → ℕ → Type 0) : Type 0 where
  pub result : ℕ
  pub ends : (w n).end ≡ ok result
  pub so : P result (length (exprs_of (w n).events))

module _ {n : Count} {P : ℕ → ℕ → Type 0} where
  pub adds_pure : {a : ℕ} → P a 0 → Adds n (pure a) P
  adds_pure {a} h = record { result = a; ends = refl; so = h }

  pub adds_emit : {x : Expr} → P n.exprs 1 → Adds n (emit x) P
  adds_emit h = record { result = n.exprs; ends = refl; so = h }

  pub adds_so : {w : Writer ℕ} {Q : ℕ → ℕ → Type 0} → Adds n w P → ((e k : ℕ) → P e k → Q e k) → Adds n w Q
  adds_so f g = record { result = f.result; ends = f.ends; so = g _ _ f.so }

-- the second starts at the number behind the first's records
pub adds_bind : {n : Count} {w : Writer ℕ} (k : ℕ → Writer ℕ) {P : ℕ → ℕ → Type 0} (Q : ℕ → ℕ → Type 0) → Adds n w P
    → ((e i : ℕ) (m : Count) → m.exprs ≡ n.exprs + i → P e i → Adds m (k e) (λ e' j. Q e' (i + j))) → Adds n (w >>= k) Q
adds_bind {n} {w} k Q f g =
    let es = (w n).events in
    let h = g f.result (length (exprs_of es)) (further n es) refl f.so in
    let e = bind_ok w k n f.ends in
    record {
      result = h.result;
      ends = ap (λ (o : Out ℕ). o.end) e ∙ h.ends;
      so = subst (Q h.result) (sym (ap (λ (o : Out ℕ). length (exprs_of o.events)) e ∙ ap length (exprs_append es _) ∙ length-append (exprs_of es) _)) h.so;
    }

module _ {A : Type 0} (S : A → Type 0) where
  by_eq : (a b : ℕ) {x y : A} → (a ≡ b → S x) → ((a ≡ b → ⊥) → S y) → S (pick (eqb a b) x y)
  by_eq a b f g = by_test S (eqb a b) (λ e. f (eqb-true a b e)) (λ e. g (eqb-false a b e))

  by_both : (a b c d : ℕ) {x y : A} → (a ≡ b → c ≡ d → S x) → S y → S (pick (eqb a b && eqb c d) x y)
  by_both a b c d {x} {y} f g = go (eqb a b) (eqb c d) (λ p q. f (eqb-true a b p) (eqb-true c d q))
    where
      go : (p q : Bool) → (p ≡ true → q ≡ true → S x) → S (pick (p && q) x y)
      go true true h = h refl refl
      go true false h = g
      go false q h = g

  by_either : (a b c d : ℕ) {x y : A} → (a ≡ b → S x) → (c ≡ d → S x) → S y → S (pick (eqb a b || eqb c d) x y)
  by_either a b c d {x} {y} f g h = go (eqb a b) (eqb c d) (λ p. f (eqb-true a b p)) (λ q. g (eqb-true c d q))
    where
      go : (p q : Bool) → (p ≡ true → S x) → (q ≡ true → S x) → S (pick (p || q) x y)
      go true q f g = f refl
      go false true f g = g refl
      go false false f g = h

-- of an exclusive or with x: at most one record; a result from before n has its operand from before n, and no record
record Xored (n i e k : ℕ) : Type 0 where
  pub few : k ≤ 1
  pub old : e < n → (i < n) × (k ≡ 0)

-- of a mux: two records only where an arm is a constant
record Muxed (n j i e k : ℕ) : Type 0 where
  pub few : (k ≤ 1) ⊎ ((k ≤ 2) × ((j ≡ 0) ⊎ (i ≡ 1)))
  pub old : e < n → (j < n) × (i < n) × (k ≡ 0)

-- an input from before n, and no constant
module _ (n : ℕ) (two : 2 ≤ n) (m : Count) (later : n ≤ m.exprs) (x : ℕ) (kx : x < n) (x0 : x ≡ 0 → ⊥) (x1 : x ≡ 1 → ⊥) where
  xor_adds : (i : ℕ) → Adds m (xor_of x i) (Xored n i)
  unfolding xor_of emit_rewrite
  xor_adds i =
      by_eq S x i (λ e. adds_pure (record { few = omega arith; old = λ h. (omega arith, refl) })) (λ a.
      by_eq S x 0 (λ e. absurd (x0 e)) (λ a.
      by_eq S i 0 (λ e. adds_pure (record { few = omega arith; old = λ h. (omega arith, refl) })) (λ a.
      by_eq S x 1 (λ e. absurd (x1 e)) (λ a.
      by_eq S i 1 (λ e. new) (λ a. new)))))
    where
      S : Rewrite → Type 0
      S r = Adds m (unfold emit_rewrite in emit_rewrite r) (Xored n i)

      new : {r : Expr} → Adds m (emit r) (Xored n i)
      new = adds_emit (record { few = omega arith; old = λ h. absurd (omega arith) })

  mux_adds : (j i : ℕ) → Adds m (mux_of x j i) (Muxed n j i)
  unfolding mux_of emit_rewrite
  mux_adds j i =
      by_eq S x 0 (λ e. absurd (x0 e)) (λ a.
      by_either S x 1 j i (λ e. absurd (x1 e)) (λ e. adds_pure (record { few = inl (omega arith); old = λ h. (h, omega arith, refl) }))
      (by_both S i 0 j 1 (λ p q. adds_pure (record { few = inl (omega arith); old = λ h. (omega arith, omega arith, refl) }))
      (by_both S i 1 j 0 (λ p q. new)
      (by_eq S i 0 (λ e. new) (λ a.
      by_eq S j 1 (λ e. new) (λ a.
      by_eq S j 0 (λ e. news (complement x) (λ z. and z i) (inl e)) (λ a.
      by_eq S i 1 (λ e. news (complement x) (λ z. or z j) (inr e)) (λ a. new))))))))
    where
      S : Rewrite → Type 0
      S r = Adds m (unfold emit_rewrite in emit_rewrite r) (Muxed n j i)

      new : {r : Expr} → Adds m (emit r) (Muxed n j i)
      new = adds_emit (record { few = inl (omega arith); old = λ h. absurd (omega arith) })

      news : (r : Expr) (k : ℕ → Expr) → (j ≡ 0) ⊎ (i ≡ 1) → Adds m (emit r >>= λ e. emit (k e)) (Muxed n j i)
      news r k c =
          adds_bind (λ e. emit (k e)) (Muxed n j i) (adds_emit {P = λ e z. z ≡ 1} refl)
          (λ e z m' q p. adds_emit (record { few = inr (omega arith, c); old = λ h. absurd (omega arith) }))

-- inputs that were there before
abbrev pub AllBelow : ℕ → List ℕ → Type 0
AllBelow n [] = Unit {0}
AllBelow n (x ∷ xs) = (x < n) × AllBelow n xs

below_later : (n m : ℕ) (xs : List ℕ) → n ≤ m → AllBelow n xs → AllBelow m xs
below_later n m [] h k = tt
below_later n m (x ∷ xs) h k = (omega (arith, k.0), below_later n m xs h k.1)

-- two tables of one entry that differ are each other's complement
opposite : (a b : ℕ) → a < 2 → b < 2 → (a ≡ b → ⊥) → bit_xor a b ≡ 1
opposite zero zero h g e = absurd (e refl)
opposite zero (suc zero) h g e = refl
opposite zero (suc (suc b)) h g e = absurd (not-suc-le-zero (le_of_suc-le-suc (le_of_suc-le-suc g)))
opposite (suc zero) zero h g e = refl
opposite (suc zero) (suc zero) h g e = absurd (e refl)
opposite (suc zero) (suc (suc b)) h g e = absurd (not-suc-le-zero (le_of_suc-le-suc (le_of_suc-le-suc g)))
opposite (suc (suc a)) b h g e = absurd (not-suc-le-zero (le_of_suc-le-suc (le_of_suc-le-suc h)))

-- fewer records than p, and none for a result from before n
pub record Few (n p e k : ℕ) : Type 0 where
  pub few : k < p
  pub old : e < n → k ≡ 0

abbrev pub Counted : List ℕ → Type 0
Counted xs = (n : Count) (t : ℕ) → 2 ≤ n.exprs → AllBelow n.exprs xs → t < 2 ^ 2 ^ length xs → Adds n (lut_cofactor xs t) (Few n.exprs (2 ^ length xs))

module _ (x : ℕ) (xs : List ℕ) (counted : Counted xs) (n : Count) (t : ℕ) (two : 2 ≤ n.exprs) (kx : x < n.exprs) (ks : AllBelow n.exprs xs) (fits : t < 2 ^ 2 ^ suc (length xs)) where
  abbrev p : ℕ
  p = 2 ^ length xs

  double : 2 ^ suc (length xs) ≡ 2 * p
  double = pow-succ' 2 (length xs)

  fits_twice : t < 2 ^ (2 * p)
  fits_twice = subst (λ (k : ℕ). t < 2 ^ k) double fits

  low_fits : low_of t < 2 ^ p
  low_fits = evens_lt 8 p t fits_twice

  high_fits : high_of t < 2 ^ p
  high_fits = evens_lt 8 p (t / 2) (omega (arith, fits_twice))

  -- there is an input left
  some_left : (low_of t ≡ high_of t → ⊥) → (bit_xor (low_of t) (high_of t) ≡ full_table (length xs) → ⊥) → 2 ≤ p
  some_left apart notall = go xs refl
    where
      go : (l : List ℕ) → l ≡ xs → 2 ≤ 2 ^ length xs
      go [] e =
          let z : length xs ≡ 0 = sym (ap length e) in
          let l2 : low_of t < 2 = subst (λ (k : ℕ). low_of t < 2 ^ 2 ^ k) z low_fits in
          let h2 : high_of t < 2 = subst (λ (k : ℕ). high_of t < 2 ^ 2 ^ k) z high_fits in
          absurd (notall (opposite (low_of t) (high_of t) l2 h2 apart ∙ ap full_table (sym z)))
      go (y ∷ l) e =
          let q : length xs ≡ suc (length l) = sym (ap length e) in
          subst (λ (k : ℕ). 2 ≤ 2 ^ k) (sym q) (omega (arith, pow-succ' 2 (length l), pow_pos (length l)))

  abbrev Fine : ℕ → ℕ → Type 0
  Fine e k = Few n.exprs (2 * p) e k

  module _ (x0 : x ≡ 0 → ⊥) (x1 : x ≡ 1 → ⊥) (lo i : ℕ) (m : Count) (here : m.exprs ≡ n.exprs + i) (lows : Few n.exprs p lo i) where
    abbrev Rest : ℕ → ℕ → Type 0
    Rest e k = Fine e (i + k)

    muxed : 2 ≤ p → Adds m (lut_cofactor xs (high_of t) >>= λ h. mux_of x h lo) Rest
    muxed left =
        adds_bind (λ h. mux_of x h lo) Rest (counted m (high_of t) (omega arith) (below_later n.exprs m.exprs xs (omega arith) ks) high_fits)
        (λ hi j m' q highs. adds_so (mux_adds n.exprs two m' (omega arith) x kx x0 x1 hi lo) (λ e k h. record {
          few = ⊎_elim
              (λ s. omega (arith, s, lows.few, highs.few))
              (λ s. ⊎_elim
              (λ z. omega (arith, s.0, lows.few, highs.old (omega (arith, z, two))))
              (λ z. omega (arith, s.0, highs.few, lows.old (omega (arith, z, two))))
              s.1)
              h.few;
          old = λ g.
              let o = h.old g in
              omega (arith, o.2, lows.old o.1, highs.old (omega (arith, o.0)));
        }))

    joined : Adds m (join_cofactors x (low_of t) (high_of t) (full_table (length xs)) (lut_cofactor xs (high_of t)) lo) Rest
    unfolding join_cofactors
    joined =
        by_eq S (low_of t) (high_of t)
        (λ e. adds_pure (record { few = omega (arith, lows.few); old = λ h. omega (arith, lows.old h) }))
        (λ apart. by_eq S (bit_xor (low_of t) (high_of t)) (full_table (length xs))
        (λ e. adds_so (xor_adds n.exprs two m (omega arith) x kx x0 x1 lo) (λ e k h. record {
          few = omega (arith, lows.few, h.few, pow_pos (length xs));
          old = λ g. omega (arith, (h.old g).1, lows.old (h.old g).0);
        }))
        (λ notall. muxed (some_left apart notall)))
      where
        S : Writer ℕ → Type 0
        S w = Adds m w Rest

  more : Adds n (lut_cofactor (x ∷ xs) t) Fine
  unfolding lut_cofactor
  more =
      by_eq S t 0 (λ e. adds_pure none) (λ a.
      by_eq S t (full_table (suc (length xs))) (λ e. adds_pure none) (λ a.
      by_eq S x 0 (λ e. adds_so (counted n (low_of t) two ks low_fits) wider) (λ x0.
      by_eq S x 1 (λ e. adds_so (counted n (high_of t) two ks high_fits) wider) (λ x1.
      adds_bind _ Fine (counted n (low_of t) two ks low_fits) (λ lo i m q h. joined x0 x1 lo i m q h)))))
    where
      S : Writer ℕ → Type 0
      S w = Adds n w Fine

      none : {e : ℕ} → Fine e 0
      none = record { few = omega (arith, pow_pos (length xs)); old = λ h. refl }

      wider : (e k : ℕ) → Few n.exprs p e k → Fine e k
      wider e k h = record { few = omega (arith, h.few); old = h.old }

pub lut_adds : (xs : List ℕ) → Counted xs
unfolding lut_cofactor
lut_adds [] = λ n t two ks h. by_eq (λ (w : Writer ℕ). Adds n w (Few n.exprs 1)) t 0 (λ e. adds_pure (record { few = omega arith; old = λ q. refl })) (λ e. adds_pure (record { few = omega arith; old = λ q. refl }))
lut_adds (x ∷ xs) = λ n t two ks h. adds_so (more x xs (lut_adds xs) n t two ks.0 ks.1 h) (λ e k f. record { few = omega (arith, f.few, pow-succ' 2 (length xs)); old = f.old })

-- what specs/Claims.antt claims
pub lut_adds_claim : LutAdds
lut_adds_claim n e₁ e₂ e₃ e₄ init two k₁ k₂ k₃ k₄ h =
    let s = lut_adds (e₁ ∷ e₂ ∷ e₃ ∷ e₄ ∷ []) n init two (k₁, (k₂, (k₃, (k₄, tt)))) h in
    omega (arith, s.so.few)
