-- The cases of `lut_cofactor`, from what the tests on the way say.
use mathlib.Core.Path.{◌≡◌, sym, ap, ◌∙◌, fun_ext}
use mathlib.Core.List.{List, [], ◌∷◌}
use Prim.Native.Nat.{ℕ, suc, ◌-◌, ◌≤◌, ◌<◌}
use native.Mathlib.Omega.{arith}
use lib.Bits.{bit_xor}
use lib.ListN.{length, get_or, drop, length-drop, length-map}
use lib.Seq.{drop-cons, drop-length}
use borrow.Author.Tests.{eq-eqb, ne_eqb}
use Rattle.recorder.specs.declared.ExprId.{ExprId}
use Rattle.recorder.specs.Writer.{Writer, pure, ◌>>=◌}
use Rattle.optimize.specs.Rewrite.{expr, xor_of, mux_of}
use Rattle.optimize.specs.Lut.{full_table, low_of, high_of, join_cofactors, lut_cofactor, numbers}

-- a table that is not constant, over the inputs xs: its first input, the others, and its two cofactors
pub record Split (xs : List ℕ) (t x : ℕ) (rest : List ℕ) (low high : ℕ) : Type 0 where
  pub inputs : xs ≡ x ∷ rest
  pub some : t ≡ 0 → ⊥
  pub notall : t ≡ full_table (suc (length rest)) → ⊥
  pub lows : low ≡ low_of t
  pub highs : high ≡ high_of t

-- the constant tables
pub lut_none : (xs : List ℕ) (t : ℕ) → t ≡ 0 → lut_cofactor xs t ≡ pure 0
unfolding lut_cofactor
lut_none [] t h = fun_ext (λ n. rw (eq-eqb t 0 h))
lut_none (x ∷ xs) t h = fun_ext (λ n. rw (eq-eqb t 0 h))

lut_end : (t : ℕ) → (t ≡ 0 → ⊥) → lut_cofactor [] t ≡ pure 1
unfolding lut_cofactor
lut_end t h = fun_ext (λ n. rw (ne_eqb t 0 h))

lut_all : (x : ℕ) (xs : List ℕ) (t : ℕ) → (t ≡ 0 → ⊥) → t ≡ full_table (suc (length xs)) → lut_cofactor (x ∷ xs) t ≡ pure 1
unfolding lut_cofactor
lut_all x xs t h e = fun_ext (λ n. rw (ne_eqb t 0 h, eq-eqb t _ e))

module _ {xs : List ℕ} {t x : ℕ} {rest : List ℕ} {low high : ℕ} (s : Split xs t x rest low high) where
  pub lut_low : x ≡ 0 → lut_cofactor xs t ≡ lut_cofactor rest low
  unfolding lut_cofactor
  lut_low h = rw (s.inputs, s.lows) (fun_ext (λ n. rw (ne_eqb _ _ s.some, ne_eqb _ _ s.notall, eq-eqb _ _ h)))

  pub lut_high : (x ≡ 0 → ⊥) → x ≡ 1 → lut_cofactor xs t ≡ lut_cofactor rest high
  unfolding lut_cofactor
  lut_high h g = rw (s.inputs, s.highs) (fun_ext (λ n. rw (ne_eqb _ _ s.some, ne_eqb _ _ s.notall, ne_eqb _ _ h, eq-eqb _ _ g)))

  pub lut_both : (x ≡ 0 → ⊥) → (x ≡ 1 → ⊥) → lut_cofactor xs t ≡ (lut_cofactor rest low >>= join_cofactors x low high (full_table (length rest)) (lut_cofactor rest high))
  unfolding lut_cofactor
  lut_both h g = rw (s.inputs, s.lows, s.highs) (fun_ext (λ n. rw (ne_eqb _ _ s.some, ne_eqb _ _ s.notall, ne_eqb _ _ h, ne_eqb _ _ g)))

-- the cases after the low cofactor
module _ (x low high all : ℕ) (highs : Writer ℕ) (l : ℕ) where
  pub join_same : low ≡ high → join_cofactors x low high all highs l ≡ pure l
  unfolding join_cofactors
  join_same e = rw (eq-eqb _ _ e)

  pub join_xor : (low ≡ high → ⊥) → bit_xor low high ≡ all → join_cofactors x low high all highs l ≡ xor_of x l
  unfolding join_cofactors
  join_xor e f = rw (ne_eqb _ _ e, eq-eqb _ _ f)

  pub join_mux : (low ≡ high → ⊥) → (bit_xor low high ≡ all → ⊥) → join_cofactors x low high all highs l ≡ (highs >>= λ h. mux_of x h l)
  unfolding join_cofactors
  join_mux e f = rw (ne_eqb _ _ e, ne_eqb _ _ f)

-- THE INPUTS THAT ARE LEFT are the last ones of four

rest_of : (ins : List ExprId) (left : ℕ) → length ins ≡ 4 → (left ≡ 0 → ⊥) → left ≤ 4
    → numbers (drop (4 - left) ins) ≡ (get_or ins (4 - left) (expr 0)).0 ∷ numbers (drop (4 - (left - 1)) ins)
rest_of ins left e s h =
    let here : 4 - left < length ins = omega (arith, s) in
    let next : suc (4 - left) ≡ 4 - (left - 1) = omega (arith, s) in
    ap numbers (drop-cons ins (4 - left) (expr 0) here) ∙ ap (λ (k : ℕ). (get_or ins (4 - left) (expr 0)).0 ∷ numbers (drop k ins)) next

pub rest_length : (ins : List ExprId) (left : ℕ) → length ins ≡ 4 → (left ≡ 0 → ⊥) → left ≤ 4 → length (numbers (drop (4 - (left - 1)) ins)) ≡ left - 1
rest_length ins left e s h = length-map (drop (4 - (left - 1)) ins) (λ (x : ExprId). x.0) ∙ length-drop (4 - (left - 1)) ins ∙ lens
  where
    lens : length ins - (4 - (left - 1)) ≡ left - 1
    lens = omega (arith, s)

pub split_of : (ins : List ExprId) (left t low high all : ℕ) → length ins ≡ 4 → left ≤ 4 → (t ≡ 0 → ⊥) → (left ≡ 0 → ⊥) → all ≡ full_table left → (t ≡ all → ⊥)
    → low ≡ low_of t → high ≡ high_of t → Split (numbers (drop (4 - left) ins)) t (get_or ins (4 - left) (expr 0)).0 (numbers (drop (4 - (left - 1)) ins)) low high
split_of ins left t low high all e h some s f notall lows highs =
    let n : suc (length (numbers (drop (4 - (left - 1)) ins))) ≡ left = omega (arith, s, rest_length ins left e s h) in
    record { inputs = rest_of ins left e s h; some = some; notall = λ q. notall (q ∙ ap full_table n ∙ sym f); lows = lows; highs = highs }

pub lut_done : (ins : List ExprId) (left t : ℕ) → length ins ≡ 4 → left ≡ 0 → (t ≡ 0 → ⊥) → lut_cofactor (numbers (drop (4 - left) ins)) t ≡ pure 1
lut_done ins left t e z h =
    ap (λ (k : ℕ). lut_cofactor (numbers (drop (4 - k) ins)) t) z ∙ ap (λ (k : ℕ). lut_cofactor (numbers (drop k ins)) t) (sym e)
    ∙ ap (λ (l : List ExprId). lut_cofactor (numbers l) t) (drop-length ins) ∙ lut_end t h

pub lut_full : (ins : List ExprId) (left t all : ℕ) → length ins ≡ 4 → left ≤ 4 → (t ≡ 0 → ⊥) → (left ≡ 0 → ⊥) → all ≡ full_table left → t ≡ all
    → lut_cofactor (numbers (drop (4 - left) ins)) t ≡ pure 1
lut_full ins left t all e h some s f q =
    let m : suc (length (numbers (drop (4 - (left - 1)) ins))) ≡ left = omega (arith, s, rest_length ins left e s h) in
    ap (λ (l : List ℕ). lut_cofactor l t) (rest_of ins left e s h) ∙ lut_all _ _ t some (q ∙ f ∙ ap full_table (sym m))
