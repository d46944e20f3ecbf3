-- What each kind of expression has, by the words of its record: operands that come earlier, widths, and its value. Assumes nothing.
use Prim.Native.Nat.{ℕ, zero, suc, ◌+◌, ◌*◌, ◌≤◌, ◌<◌}
use mathlib.Core.Path.{◌≡◌, refl, sym}
use mathlib.Core.Bool.{true, ◌&&◌}
use mathlib.Core.List.{List, [], ◌∷◌}
use native.Mathlib.Omega.{arith}
use lib.Dec.{eqb, leb, ltb}
use lib.ListN.{length, get_or, drop}
use borrow.Author.Tests.{eqb-true, ltb-true, leb-true}
use Rattle.bits.specs.Bits.{pick, Bits, binary, number, window, same_bits}
use Rattle.settle.specs.Tests.{and_left, and_right}
use Rattle.recorder.specs.Record.{Expr, expr_words}
use Rattle.recorder.specs.Record.{const, read, concat, not, and, or, xor, mux, eq, mul}
use Rattle.recorder.specs.Evaluate.{Signals, value_of, bit_of, joined_parts, eval_expr}
use Rattle.simulation.specs.Wellformed.{wide, in_range, earlier, width_sum, expr_fits}
use Rattle.simulation.specs.Run.{expr_width}
use Rattle.evaluation.specs.Bytes.{gate_of}

-- operand a of expression e comes earlier and is w wide
pub record Operand (ew : List ℕ) (e a w : ℕ) : Type 0 where
  pub before_it : a < e
  pub as_wide : get_or ew a 0 ≡ w

-- gates of two operands; a complement
pub record Gate (ew : List ℕ) (e kind a b : ℕ) (x : Expr) : Type 0 where
  pub first : Operand ew e a 1
  pub second : Operand ew e b 1
  pub is_wide : expr_width x ≡ 1
  pub value : (σ : Signals) (vs : List Bits) → eval_expr σ vs x ≡ gate_of kind (bit_of vs a) (bit_of vs b) ∷ []

pub record Mux (ew : List ℕ) (e w s t f : ℕ) (x : Expr) : Type 0 where
  pub select : Operand ew e s 1
  pub if_one : Operand ew e t w
  pub if_zero : Operand ew e f w
  pub is_wide : expr_width x ≡ w
  pub value : (σ : Signals) (vs : List Bits) → eval_expr σ vs x ≡ pick (bit_of vs s) (value_of vs t) (value_of vs f)

pub record Const (w v : ℕ) (x : Expr) : Type 0 where
  pub is_wide : expr_width x ≡ w
  pub value : (σ : Signals) (vs : List Bits) → eval_expr σ vs x ≡ binary w v

pub record Equal (ew : List ℕ) (e a b : ℕ) (x : Expr) : Type 0 where
  pub first : a < e
  pub second : Operand ew e b (get_or ew a 0)
  pub is_wide : expr_width x ≡ 1
  pub value : (σ : Signals) (vs : List Bits) → eval_expr σ vs x ≡ same_bits (value_of vs a) (value_of vs b) ∷ []

pub record Product (ew : List ℕ) (e a b : ℕ) (x : Expr) : Type 0 where
  pub first : Operand ew e a 36
  pub second : Operand ew e b 36
  pub is_wide : expr_width x ≡ 36
  pub value : (σ : Signals) (vs : List Bits) → eval_expr σ vs x ≡ binary 36 (number (value_of vs a) * number (value_of vs b))

pub record Concat (ew : List ℕ) (e : ℕ) (ps : List ℕ) (x : Expr) : Type 0 where
  pub all_earlier : earlier e ps ≡ true
  pub is_wide : expr_width x ≡ width_sum ew ps
  pub value : (σ : Signals) (vs : List Bits) → eval_expr σ vs x ≡ joined_parts vs ps

pub record Read (sw : List ℕ) (w s l : ℕ) (x : Expr) : Type 0 where
  pub there : s < length sw
  pub inside : l + w ≤ get_or sw s 0
  pub is_wide : expr_width x ≡ w
  pub value : (σ : Signals) (vs : List Bits) → eval_expr σ vs x ≡ window (σ s) l w

-- by the words: length, kind, width, operands
abbrev word : Expr → ℕ → ℕ
word x j = get_or (expr_words x) j 0

module _ (widest : ℕ) (sw ew : List ℕ) (e : ℕ) where
  operand_of : (a w : ℕ) → wide ew e a w ≡ true → Operand ew e a w
  operand_of a w h = record { before_it = ltb-true a e (and_left (ltb a e) (eqb (get_or ew a 0) w) h); as_wide = eqb-true (get_or ew a 0) w (and_right (ltb a e) (eqb (get_or ew a 0) w) h) }

  gate_of_lem : (a b : ℕ) (kind : ℕ) (x : Expr) → (wide ew e a 1 && wide ew e b 1) ≡ true → expr_width x ≡ 1 → ((σ : Signals) (vs : List Bits) → eval_expr σ vs x ≡ gate_of kind (bit_of vs a) (bit_of vs b) ∷ []) → Gate ew e kind a b x
  gate_of_lem a b kind x h w v = record { first = operand_of a 1 (and_left (wide ew e a 1) (wide ew e b 1) h); second = operand_of b 1 (and_right (wide ew e a 1) (wide ew e b 1) h); is_wide = w; value = v }

  -- kinds 4 to 6
  pub is_gate : (x : Expr) → expr_fits widest sw ew e x ≡ true → 4 ≤ get_or (expr_words x) 1 0 → get_or (expr_words x) 1 0 ≤ 6 → Gate ew e (get_or (expr_words x) 1 0) (get_or (expr_words x) 3 0) (get_or (expr_words x) 4 0) x
  is_gate (const w v) h lo hi = absurd (omega arith)
  is_gate (read w s l) h lo hi = absurd (omega arith)
  is_gate (concat w ps) h lo hi = absurd (omega arith)
  is_gate (not a) h lo hi = absurd (omega arith)
  is_gate (and a b) h lo hi = gate_of_lem a b 4 (and a b) h refl (λ σ vs. refl)
  is_gate (or a b) h lo hi = gate_of_lem a b 5 (or a b) h refl (λ σ vs. refl)
  is_gate (xor a b) h lo hi = gate_of_lem a b 6 (xor a b) h refl (λ σ vs. refl)
  is_gate (mux w s t f) h lo hi = absurd (omega arith)
  is_gate (eq a b) h lo hi = absurd (omega arith)
  is_gate (mul a b) h lo hi = absurd (omega arith)

  pub is_not : (x : Expr) → expr_fits widest sw ew e x ≡ true → get_or (expr_words x) 1 0 ≡ 3 → Gate ew e 3 (get_or (expr_words x) 3 0) (get_or (expr_words x) 3 0) x
  is_not (const w v) h k = absurd (omega arith)
  is_not (read w s l) h k = absurd (omega arith)
  is_not (concat w ps) h k = absurd (omega arith)
  is_not (not a) h k = record { first = operand_of a 1 h; second = operand_of a 1 h; is_wide = refl; value = λ σ vs. refl }
  is_not (and a b) h k = absurd (omega arith)
  is_not (or a b) h k = absurd (omega arith)
  is_not (xor a b) h k = absurd (omega arith)
  is_not (mux w s t f) h k = absurd (omega arith)
  is_not (eq a b) h k = absurd (omega arith)
  is_not (mul a b) h k = absurd (omega arith)

  pub is_mux : (x : Expr) → expr_fits widest sw ew e x ≡ true → get_or (expr_words x) 1 0 ≡ 7 → Mux ew e (get_or (expr_words x) 2 0) (get_or (expr_words x) 3 0) (get_or (expr_words x) 4 0) (get_or (expr_words x) 5 0) x
  is_mux (const w v) h k = absurd (omega arith)
  is_mux (read w s l) h k = absurd (omega arith)
  is_mux (concat w ps) h k = absurd (omega arith)
  is_mux (not a) h k = absurd (omega arith)
  is_mux (and a b) h k = absurd (omega arith)
  is_mux (or a b) h k = absurd (omega arith)
  is_mux (xor a b) h k = absurd (omega arith)
  is_mux (mux w s t f) h k =
      let h3 = and_left (in_range widest w && wide ew e s 1 && wide ew e t w) (wide ew e f w) h in
      record {
        select = operand_of s 1 (and_right (in_range widest w) (wide ew e s 1) (and_left (in_range widest w && wide ew e s 1) (wide ew e t w) h3));
        if_one = operand_of t w (and_right (in_range widest w && wide ew e s 1) (wide ew e t w) h3);
        if_zero = operand_of f w (and_right (in_range widest w && wide ew e s 1 && wide ew e t w) (wide ew e f w) h);
        is_wide = refl;
        value = λ σ vs. refl;
      }
  is_mux (eq a b) h k = absurd (omega arith)
  is_mux (mul a b) h k = absurd (omega arith)

  pub is_const : (x : Expr) → expr_fits widest sw ew e x ≡ true → get_or (expr_words x) 1 0 ≡ 0 → Const (get_or (expr_words x) 2 0) (get_or (expr_words x) 3 0) x
  is_const (const w v) h k = record { is_wide = refl; value = λ σ vs. refl }
  is_const (read w s l) h k = absurd (omega arith)
  is_const (concat w ps) h k = absurd (omega arith)
  is_const (not a) h k = absurd (omega arith)
  is_const (and a b) h k = absurd (omega arith)
  is_const (or a b) h k = absurd (omega arith)
  is_const (xor a b) h k = absurd (omega arith)
  is_const (mux w s t f) h k = absurd (omega arith)
  is_const (eq a b) h k = absurd (omega arith)
  is_const (mul a b) h k = absurd (omega arith)

  pub is_equal : (x : Expr) → expr_fits widest sw ew e x ≡ true → get_or (expr_words x) 1 0 ≡ 8 → Equal ew e (get_or (expr_words x) 3 0) (get_or (expr_words x) 4 0) x
  is_equal (const w v) h k = absurd (omega arith)
  is_equal (read w s l) h k = absurd (omega arith)
  is_equal (concat w ps) h k = absurd (omega arith)
  is_equal (not a) h k = absurd (omega arith)
  is_equal (and a b) h k = absurd (omega arith)
  is_equal (or a b) h k = absurd (omega arith)
  is_equal (xor a b) h k = absurd (omega arith)
  is_equal (mux w s t f) h k = absurd (omega arith)
  is_equal (eq a b) h k = record {
    first = ltb-true a e (and_left (ltb a e) (wide ew e b (get_or ew a 0)) h);
    second = operand_of b (get_or ew a 0) (and_right (ltb a e) (wide ew e b (get_or ew a 0)) h);
    is_wide = refl;
    value = λ σ vs. refl;
  }
  is_equal (mul a b) h k = absurd (omega arith)

  pub is_product : (x : Expr) → expr_fits widest sw ew e x ≡ true → get_or (expr_words x) 1 0 ≡ 9 → Product ew e (get_or (expr_words x) 3 0) (get_or (expr_words x) 4 0) x
  is_product (const w v) h k = absurd (omega arith)
  is_product (read w s l) h k = absurd (omega arith)
  is_product (concat w ps) h k = absurd (omega arith)
  is_product (not a) h k = absurd (omega arith)
  is_product (and a b) h k = absurd (omega arith)
  is_product (or a b) h k = absurd (omega arith)
  is_product (xor a b) h k = absurd (omega arith)
  is_product (mux w s t f) h k = absurd (omega arith)
  is_product (eq a b) h k = absurd (omega arith)
  is_product (mul a b) h k = record {
    first = operand_of a 36 (and_left (wide ew e a 36) (wide ew e b 36) h);
    second = operand_of b 36 (and_right (wide ew e a 36) (wide ew e b 36) h);
    is_wide = refl;
    value = λ σ vs. refl;
  }

  pub is_concat : (x : Expr) → expr_fits widest sw ew e x ≡ true → get_or (expr_words x) 1 0 ≡ 2 → Concat ew e (drop 3 (expr_words x)) x
  is_concat (const w v) h k = absurd (omega arith)
  is_concat (read w s l) h k = absurd (omega arith)
  is_concat (concat w ps) h k = record {
    all_earlier = and_right (in_range widest w) (earlier e ps) (and_left (in_range widest w && earlier e ps) (eqb (width_sum ew ps) w) h);
    is_wide = sym (eqb-true (width_sum ew ps) w (and_right (in_range widest w && earlier e ps) (eqb (width_sum ew ps) w) h));
    value = λ σ vs. refl;
  }
  is_concat (not a) h k = absurd (omega arith)
  is_concat (and a b) h k = absurd (omega arith)
  is_concat (or a b) h k = absurd (omega arith)
  is_concat (xor a b) h k = absurd (omega arith)
  is_concat (mux w s t f) h k = absurd (omega arith)
  is_concat (eq a b) h k = absurd (omega arith)
  is_concat (mul a b) h k = absurd (omega arith)

  pub is_read : (x : Expr) → expr_fits widest sw ew e x ≡ true → get_or (expr_words x) 1 0 ≡ 1 → Read sw (get_or (expr_words x) 2 0) (get_or (expr_words x) 3 0) (get_or (expr_words x) 4 0) x
  is_read (const w v) h k = absurd (omega arith)
  is_read (read w s l) h k = record {
    there = ltb-true s (length sw) (and_right (in_range widest w) (ltb s (length sw)) (and_left (in_range widest w && ltb s (length sw)) (leb (l + w) (get_or sw s 0)) h));
    inside = leb-true (l + w) (get_or sw s 0) (and_right (in_range widest w && ltb s (length sw)) (leb (l + w) (get_or sw s 0)) h);
    is_wide = refl;
    value = λ σ vs. refl;
  }
  is_read (concat w ps) h k = absurd (omega arith)
  is_read (not a) h k = absurd (omega arith)
  is_read (and a b) h k = absurd (omega arith)
  is_read (or a b) h k = absurd (omega arith)
  is_read (xor a b) h k = absurd (omega arith)
  is_read (mux w s t f) h k = absurd (omega arith)
  is_read (eq a b) h k = absurd (omega arith)
  is_read (mul a b) h k = absurd (omega arith)

-- how many words a record of a kind has, a concat's at least
abbrev pub words_for : ℕ → ℕ
words_for k = get_or (4 ∷ 5 ∷ 3 ∷ 4 ∷ 5 ∷ 5 ∷ 5 ∷ 6 ∷ 5 ∷ 5 ∷ []) k 0

pub words_enough : (x : Expr) → 3 ≤ length (expr_words x)
words_enough (const w v) = omega arith
words_enough (read w s l) = omega arith
words_enough (concat w ps) = omega arith
words_enough (not a) = omega arith
words_enough (and a b) = omega arith
words_enough (or a b) = omega arith
words_enough (xor a b) = omega arith
words_enough (mux w s t f) = omega arith
words_enough (eq a b) = omega arith
words_enough (mul a b) = omega arith

pub words_count : (x : Expr) → words_for (get_or (expr_words x) 1 0) ≤ length (expr_words x)
words_count (const w v) = omega arith
words_count (read w s l) = omega arith
words_count (concat w ps) = omega arith
words_count (not a) = omega arith
words_count (and a b) = omega arith
words_count (or a b) = omega arith
words_count (xor a b) = omega arith
words_count (mux w s t f) = omega arith
words_count (eq a b) = omega arith
words_count (mul a b) = omega arith

-- the first word counts them
pub words_first : (x : Expr) → get_or (expr_words x) 0 0 ≡ length (expr_words x)
words_first (const w v) = refl
words_first (read w s l) = refl
words_first (concat w ps) = omega arith
words_first (not a) = refl
words_first (and a b) = refl
words_first (or a b) = refl
words_first (xor a b) = refl
words_first (mux w s t f) = refl
words_first (eq a b) = refl
words_first (mul a b) = refl

pub words_width : (x : Expr) → get_or (expr_words x) 2 0 ≡ expr_width x
words_width (const w v) = refl
words_width (read w s l) = refl
words_width (concat w ps) = refl
words_width (not a) = refl
words_width (and a b) = refl
words_width (or a b) = refl
words_width (xor a b) = refl
words_width (mux w s t f) = refl
words_width (eq a b) = refl
words_width (mul a b) = refl

pub no_other : (x : Expr) → get_or (expr_words x) 1 0 ≤ 9
no_other (const w v) = omega arith
no_other (read w s l) = omega arith
no_other (concat w ps) = omega arith
no_other (not a) = omega arith
no_other (and a b) = omega arith
no_other (or a b) = omega arith
no_other (xor a b) = omega arith
no_other (mux w s t f) = omega arith
no_other (eq a b) = omega arith
no_other (mul a b) = omega arith

pub gate_words : (k : ℕ) → 4 ≤ k → k ≤ 6 → words_for k ≡ 5
gate_words zero lo hi = absurd (omega arith)
gate_words (suc zero) lo hi = absurd (omega arith)
gate_words (suc (suc zero)) lo hi = absurd (omega arith)
gate_words (suc (suc (suc zero))) lo hi = absurd (omega arith)
gate_words (suc (suc (suc (suc zero)))) lo hi = refl
gate_words (suc (suc (suc (suc (suc zero))))) lo hi = refl
gate_words (suc (suc (suc (suc (suc (suc zero)))))) lo hi = refl
gate_words (suc (suc (suc (suc (suc (suc (suc k))))))) lo hi = absurd (omega arith)

pub low_kind : (k : ℕ) → (k ≡ 0 → ⊥) → (k ≡ 1 → ⊥) → (k ≡ 2 → ⊥) → (k ≡ 3 → ⊥) → k < 4 → ⊥
low_kind k a b c d h = omega arith

pub high_kind : (k : ℕ) → 6 < k → k ≤ 9 → (k ≡ 7 → ⊥) → (k ≡ 8 → ⊥) → k ≡ 9
high_kind k h i a b = omega arith
