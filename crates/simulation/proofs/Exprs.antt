-- The rule of an expression's record, by its kind and from its fields. Assumes nothing.
use Prim.Native.Nat.{ℕ, zero, suc, ◌+◌, ◌*◌, ◌/◌, ◌^◌, ◌≤◌, ◌<◌}
use mathlib.Core.Path.{◌≡◌, refl, sym, ◌∙◌, ap}
use mathlib.Core.Bool.{Bool, true, false, ◌&&◌}
use mathlib.Core.List.{List, [], ◌∷◌}
use Rattle.std.specs.Prelude.{None, Some}
use native.Mathlib.Omega.{arith}
use native.Mathlib.Numerals.{add-one}
use lib.Dec.{eqb, leb, ltb}
use native.Mathlib.Nat.{div-eq_of_lt, div-lt_iff_lt-mul}
use native.Mathlib.Decide.{dec_lt}
use lib.Pow.{pow_pos, pow_mono}
use lib.ListN.{length, get_or, drop}
use lib.Seq.{drop-cons}
use borrow.Author.Tests.{le-leb, lt-leb, eq-eqb, ne_eqb, lt-ltb, le-ltb}
use Rattle.recorder.specs.Record.{Expr}
use Rattle.recorder.specs.Read.{only, two}
use Rattle.simulation.specs.Wellformed.{in_range, wide, earlier, width_sum, expr_fits, fits}
use Rattle.simulation.proofs.Ands.{and_true, and_false, long}
use Rattle.simulation.specs.Fault.{all_wide, expr_test, fixed_test, const_test, read_test, concat_test, mux_test, eq_test}

-- a fault in any part is a fault of the whole
only_fits : (p : Expr → Bool) (b : Bool) (x : Expr) → fits p (only b (Some x)) ≡ (b && p x)
only_fits p true x = refl
only_fits p false x = refl

only_none : (p : Expr → Bool) (b : Bool) → fits p (only b None) ≡ false
only_none p true = refl
only_none p false = refl

module _ (widest : ℕ) (sw ew : List ℕ) (n : ℕ) where
  abbrev T : List ℕ → Bool
  T = expr_test widest sw ew n

  -- by the kind
  of_kind : (k : ℕ) (F : List ℕ → Bool) → T [] ≡ F [] → ((l : List ℕ) → T (k ∷ l) ≡ F (k ∷ l)) → (r : List ℕ) → get_or r 0 0 ≡ k → T r ≡ F r
  of_kind k F z s [] h = z
  of_kind k F z s (x ∷ l) h = ap (λ (j : ℕ). T (j ∷ l)) h ∙ s l ∙ ap (λ (j : ℕ). F (j ∷ l)) (sym h)

  const_l : (l : List ℕ) → T (0 ∷ l) ≡ const_test widest (0 ∷ l)
  const_l [] = refl
  const_l (w ∷ []) = refl
  const_l (w ∷ v ∷ []) = refl
  const_l (w ∷ v ∷ x ∷ l) = long (suc (suc (suc (suc (length l))))) 3 _ (omega arith)

  pub const_kind : (r : List ℕ) → get_or r 0 0 ≡ 0 → T r ≡ const_test widest r
  const_kind = of_kind 0 (const_test widest) refl const_l

  read_l : (l : List ℕ) → T (1 ∷ l) ≡ read_test widest sw (1 ∷ l)
  read_l [] = refl
  read_l (w ∷ []) = refl
  read_l (w ∷ s ∷ []) = refl
  read_l (w ∷ s ∷ b ∷ []) = refl
  read_l (w ∷ s ∷ b ∷ x ∷ l) = long (suc (suc (suc (suc (suc (length l)))))) 4 _ (omega arith)

  pub read_kind : (r : List ℕ) → get_or r 0 0 ≡ 1 → T r ≡ read_test widest sw r
  read_kind = of_kind 1 (read_test widest sw) refl read_l

  concat_l : (l : List ℕ) → T (2 ∷ l) ≡ concat_test widest ew n (2 ∷ l)
  concat_l [] = refl
  concat_l (w ∷ l) = ap (λ (b : Bool). b && (in_range widest w && earlier n l && eqb (width_sum ew l) w)) (sym (le-leb 2 (suc (suc (length l))) (omega arith)))

  pub concat_kind : (r : List ℕ) → get_or r 0 0 ≡ 2 → T r ≡ concat_test widest ew n r
  concat_kind = of_kind 2 (concat_test widest ew n) refl concat_l

  pub mux_kind : (r : List ℕ) → get_or r 0 0 ≡ 7 → T r ≡ mux_test widest ew n r
  mux_kind = of_kind 7 (mux_test widest ew n) refl go
    where
      go : (l : List ℕ) → T (7 ∷ l) ≡ mux_test widest ew n (7 ∷ l)
      go [] = refl
      go (w ∷ []) = refl
      go (w ∷ a ∷ []) = refl
      go (w ∷ a ∷ b ∷ []) = refl
      go (w ∷ a ∷ b ∷ c ∷ []) = refl
      go (w ∷ a ∷ b ∷ c ∷ d ∷ l) = long (suc (suc (suc (suc (suc (suc (length l))))))) 5 _ (omega arith)

  pub eq_kind : (r : List ℕ) → get_or r 0 0 ≡ 8 → T r ≡ eq_test ew n r
  eq_kind = of_kind 8 (eq_test ew n) refl go
    where
      go : (l : List ℕ) → T (8 ∷ l) ≡ eq_test ew n (8 ∷ l)
      go [] = refl
      go (w ∷ []) = only_none _ (eqb w 1)
      go (w ∷ a ∷ []) = only_none _ (eqb w 1)
      go (w ∷ a ∷ b ∷ []) = only_fits _ (eqb w 1) _
      go (w ∷ a ∷ b ∷ c ∷ l) = only_none _ (eqb w 1) ∙ long (suc (suc (suc (suc (suc (length l)))))) 4 _ (omega arith)

  pub not_kind : (r : List ℕ) → get_or r 0 0 ≡ 3 → T r ≡ fixed_test ew n 3 1 r
  not_kind = of_kind 3 (fixed_test ew n 3 1) refl go
    where
      go : (l : List ℕ) → T (3 ∷ l) ≡ fixed_test ew n 3 1 (3 ∷ l)
      go [] = refl
      go (w ∷ []) = only_none _ (eqb w 1)
      go (w ∷ a ∷ []) = only_fits _ (eqb w 1) _ ∙ ap (λ (b : Bool). eqb w 1 && b) (sym (and_true (wide ew n a 1)))
      go (w ∷ a ∷ b ∷ l) = only_none _ (eqb w 1) ∙ long (suc (suc (suc (suc (length l))))) 3 _ (omega arith)

  -- two operands as wide as the expression
  module _ (v : ℕ) (f : ℕ → ℕ → Expr) (rule : (a b : ℕ) → expr_fits widest sw ew n (f a b) ≡ (wide ew n a v && wide ew n b v)) where
    two_l : (k w : ℕ) (l : List ℕ) → fits (expr_fits widest sw ew n) (only (eqb w v) (two f l)) ≡ fixed_test ew n 4 v (k ∷ w ∷ l)
    two_l k w [] = only_none _ (eqb w v)
    two_l k w (a ∷ []) = only_none _ (eqb w v)
    two_l k w (a ∷ b ∷ []) = only_fits _ (eqb w v) _ ∙ ap (λ (x : Bool). eqb w v && x) (rule a b ∙ ap (λ (x : Bool). wide ew n a v && x) (sym (and_true (wide ew n b v))))
    two_l k w (a ∷ b ∷ c ∷ l) = only_none _ (eqb w v) ∙ long (suc (suc (suc (suc (suc (length l)))))) 4 _ (omega arith)

  pub and_kind : (r : List ℕ) → get_or r 0 0 ≡ 4 → T r ≡ fixed_test ew n 4 1 r
  and_kind = of_kind 4 (fixed_test ew n 4 1) refl go
    where
      go : (l : List ℕ) → T (4 ∷ l) ≡ fixed_test ew n 4 1 (4 ∷ l)
      go [] = refl
      go (w ∷ l) = two_l 1 Expr.and (λ a b. refl) 4 w l

  pub or_kind : (r : List ℕ) → get_or r 0 0 ≡ 5 → T r ≡ fixed_test ew n 4 1 r
  or_kind = of_kind 5 (fixed_test ew n 4 1) refl go
    where
      go : (l : List ℕ) → T (5 ∷ l) ≡ fixed_test ew n 4 1 (5 ∷ l)
      go [] = refl
      go (w ∷ l) = two_l 1 Expr.or (λ a b. refl) 5 w l

  pub xor_kind : (r : List ℕ) → get_or r 0 0 ≡ 6 → T r ≡ fixed_test ew n 4 1 r
  xor_kind = of_kind 6 (fixed_test ew n 4 1) refl go
    where
      go : (l : List ℕ) → T (6 ∷ l) ≡ fixed_test ew n 4 1 (6 ∷ l)
      go [] = refl
      go (w ∷ l) = two_l 1 Expr.xor (λ a b. refl) 6 w l

  pub mul_kind : (r : List ℕ) → get_or r 0 0 ≡ 9 → T r ≡ fixed_test ew n 4 36 r
  mul_kind = of_kind 9 (fixed_test ew n 4 36) refl go
    where
      go : (l : List ℕ) → T (9 ∷ l) ≡ fixed_test ew n 4 36 (9 ∷ l)
      go [] = refl
      go (w ∷ l) = two_l 36 Expr.mul (λ a b. refl) 9 w l

  pub no_kind : (r : List ℕ) (k : ℕ) → k ≡ get_or r 0 0 → (k ≡ 0 → ⊥) → (k ≡ 1 → ⊥) → (k ≡ 2 → ⊥) → (k ≡ 3 → ⊥) → (k ≡ 4 → ⊥) → (k ≡ 5 → ⊥) → (k ≡ 6 → ⊥) → (k ≡ 7 → ⊥) → (k ≡ 8 → ⊥) → (k ≡ 9 → ⊥) → false ≡ T r
  no_kind [] k e d0 d1 d2 d3 d4 d5 d6 d7 d8 d9 = refl
  no_kind (j ∷ []) k e d0 d1 d2 d3 d4 d5 d6 d7 d8 d9 = refl
  no_kind (j ∷ w ∷ l) k e d0 d1 d2 d3 d4 d5 d6 d7 d8 d9 = go k w l d0 d1 d2 d3 d4 d5 d6 d7 d8 d9 ∙ ap (λ (i : ℕ). T (i ∷ w ∷ l)) e
    where
      go : (k w : ℕ) (l : List ℕ) → (k ≡ 0 → ⊥) → (k ≡ 1 → ⊥) → (k ≡ 2 → ⊥) → (k ≡ 3 → ⊥) → (k ≡ 4 → ⊥) → (k ≡ 5 → ⊥) → (k ≡ 6 → ⊥) → (k ≡ 7 → ⊥) → (k ≡ 8 → ⊥) → (k ≡ 9 → ⊥) → false ≡ T (k ∷ w ∷ l)
      go zero w l d0 d1 d2 d3 d4 d5 d6 d7 d8 d9 = absurd (d0 refl)
      go (suc zero) w l d0 d1 d2 d3 d4 d5 d6 d7 d8 d9 = absurd (d1 refl)
      go (suc (suc zero)) w l d0 d1 d2 d3 d4 d5 d6 d7 d8 d9 = absurd (d2 refl)
      go (suc (suc (suc zero))) w l d0 d1 d2 d3 d4 d5 d6 d7 d8 d9 = absurd (d3 refl)
      go (suc (suc (suc (suc zero)))) w l d0 d1 d2 d3 d4 d5 d6 d7 d8 d9 = absurd (d4 refl)
      go (suc (suc (suc (suc (suc zero))))) w l d0 d1 d2 d3 d4 d5 d6 d7 d8 d9 = absurd (d5 refl)
      go (suc (suc (suc (suc (suc (suc zero)))))) w l d0 d1 d2 d3 d4 d5 d6 d7 d8 d9 = absurd (d6 refl)
      go (suc (suc (suc (suc (suc (suc (suc zero))))))) w l d0 d1 d2 d3 d4 d5 d6 d7 d8 d9 = absurd (d7 refl)
      go (suc (suc (suc (suc (suc (suc (suc (suc zero)))))))) w l d0 d1 d2 d3 d4 d5 d6 d7 d8 d9 = absurd (d8 refl)
      go (suc (suc (suc (suc (suc (suc (suc (suc (suc zero))))))))) w l d0 d1 d2 d3 d4 d5 d6 d7 d8 d9 = absurd (d9 refl)
      go (suc (suc (suc (suc (suc (suc (suc (suc (suc (suc k)))))))))) w l d0 d1 d2 d3 d4 d5 d6 d7 d8 d9 = refl

-- THE LOOPS OVER OPERANDS

module _ (ew : List ℕ) (n w : ℕ) (r : List ℕ) where
  pub all_next : (j : ℕ) → j < length r → wide ew n (get_or r j 0) w ≡ true → all_wide ew n w (drop j r) ≡ all_wide ew n w (drop (j + 1) r)
  all_next j h t = ap (all_wide ew n w) (drop-cons r j 0 h) ∙ rw t (ap (λ (i : ℕ). all_wide ew n w (drop i r)) (sym (add-one j)))

  pub all_stop : (j : ℕ) → j < length r → wide ew n (get_or r j 0) w ≡ false → false ≡ all_wide ew n w (drop j r)
  all_stop j h t = sym (ap (all_wide ew n w) (drop-cons r j 0 h) ∙ rw t)

  pub all_end : (j : ℕ) → length r ≤ j → true ≡ all_wide ew n w (drop j r)
  all_end j h = sym (ap (all_wide ew n w) (lib.ListN.drop_of_length-le r h))

  -- parts: those before the expression, and the sum of their widths
  abbrev pub parts_left : ℕ → ℕ → Bool
  parts_left sum j = earlier n (drop j r) && eqb (sum + width_sum ew (drop j r)) w

  pub parts_next : (sum j v : ℕ) → j < length r → get_or r j 0 < n → v ≡ get_or ew (get_or r j 0) 0 → parts_left sum j ≡ parts_left (sum + v) (j + 1)
  parts_next sum j v h t e =
      let z : sum + (get_or ew (get_or r j 0) 0 + width_sum ew (drop (suc j) r)) ≡ sum + v + width_sum ew (drop (suc j) r) = omega arith in
      ap (λ (l : List ℕ). earlier n l && eqb (sum + width_sum ew l) w) (drop-cons r j 0 h)
      ∙ ap (λ (b : Bool). b && earlier n (drop (suc j) r) && eqb (sum + (get_or ew (get_or r j 0) 0 + width_sum ew (drop (suc j) r))) w) (lt-ltb (get_or r j 0) n t)
      ∙ ap (λ (k : ℕ). earlier n (drop (suc j) r) && eqb k w) z
      ∙ ap (λ (i : ℕ). parts_left (sum + v) i) (sym (add-one j))

  pub parts_late : (sum j : ℕ) → j < length r → n ≤ get_or r j 0 → false ≡ parts_left sum j
  parts_late sum j h t = sym (ap (λ (l : List ℕ). earlier n l && eqb (sum + width_sum ew l) w) (drop-cons r j 0 h)
      ∙ ap (λ (b : Bool). b && earlier n (drop (suc j) r) && eqb (sum + (get_or ew (get_or r j 0) 0 + width_sum ew (drop (suc j) r))) w) (le-ltb (get_or r j 0) n t))

  pub parts_more : (sum j : ℕ) → w < sum → false ≡ parts_left sum j
  parts_more sum j h = sym (ap (λ (b : Bool). earlier n (drop j r) && b) (ne_eqb (sum + width_sum ew (drop j r)) w (λ e. absurd (omega arith))) ∙ and_false (earlier n (drop j r)))

  pub parts_end : (sum j : ℕ) → length r ≤ j → eqb sum w ≡ parts_left sum j
  parts_end sum j h = sym (ap (λ (l : List ℕ). earlier n l && eqb (sum + width_sum ew l) w) (lib.ListN.drop_of_length-le r h) ∙ ap (λ (k : ℕ). eqb k w) (omega arith))

-- CONSTANTS

pub value_wide : (v w : ℕ) → v < 4294967296 → 32 ≤ w → true ≡ ltb v (2 ^ w)
value_wide v w h g = let p : 4294967296 ≤ 2 ^ w = pow_mono {i = 32} g in sym (lt-ltb v (2 ^ w) (omega arith))

pub value_shifted : (v w : ℕ) → eqb (v / 2 ^ w) 0 ≡ ltb v (2 ^ w)
value_shifted v w = go (dec_lt v (2 ^ w))
  where
    go : Dec (v < 2 ^ w) → eqb (v / 2 ^ w) 0 ≡ ltb v (2 ^ w)
    go (yes h) = eq-eqb (v / 2 ^ w) 0 (div-eq_of_lt h) ∙ sym (lt-ltb v (2 ^ w) h)
    go (no h) = ne_eqb (v / 2 ^ w) 0 (λ e. h (let q : v < 1 * 2 ^ w = (div-lt_iff_lt-mul {k = 2 ^ w} {x = v} {y = 1} (pow_pos w)).0 (omega arith) in omega arith)) ∙ sym (le-ltb v (2 ^ w) (omega arith))

-- AN OPERAND

module _ (ew : List ℕ) (n a w : ℕ) where
  pub operand_so : (v : ℕ) → a < n → v ≡ get_or ew a 0 → eqb v w ≡ wide ew n a w
  operand_so v h e = sym (ap (λ (b : Bool). b && eqb (get_or ew a 0) w) (lt-ltb a n h) ∙ ap (λ (k : ℕ). eqb k w) (sym e))

  pub operand_late : n ≤ a → false ≡ wide ew n a w
  operand_late h = sym (ap (λ (b : Bool). b && eqb (get_or ew a 0) w) (le-ltb a n h))

pub range_narrow : (widest w : ℕ) → w < 1 → false ≡ in_range widest w
range_narrow widest w h = sym (ap (λ (b : Bool). b && leb w widest) (lt-leb 1 w h))

pub range_so : (widest w : ℕ) → 1 ≤ w → leb w widest ≡ in_range widest w
range_so widest w h = sym (ap (λ (b : Bool). b && leb w widest) (le-leb 1 w h))

-- nothing summed yet
pub parts_whole : (ew : List ℕ) (n w : ℕ) (r : List ℕ) (j : ℕ) → parts_left ew n w r 0 j ≡ (earlier n (drop j r) && eqb (width_sum ew (drop j r)) w)
parts_whole ew n w r j = let z : 0 + width_sum ew (drop j r) ≡ width_sum ew (drop j r) = omega arith in ap (λ (k : ℕ). earlier n (drop j r) && eqb k w) z

pub eqb_comm : (w : ℕ) → eqb w 0 ≡ eqb 0 w
eqb_comm zero = refl
eqb_comm (suc w) = ne_eqb (suc w) 0 (λ e. absurd (omega arith)) ∙ sym (ne_eqb 0 (suc w) (λ e. absurd (omega arith)))
