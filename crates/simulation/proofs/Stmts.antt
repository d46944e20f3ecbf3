-- The rule of a statement's record, by its kind and from its fields. Assumes nothing.
use Prim.Native.Nat.{ℕ, zero, suc, ◌+◌, ◌-◌, ◌≤◌, ◌<◌}
use mathlib.Core.Path.{◌≡◌, refl, sym, ◌∙◌, ap}
use mathlib.Core.Bool.{Bool, true, false, ◌&&◌}
use mathlib.Core.List.{List, [], ◌∷◌}
use Rattle.std.specs.Prelude.{Option, None, Some}
use native.Mathlib.Omega.{arith}
use lib.Dec.{eqb, leb}
use native.Mathlib.Decide.{dec_lt}
use lib.ListN.{length, get_or, take, drop, length-drop, drop_of_length-le}
use lib.Seq.{get_or-drop, take_all}
use borrow.Author.Tests.{le-leb, lt-leb, eq-eqb, ne_eqb, lt-ltb, le-ltb}
use Rattle.bits.specs.Bits.{pick}
use Rattle.recorder.specs.Record.{reg, RegReset}
use Rattle.recorder.specs.Read.{with_enable}
use Rattle.simulation.specs.Wellformed.{suits, broad, wide, reset_fits, stmt_fits, fits}
use Rattle.simulation.specs.Fault.{stmt_test, assign_test, head_test, reset_test, enable_test, reg_test}
use Rattle.simulation.proofs.Ands.{and_true, long, and_stop, and_go}

and_assoc : (a b c : Bool) → (a && b && c) ≡ (a && (b && c))
and_assoc true b c = refl
and_assoc false b c = refl

and_no : (a : Bool) → false ≡ (a && false)
and_no true = refl
and_no false = refl

module _ (sw ew : List ℕ) where
  abbrev T : List ℕ → Bool
  T = stmt_test sw ew

  -- what comes before the enable decides with it
  enable_l : (t n c d : ℕ) (x : Option RegReset) (e : List ℕ) → fits (stmt_fits sw ew) (with_enable (reg t n c d x) e) ≡ ((suits sw ew t n && broad sw c 1 && leb d 1 && reset_fits sw ew t x) && enable_test sw e)
  enable_l t n c d x [] = and_no (suits sw ew t n && broad sw c 1 && leb d 1 && reset_fits sw ew t x)
  enable_l t n c d x (zero ∷ []) = refl
  enable_l t n c d x (zero ∷ a ∷ l) =
      and_no (suits sw ew t n && broad sw c 1 && leb d 1 && reset_fits sw ew t x)
      ∙ ap (λ (b : Bool). (suits sw ew t n && broad sw c 1 && leb d 1 && reset_fits sw ew t x) && b) (sym (ne_eqb (suc (suc (length l))) 1 (λ z. absurd (omega arith))))
  enable_l t n c d x (suc zero ∷ []) = and_no (suits sw ew t n && broad sw c 1 && leb d 1 && reset_fits sw ew t x)
  enable_l t n c d x (suc zero ∷ s ∷ []) = and_no (suits sw ew t n && broad sw c 1 && leb d 1 && reset_fits sw ew t x)
  enable_l t n c d x (suc zero ∷ s ∷ a ∷ []) = refl
  enable_l t n c d x (suc zero ∷ s ∷ a ∷ b ∷ l) =
      and_no (suits sw ew t n && broad sw c 1 && leb d 1 && reset_fits sw ew t x)
      ∙ ap (λ (b : Bool). (suits sw ew t n && broad sw c 1 && leb d 1 && reset_fits sw ew t x) && b) (long (suc (suc (suc (suc (length l))))) 3 (broad sw s 1 && leb a 1) (omega arith))
  enable_l t n c d x (suc (suc g) ∷ l) =
      let o : eqb (suc (suc g)) 0 ≡ false = ne_eqb (suc (suc g)) 0 (λ z. absurd (omega arith)) in
      let i : eqb (suc (suc g)) 1 ≡ false = ne_eqb (suc (suc g)) 1 (λ z. absurd (omega arith)) in
      and_no (suits sw ew t n && broad sw c 1 && leb d 1 && reset_fits sw ew t x)
      ∙ ap (λ (b : Bool). (suits sw ew t n && broad sw c 1 && leb d 1 && reset_fits sw ew t x) && b)
      (sym (ap (λ (b : Bool). pick b (eqb (suc (length l)) 1) (eqb (suc (suc g)) 1 && (eqb (suc (length l)) 3 && (broad sw (get_or l 0 0) 1 && leb (get_or l 1 0) 1)))) o
      ∙ ap (λ (b : Bool). b && (eqb (suc (length l)) 3 && (broad sw (get_or l 0 0) 1 && leb (get_or l 1 0) 1))) i))

  -- no reset
  plain_l : (t n c d : ℕ) (e : List ℕ) → T (1 ∷ t ∷ n ∷ c ∷ d ∷ zero ∷ e) ≡ reg_test sw ew (1 ∷ t ∷ n ∷ c ∷ d ∷ zero ∷ e)
  plain_l t n c d [] = refl
  plain_l t n c d (g ∷ e) =
      enable_l t n c d None (g ∷ e)
      ∙ ap (λ (b : Bool). b && enable_test sw (g ∷ e)) (and_true (suits sw ew t n && broad sw c 1 && leb d 1))
      ∙ ap (λ (b : Bool). b && ((suits sw ew t n && broad sw c 1 && leb d 1) && enable_test sw (g ∷ e))) (sym (le-leb 7 (suc (suc (suc (suc (suc (suc (suc (length e)))))))) (omega arith)))

  -- a reset
  reset_l : (t n c d s a v : ℕ) (e : List ℕ) → T (1 ∷ t ∷ n ∷ c ∷ d ∷ suc zero ∷ s ∷ a ∷ v ∷ e) ≡ reg_test sw ew (1 ∷ t ∷ n ∷ c ∷ d ∷ suc zero ∷ s ∷ a ∷ v ∷ e)
  reset_l t n c d s a v [] =
      let h : Bool = suits sw ew t n && broad sw c 1 && leb d 1 in
      and_no h
  reset_l t n c d s a v (g ∷ e) =
      let h : Bool = suits sw ew t n && broad sw c 1 && leb d 1 in
      let r : Bool = broad sw s 1 && leb a 1 && suits sw ew t v in
      let k : ℕ = suc (suc (suc (suc (suc (suc (suc (suc (suc (suc (length e)))))))))) in
      enable_l t n c d (Some (record { signal = s; active = a; value = v })) (g ∷ e)
      ∙ and_assoc h r (enable_test sw (g ∷ e))
      ∙ ap (λ (b : Bool). h && (b && (r && enable_test sw (g ∷ e)))) (sym (le-leb 10 k (omega arith)))
      ∙ ap (λ (b : Bool). b && (h && (leb 10 k && (r && enable_test sw (g ∷ e))))) (sym (le-leb 7 k (omega arith)))

  reg_l : (l : List ℕ) → T (1 ∷ l) ≡ reg_test sw ew (1 ∷ l)
  reg_l [] = refl
  reg_l (t ∷ []) = refl
  reg_l (t ∷ n ∷ []) = refl
  reg_l (t ∷ n ∷ c ∷ []) = refl
  reg_l (t ∷ n ∷ c ∷ d ∷ []) = refl
  reg_l (t ∷ n ∷ c ∷ d ∷ zero ∷ e) = plain_l t n c d e
  reg_l (t ∷ n ∷ c ∷ d ∷ suc zero ∷ []) = refl
  reg_l (t ∷ n ∷ c ∷ d ∷ suc zero ∷ s ∷ []) = and_no (suits sw ew t n && broad sw c 1 && leb d 1)
  reg_l (t ∷ n ∷ c ∷ d ∷ suc zero ∷ s ∷ a ∷ []) = and_no (suits sw ew t n && broad sw c 1 && leb d 1)
  reg_l (t ∷ n ∷ c ∷ d ∷ suc zero ∷ s ∷ a ∷ v ∷ e) = reset_l t n c d s a v e
  reg_l (t ∷ n ∷ c ∷ d ∷ suc (suc f) ∷ l) = odd (length l)
    where
      o : eqb (suc (suc f)) 0 ≡ false
      o = ne_eqb (suc (suc f)) 0 (λ z. absurd (omega arith))

      i : eqb (suc (suc f)) 1 ≡ false
      i = ne_eqb (suc (suc f)) 1 (λ z. absurd (omega arith))

      r : List ℕ
      r = 1 ∷ t ∷ n ∷ c ∷ d ∷ suc (suc f) ∷ l

      inner : pick (eqb (suc (suc f)) 0) (enable_test sw (drop 6 r)) (eqb (suc (suc f)) 1 && (leb 10 (length r) && (reset_test sw ew r && enable_test sw (drop 9 r)))) ≡ false
      inner =
          ap (λ (b : Bool). pick b (enable_test sw (drop 6 r)) (eqb (suc (suc f)) 1 && (leb 10 (length r) && (reset_test sw ew r && enable_test sw (drop 9 r))))) o
          ∙ ap (λ (b : Bool). b && (leb 10 (length r) && (reset_test sw ew r && enable_test sw (drop 9 r)))) i

      odd : ℕ → T r ≡ reg_test sw ew r
      odd k = and_no (leb 7 (length r)) ∙ ap (λ (b : Bool). leb 7 (length r) && b) (and_no (head_test sw ew r) ∙ ap (λ (b : Bool). head_test sw ew r && b) (sym inner))

  assign_l : (l : List ℕ) → T (0 ∷ l) ≡ assign_test sw ew (0 ∷ l)
  assign_l [] = refl
  assign_l (t ∷ []) = refl
  assign_l (t ∷ e ∷ []) = refl
  assign_l (t ∷ e ∷ x ∷ l) = long (suc (suc (suc (suc (length l))))) 3 (suits sw ew t e) (omega arith)

  of_kind : (k : ℕ) (F : List ℕ → Bool) → T [] ≡ F [] → ((l : List ℕ) → T (k ∷ l) ≡ F (k ∷ l)) → (r : List ℕ) → get_or r 0 0 ≡ k → T r ≡ F r
  of_kind k F z s [] h = z
  of_kind k F z s (x ∷ l) h = ap (λ (j : ℕ). T (j ∷ l)) h ∙ s l ∙ ap (λ (j : ℕ). F (j ∷ l)) (sym h)

  pub assign_kind : (r : List ℕ) → get_or r 0 0 ≡ 0 → T r ≡ assign_test sw ew r
  assign_kind = of_kind 0 (assign_test sw ew) refl assign_l

  pub reg_kind : (r : List ℕ) → get_or r 0 0 ≡ 1 → T r ≡ reg_test sw ew r
  reg_kind = of_kind 1 (reg_test sw ew) refl reg_l

  pub no_kind : (r : List ℕ) → 1 < get_or r 0 0 → false ≡ T r
  no_kind [] h = refl
  no_kind (zero ∷ l) h = absurd (omega arith)
  no_kind (suc zero ∷ l) h = absurd (omega arith)
  no_kind (suc (suc k) ∷ l) h = refl

-- SIGNALS AND EXPRESSIONS THAT ARE THERE

module _ (sw : List ℕ) (s : ℕ) where
  pub broad_so : (v w : ℕ) → s < length sw → v ≡ get_or sw s 0 → eqb v w ≡ broad sw s w
  broad_so v w h e = and_go (lt-ltb s (length sw) h) (ap (λ (k : ℕ). eqb k w) e)

  pub broad_late : (w : ℕ) → length sw ≤ s → false ≡ broad sw s w
  broad_late w h = and_stop (eqb (get_or sw s 0) w) (le-ltb s (length sw) h)

module _ (sw ew : List ℕ) (t e : ℕ) where
  pub suits_so : (b : Bool) (n v : ℕ) → t < length sw → n ≡ length ew → v ≡ get_or sw t 0 → b ≡ wide ew n e v → b ≡ suits sw ew t e
  suits_so b n v h c q r = and_go (lt-ltb t (length sw) h) (r ∙ ap (λ (k : ℕ). wide ew k e v) c ∙ ap (wide ew (length ew) e) q)

  pub suits_late : length sw ≤ t → false ≡ suits sw ew t e
  suits_late h = and_stop (wide ew (length ew) e (get_or sw t 0)) (le-ltb t (length sw) h)

-- AN ENABLE, from its first field on

module _ (sw r : List ℕ) (from left given : ℕ) (l : left ≡ length r - from) (g : given ≡ get_or r from 0) where
  -- what the test looks at
  abbrev enable_by : ℕ → ℕ → ℕ → ℕ → Bool
  enable_by j k s a = pick (eqb j 0) (eqb k 1) (eqb j 1 && (eqb k 3 && (broad sw s 1 && leb a 1)))

  field_of : (j i : ℕ) → j ≡ from + i → get_or (drop from r) i 0 ≡ get_or r j 0
  field_of j i e = get_or-drop from r i 0 ∙ ap (λ (k : ℕ). get_or r k 0) (sym e)

  as_given : enable_test sw (drop from r) ≡ enable_by given left (get_or r (from + 1) 0) (get_or r (from + 2) 0)
  as_given =
      ap (λ (j : ℕ). enable_by j (length (drop from r)) (get_or (drop from r) 1 0) (get_or (drop from r) 2 0)) (field_of from 0 (omega arith) ∙ sym g)
      ∙ ap (λ (k : ℕ). enable_by given k (get_or (drop from r) 1 0) (get_or (drop from r) 2 0)) (length-drop from r ∙ sym l)
      ∙ ap (λ (s : ℕ). enable_by given left s (get_or (drop from r) 2 0)) (field_of (from + 1) 1 refl)
      ∙ ap (enable_by given left (get_or r (from + 1) 0)) (field_of (from + 2) 2 refl)

  pub enable_short : length r ≤ from → false ≡ enable_test sw (drop from r)
  enable_short h = ap (enable_test sw) (sym (drop_of_length-le r h))

  pub enable_none : given ≡ 0 → eqb left 1 ≡ enable_test sw (drop from r)
  enable_none z = sym (as_given ∙ ap (λ (b : Bool). pick b (eqb left 1) (eqb given 1 && (eqb left 3 && (broad sw (get_or r (from + 1) 0) 1 && leb (get_or r (from + 2) 0) 1)))) (eq-eqb given 0 z))

  some_given : (given ≡ 0 → ⊥) → enable_test sw (drop from r) ≡ (eqb given 1 && (eqb left 3 && (broad sw (get_or r (from + 1) 0) 1 && leb (get_or r (from + 2) 0) 1)))
  some_given d = as_given ∙ ap (λ (b : Bool). pick b (eqb left 1) (eqb given 1 && (eqb left 3 && (broad sw (get_or r (from + 1) 0) 1 && leb (get_or r (from + 2) 0) 1)))) (ne_eqb given 0 d)

  pub enable_odd : (given ≡ 0 → ⊥) → (given ≡ 1 → ⊥) → false ≡ enable_test sw (drop from r)
  enable_odd d o = and_stop _ (ne_eqb given 1 o) ∙ sym (some_given d)

  module _ (d : given ≡ 0 → ⊥) (one : given ≡ 1) where
    pub enable_long : (left ≡ 3 → ⊥) → false ≡ enable_test sw (drop from r)
    enable_long h = and_go (eq-eqb given 1 one) (and_stop _ (ne_eqb left 3 h)) ∙ sym (some_given d)

    pub enable_control : left ≡ 3 → broad sw (get_or r (from + 1) 0) 1 ≡ false → false ≡ enable_test sw (drop from r)
    enable_control h b = and_go (eq-eqb given 1 one) (and_go (eq-eqb left 3 h) (and_stop _ b)) ∙ sym (some_given d)

    pub enable_so : left ≡ 3 → broad sw (get_or r (from + 1) 0) 1 ≡ true → (x : Bool) → x ≡ leb (get_or r (from + 2) 0) 1 → x ≡ enable_test sw (drop from r)
    enable_so h b x e = and_go (eq-eqb given 1 one) (and_go (eq-eqb left 3 h) (and_go b e)) ∙ sym (some_given d)

-- A REGISTER, by the code's tests

module _ (sw ew r : List ℕ) where
  abbrev tail_test : ℕ → Bool
  tail_test f = pick (eqb f 0) (enable_test sw (drop 6 r)) (eqb f 1 && (leb 10 (length r) && (reset_test sw ew r && enable_test sw (drop 9 r))))

  pub reg_short : length r < 7 → false ≡ reg_test sw ew r
  reg_short h = and_stop _ (lt-leb 7 (length r) h)

  module _ (h : 7 ≤ length r) where
    pub reg_head : head_test sw ew r ≡ false → false ≡ reg_test sw ew r
    reg_head b = and_go (le-leb 7 (length r) h) (and_stop _ b)

    module _ (b : head_test sw ew r ≡ true) (f : ℕ) (e : f ≡ get_or r 5 0) where
      from_tail : {x : Bool} → x ≡ tail_test f → x ≡ reg_test sw ew r
      from_tail q = and_go (le-leb 7 (length r) h) (and_go b (q ∙ ap tail_test e))

      pub reg_plain : f ≡ 0 → (x : Bool) → x ≡ enable_test sw (drop 6 r) → x ≡ reg_test sw ew r
      reg_plain z x q = from_tail (q ∙ sym (ap (λ (a : Bool). pick a (enable_test sw (drop 6 r)) (eqb f 1 && (leb 10 (length r) && (reset_test sw ew r && enable_test sw (drop 9 r))))) (eq-eqb f 0 z)))

      module _ (d : f ≡ 0 → ⊥) where
        with_reset : {x : Bool} → x ≡ (eqb f 1 && (leb 10 (length r) && (reset_test sw ew r && enable_test sw (drop 9 r)))) → x ≡ reg_test sw ew r
        with_reset q = from_tail (q ∙ sym (ap (λ (a : Bool). pick a (enable_test sw (drop 6 r)) (eqb f 1 && (leb 10 (length r) && (reset_test sw ew r && enable_test sw (drop 9 r))))) (ne_eqb f 0 d)))

        pub reg_odd : (f ≡ 1 → ⊥) → false ≡ reg_test sw ew r
        reg_odd o = with_reset (and_stop _ (ne_eqb f 1 o))

        module _ (one : f ≡ 1) where
          pub reg_cut : length r < 10 → false ≡ reg_test sw ew r
          reg_cut k = with_reset (and_go (eq-eqb f 1 one) (and_stop _ (lt-leb 10 (length r) k)))

          pub reg_reset : 10 ≤ length r → reset_test sw ew r ≡ false → false ≡ reg_test sw ew r
          reg_reset k c = with_reset (and_go (eq-eqb f 1 one) (and_go (le-leb 10 (length r) k) (and_stop _ c)))

          pub reg_so : 10 ≤ length r → reset_test sw ew r ≡ true → (x : Bool) → x ≡ enable_test sw (drop 9 r) → x ≡ reg_test sw ew r
          reg_so k c x q = with_reset (and_go (eq-eqb f 1 one) (and_go (le-leb 10 (length r) k) (and_go c q)))

take_nil : (n : ℕ) → take {A = ℕ} n [] ≡ []
take_nil zero = refl
take_nil (suc n) = refl

-- by what stands behind the reset's flag, or behind the reset
module _ (sw ew r : List ℕ) (b : head_test sw ew r ≡ true) {x : Bool} where
  pub reg_without : get_or r 5 0 ≡ 0 → x ≡ enable_test sw (take (length r - 6) (drop 6 r)) → x ≡ reg_test sw ew r
  reg_without z q = go (dec_lt 6 (length r))
    where
      go : Dec (6 < length r) → x ≡ reg_test sw ew r
      go (yes h) = reg_plain sw ew r (omega arith) b (get_or r 5 0) refl z x (q ∙ ap (enable_test sw) (take_all (length r - 6) (drop 6 r) (omega (arith, length-drop 6 r))))
      go (no h) = let k : length r ≤ 6 = omega arith in q ∙ ap (λ (l : List ℕ). enable_test sw (take (length r - 6) l)) (drop_of_length-le r k) ∙ ap (enable_test sw) (take_nil (length r - 6)) ∙ reg_short sw ew r (omega arith)

  pub reg_with : get_or r 5 0 ≡ 1 → 9 ≤ length r → reset_test sw ew r ≡ true → x ≡ enable_test sw (take (length r - 9) (drop 9 r)) → x ≡ reg_test sw ew r
  reg_with z n c q = go (dec_lt 9 (length r))
    where
      go : Dec (9 < length r) → x ≡ reg_test sw ew r
      go (yes h) = reg_so sw ew r (omega arith) b (get_or r 5 0) refl (λ w. absurd (omega arith)) z (omega arith) c x (q ∙ ap (enable_test sw) (take_all (length r - 9) (drop 9 r) (omega (arith, length-drop 9 r))))
      go (no h) = let k : length r ≤ 9 = omega arith in q ∙ ap (λ (l : List ℕ). enable_test sw (take (length r - 9) l)) (drop_of_length-le r k) ∙ ap (enable_test sw) (take_nil (length r - 9)) ∙ reg_cut sw ew r (omega arith) b (get_or r 5 0) refl (λ w. absurd (omega arith)) z (omega arith)
