-- Evaluating one expression: where its operands and its value stand, and that what was written is its value. Assumes nothing.
use Prim.Native.Nat.{ℕ, suc, ◌+◌, ◌*◌, ◌≤◌, ◌<◌}
use mathlib.Core.Path.{◌≡◌, refl, sym, ◌∙◌, ap, ap₂, subst}
use mathlib.Core.Bool.{Bool, true, false}
use mathlib.Core.List.{List, [], map}
use native.Mathlib.Omega.{arith}
use lib.ListN.{length, get_or, take, set}
use lib.Seq.{sets, length-take-le, get_or-take}
use Rattle.bits.specs.Bits.{pick, Bits, digit, binary, number}
use Rattle.recorder.specs.Record.{Expr, expr_words}
use Rattle.recorder.specs.Lists.{over}
use Rattle.recorder.specs.Evaluate.{Signals, value_of, bit_of, eval_expr}
use Rattle.simulation.specs.Wellformed.{expr_fits}
use Rattle.simulation.specs.Run.{expr_width, is_one}
use Rattle.simulation.specs.Index.{records_in, widths_in, offset}
use Rattle.simulation.proofs.Offsets.{offset_suc, offset_le}
use Rattle.simulation.proofs.Steps.{width_of, length_widths}
use Rattle.simulation.proofs.Sound.{expr_width_lem}
use Rattle.simulation.proofs.Bounds.{value_width}
use Rattle.evaluation.specs.Bytes.{part, same_bytes, gate_of, Holds}
use Rattle.evaluation.specs.Ready.{expr_in, Ready, Evaluated}
use Rattle.evaluation.proofs.Consistent.{same_value, operands_under}
use Rattle.evaluation.proofs.InBytes.{bits_back, bytes_same}
use Rattle.evaluation.proofs.Held.{holds_length, holds_width, holds_part, holds_bit, holds_set}
use Rattle.evaluation.proofs.ByKind.{Operand, Gate, Mux, Const, Equal, Product, is_gate, is_not, is_mux, is_const, is_equal, is_product, words_for, words_enough, words_count, gate_words}

subst3 : (P : ℕ → ℕ → ℕ → Type 0) {a b c a' b' c' : ℕ} → a ≡ a' → b ≡ b' → c ≡ c' → P a' b' c' → P a b c
subst3 P {a} {b} {c} {a'} {b'} {c'} p q r t = subst (λ (i : ℕ). P i b c) (sym p) (subst (λ (i : ℕ). P a' i c) (sym q) (subst (λ (i : ℕ). P a' b' i) (sym r) t))

-- WHERE VALUES STAND

pub offset_before : (ws : List ℕ) (a e : ℕ) → a < e → offset ws a + get_or ws a 0 ≤ offset ws e
offset_before ws a e h = let k = offset_le ws (suc a) e (omega arith) in omega (arith, offset_suc ws a)

module _ {exprs table values : List ℕ} {at e : ℕ} (h : Ready exprs table values at e) where
  abbrev ew : List ℕ
  ew = widths_in exprs

  abbrev x : Expr
  x = expr_in exprs e

  pub own_there : e < length (widths_in exprs)
  own_there = omega (arith, h.there, length_widths exprs)

  pub own_room : offset (widths_in exprs) e + get_or (widths_in exprs) e 0 ≤ length values
  own_room = omega (arith, offset_before ew e (length (records_in exprs)) h.there, h.room)

  pub own_width : get_or (widths_in exprs) e 0 ≡ expr_width (expr_in exprs e)
  own_width = width_of exprs e ∙ expr_width_lem (get_or (records_in exprs) e []) x h.reads

  pub operand_there : {a w : ℕ} → Operand (widths_in exprs) e a w → a < length (widths_in exprs)
  operand_there o = omega (arith, o.before_it, own_there)

  -- an operand's bytes stand before the value
  pub operand_before : {a w : ℕ} → Operand (widths_in exprs) e a w → offset (widths_in exprs) a + w ≤ offset (widths_in exprs) e
  operand_before {a} o = omega (arith, offset_before ew a e o.before_it, o.as_wide)

  -- a word of the record
  pub the_word : (j : ℕ) → j < 3 → get_or exprs (at + j) 0 ≡ get_or (expr_words (expr_in exprs e)) j 0
  the_word j q = h.words j (omega (arith, words_enough x))

  pub word_inside : (j : ℕ) → j < length (expr_words (expr_in exprs e)) → at + j < length exprs
  word_inside j q = omega (arith, h.inside)

  pub kind_is : {k : ℕ} → k ≡ get_or exprs (at + 1) 0 → k ≡ get_or (expr_words (expr_in exprs e)) 1 0
  kind_is q = q ∙ the_word 1 (omega arith)

  pub count_is : {k : ℕ} → k ≡ get_or exprs (at + 1) 0 → words_for k ≤ length (expr_words (expr_in exprs e))
  count_is {k} q = subst (λ (n : ℕ). words_for n ≤ length (expr_words x)) (sym (kind_is q)) (words_count x)

  -- the sum of all widths fits a word of 64 bits, as the values' length does
  pub sum_fits : length values < 18446744073709551616 → offset (widths_in exprs) (length (records_in exprs)) ≤ 18446744073709551615
  sum_fits q = omega (arith, h.room)

  -- the value is as wide as the expression
  pub value_wide : (σ : Signals) (vs : List Bits) (rest : List ℕ) → Holds (widths_in exprs) vs rest values → length (eval_expr σ vs (expr_in exprs e)) ≡ get_or (widths_in exprs) e 0
  value_wide σ vs rest v =
      ap length (sym same) ∙ value_width h.widest h.signal_widths_lem ew σ x (take e vs) right (subst (λ (n : ℕ). expr_fits h.widest h.signal_widths_lem ew n x ≡ true) (sym long) h.fits) ∙ sym own_width
    where
      long : length (take e vs) ≡ e
      long = length-take-le e vs (omega (arith, holds_length v, own_there))

      right : (i : ℕ) → i < length (take e vs) → length (get_or (take e vs) i []) ≡ get_or (widths_in exprs) i 0
      right i q = ap length (get_or-take e vs i [] (omega (arith, long))) ∙ holds_width v i (omega (arith, long, own_there))

      same : eval_expr σ (take e vs) (expr_in exprs e) ≡ eval_expr σ vs (expr_in exprs e)
      same = same_value σ σ (take e vs) vs (expr_in exprs e) (λ y q. get_or-take e vs y [] (operands_under h.widest h.signal_widths_lem (widths_in exprs) e (expr_in exprs e) h.fits y q)) (λ s q. refl)

  -- what was written is the value
  pub written : (values' : List ℕ) → ((σ : Signals) (vs : List Bits) (rest : List ℕ) → Holds (widths_in exprs) vs rest values → values' ≡ over values (offset (widths_in exprs) e) (map digit (eval_expr σ vs (expr_in exprs e)))) → Evaluated exprs e values values'
  written values' g = record {
    evaluated = λ σ vs rest v. subst (λ (l : List ℕ). Holds (widths_in exprs) (set vs e (eval_expr σ vs (expr_in exprs e))) rest l) (sym (g σ vs rest v)) (holds_set v e (eval_expr σ vs (expr_in exprs e)) own_there (value_wide σ vs rest v));
  }

  -- the bytes of an operand
  operand_part : {a w : ℕ} → Operand (widths_in exprs) e a w → {vs : List Bits} {rest : List ℕ} → Holds (widths_in exprs) vs rest values → part values (offset (widths_in exprs) a) w ≡ map digit (get_or vs a [])
  operand_part {a} o v = ap (λ (n : ℕ). part values (offset (widths_in exprs) a) n) (sym o.as_wide) ∙ holds_part v a (operand_there o)

  -- BY KIND

  abbrev word : ℕ → ℕ
  word j = get_or exprs (at + j) 0

  pub gate_ready : {kind : ℕ} → kind ≡ get_or exprs (at + 1) 0 → 4 ≤ kind → kind ≤ 6 → Gate (widths_in exprs) e kind (get_or exprs (at + 3) 0) (get_or exprs (at + 4) 0) (expr_in exprs e) × (5 ≤ length (expr_words (expr_in exprs e)))
  gate_ready {kind} k lo hi =
      let n : 5 ≤ length (expr_words x) = (let c = count_is k in let g = gate_words kind lo hi in omega arith) in
      let i = kind_is k in
      (subst3 (λ q a b. Gate ew e q a b x) i (h.words 3 (omega arith)) (h.words 4 (omega arith)) (is_gate h.widest h.signal_widths_lem ew e x h.fits (omega arith) (omega arith)), n)

  pub not_ready : get_or exprs (at + 1) 0 ≡ 3 → Gate (widths_in exprs) e 3 (get_or exprs (at + 3) 0) (get_or exprs (at + 3) 0) (expr_in exprs e) × (4 ≤ length (expr_words (expr_in exprs e)))
  not_ready k =
      let n : 4 ≤ length (expr_words x) = count_is (sym k) in
      (subst (λ (a : ℕ). Gate ew e 3 a a x) (sym (h.words 3 (omega arith))) (is_not h.widest h.signal_widths_lem ew e x h.fits (sym (kind_is (sym k)))), n)

  pub mux_ready : get_or exprs (at + 1) 0 ≡ 7 → Mux (widths_in exprs) e (get_or exprs (at + 2) 0) (get_or exprs (at + 3) 0) (get_or exprs (at + 4) 0) (get_or exprs (at + 5) 0) (expr_in exprs e) × (6 ≤ length (expr_words (expr_in exprs e)))
  mux_ready k =
      let n : 6 ≤ length (expr_words x) = count_is (sym k) in
      (subst3 (λ a b c. Mux ew e (word 2) a b c x) (h.words 3 (omega arith)) (h.words 4 (omega arith)) (h.words 5 (omega arith)) (subst (λ (w : ℕ). Mux ew e w (get_or (expr_words x) 3 0) (get_or (expr_words x) 4 0) (get_or (expr_words x) 5 0) x) (sym (h.words 2 (omega arith))) (is_mux h.widest h.signal_widths_lem ew e x h.fits (sym (kind_is (sym k))))), n)

  pub const_ready : get_or exprs (at + 1) 0 ≡ 0 → Const (get_or exprs (at + 2) 0) (get_or exprs (at + 3) 0) (expr_in exprs e) × (4 ≤ length (expr_words (expr_in exprs e)))
  const_ready k =
      let n : 4 ≤ length (expr_words x) = count_is (sym k) in
      (subst (λ (w : ℕ). Const w (word 3) x) (sym (h.words 2 (omega arith))) (subst (λ (v : ℕ). Const (get_or (expr_words x) 2 0) v x) (sym (h.words 3 (omega arith))) (is_const h.widest h.signal_widths_lem ew e x h.fits (sym (kind_is (sym k))))), n)

  pub equal_ready : get_or exprs (at + 1) 0 ≡ 8 → Equal (widths_in exprs) e (get_or exprs (at + 3) 0) (get_or exprs (at + 4) 0) (expr_in exprs e) × (5 ≤ length (expr_words (expr_in exprs e)))
  equal_ready k =
      let n : 5 ≤ length (expr_words x) = count_is (sym k) in
      (subst (λ (a : ℕ). Equal ew e a (word 4) x) (sym (h.words 3 (omega arith))) (subst (λ (b : ℕ). Equal ew e (get_or (expr_words x) 3 0) b x) (sym (h.words 4 (omega arith))) (is_equal h.widest h.signal_widths_lem ew e x h.fits (sym (kind_is (sym k))))), n)

  pub product_ready : get_or exprs (at + 1) 0 ≡ 9 → Product (widths_in exprs) e (get_or exprs (at + 3) 0) (get_or exprs (at + 4) 0) (expr_in exprs e) × (5 ≤ length (expr_words (expr_in exprs e)))
  product_ready k =
      let n : 5 ≤ length (expr_words x) = count_is (sym k) in
      (subst (λ (a : ℕ). Product ew e a (word 4) x) (sym (h.words 3 (omega arith))) (subst (λ (b : ℕ). Product ew e (get_or (expr_words x) 3 0) b x) (sym (h.words 4 (omega arith))) (is_product h.widest h.signal_widths_lem ew e x h.fits (sym (kind_is (sym k))))), n)

  module _ {values' : List ℕ} where
    pub gate_written : {kind a b : ℕ} → Gate (widths_in exprs) e kind a b (expr_in exprs e) → ((p q : Bool) → get_or values (offset (widths_in exprs) a) 0 ≡ digit p → get_or values (offset (widths_in exprs) b) 0 ≡ digit q → values' ≡ set values (offset (widths_in exprs) e) (digit (gate_of kind p q))) → Evaluated exprs e values values'
    unfolding over
    gate_written {kind} {a} {b} k g = written values' (λ σ vs rest v. g (bit_of vs a) (bit_of vs b) (holds_bit v a (operand_there k.first) (omega (arith, k.first.as_wide))) (holds_bit v b (operand_there k.second) (omega (arith, k.second.as_wide))) ∙ ap (λ (l : Bits). sets values (offset (widths_in exprs) e) (map digit l)) (sym (k.value σ vs)))

    pub const_written : {w n : ℕ} → Const w n (expr_in exprs e) → values' ≡ over values (offset (widths_in exprs) e) (map digit (binary w n)) → Evaluated exprs e values values'
    const_written k g = written values' (λ σ vs rest v. g ∙ ap (λ (l : Bits). over values (offset (widths_in exprs) e) (map digit l)) (sym (k.value σ vs)))

    pub mux_one : {w s t f : ℕ} → Mux (widths_in exprs) e w s t f (expr_in exprs e) → get_or values (offset (widths_in exprs) s) 0 ≡ 1 → values' ≡ over values (offset (widths_in exprs) e) (part values (offset (widths_in exprs) t) w) → Evaluated exprs e values values'
    mux_one {w} {s} {t} {f} k one g = written values' (λ σ vs rest v. g ∙ ap (over values (offset (widths_in exprs) e)) (operand_part k.if_one v ∙ ap (map digit) (sym (k.value σ vs ∙ chosen (bit_of vs s) (value_of vs t) (value_of vs f) (sym (holds_bit v s (operand_there k.select) (omega (arith, k.select.as_wide))) ∙ one)))))
      where
        chosen : (b : Bool) (y z : Bits) → digit b ≡ 1 → pick b y z ≡ y
        chosen true y z q = refl
        chosen false y z q = absurd (omega arith)

    pub mux_zero : {w s t f : ℕ} → Mux (widths_in exprs) e w s t f (expr_in exprs e) → (get_or values (offset (widths_in exprs) s) 0 ≡ 1 → ⊥) → values' ≡ over values (offset (widths_in exprs) e) (part values (offset (widths_in exprs) f) w) → Evaluated exprs e values values'
    mux_zero {w} {s} {t} {f} k zer g = written values' (λ σ vs rest v. g ∙ ap (over values (offset (widths_in exprs) e)) (operand_part k.if_zero v ∙ ap (map digit) (sym (k.value σ vs ∙ chosen (bit_of vs s) (value_of vs t) (value_of vs f) (λ q. zer (holds_bit v s (operand_there k.select) (omega (arith, k.select.as_wide)) ∙ q))))))
      where
        chosen : (b : Bool) (y z : Bits) → (digit b ≡ 1 → ⊥) → pick b y z ≡ z
        chosen true y z q = absurd (q refl)
        chosen false y z q = refl

    pub equal_written : {a b w r : ℕ} {same : Bool} → Equal (widths_in exprs) e a b (expr_in exprs e) → w ≡ get_or (widths_in exprs) a 0 → same ≡ same_bytes (part values (offset (widths_in exprs) a) w) (part values (offset (widths_in exprs) b) w) → r ≡ digit same → values' ≡ set values (offset (widths_in exprs) e) r → Evaluated exprs e values values'
    unfolding over
    equal_written {a} {b} {w} {r} {same} k p q d g = written values' (λ σ vs rest v. g ∙ ap (set values (offset (widths_in exprs) e)) (d ∙ ap digit (q ∙ ap₂ same_bytes (ap (part values (offset (widths_in exprs) a)) p ∙ holds_part v a (omega (arith, k.first, own_there))) (ap (part values (offset (widths_in exprs) b)) (p ∙ sym k.second.as_wide) ∙ holds_part v b (operand_there k.second)) ∙ bytes_same (get_or vs a []) (get_or vs b []))) ∙ ap (λ (l : Bits). sets values (offset (widths_in exprs) e) (map digit l)) (sym (k.value σ vs)))

    pub product_written : {a b p q : ℕ} (r : ℕ) → Product (widths_in exprs) e a b (expr_in exprs e) → p ≡ number (map is_one (part values (offset (widths_in exprs) a) 36)) → q ≡ number (map is_one (part values (offset (widths_in exprs) b) 36)) → binary 36 r ≡ binary 36 (p * q) → values' ≡ over values (offset (widths_in exprs) e) (map digit (binary 36 r)) → Evaluated exprs e values values'
    product_written {a} {b} {p} {q} r k hp hq m g = written values' (λ σ vs rest v. g ∙ ap (λ (l : Bits). over values (offset (widths_in exprs) e) (map digit l)) (m ∙ ap₂ (λ (i j : ℕ). binary 36 (i * j)) (hp ∙ is_number k.first v) (hq ∙ is_number k.second v) ∙ sym (k.value σ vs)))
      where
        is_number : {a : ℕ} → Operand (widths_in exprs) e a 36 → {vs : List Bits} {rest : List ℕ} → Holds (widths_in exprs) vs rest values → number (map is_one (part values (offset (widths_in exprs) a) 36)) ≡ number (get_or vs a [])
        is_number {a} o {vs} v = ap (λ (l : List ℕ). number (map is_one l)) (operand_part o v) ∙ ap number (bits_back (get_or vs a []))
