-- The form of an expression, by its kind, shows its value. Assumes nothing.
use Prim.Native.Nat.{ℕ, suc, ◌+◌, ◌*◌, ◌-◌, ◌%◌, ◌≤◌, ◌<◌}
use mathlib.Core.Path.{◌≡◌, refl, sym, ◌∙◌, ap, ap₂, subst}
use mathlib.Core.Logic.{◌⊎◌, inl, inr}
use mathlib.Core.Bool.{Bool, true, false}
use mathlib.Core.List.{List, [], ◌∷◌}
use Rattle.std.specs.Prelude.{Option, None, Some}
use Rattle.std.specs.Option.{IfSome}
use Rattle.bits.proofs.Options.{none_ne_some, some_injective}
use native.Mathlib.Omega.{arith}
use native.Mathlib.Nat.{add-zero}
use native.Mathlib.Decide.{dec_lt}
use lib.ListN.{length, get_or, drop, length-take, replicate, length-replicate, get_or-append}
use lib.Seq.{get_or-take, get_or-drop, get_or-append-add}
use borrow.Author.Tests.{eq-eqb, ne_eqb}
use Rattle.bits.specs.Bits.{pick, Bits, binary, window, lowest, same, same_bits, table_bit}
use Rattle.bits.proofs.TableBits.{bit_none, bit_ones}
use Rattle.recorder.specs.Record.{Model, expr_words}
use Rattle.recorder.specs.Read.{model_of}
use Rattle.recorder.specs.Evaluate.{Signals, value_of, eval_expr}
use Rattle.simulation.specs.Run.{flat}
use Rattle.simulation.specs.Tick.{given, assigns, become}
use Rattle.simulation.specs.Index.{records_in, widths_in, offset, start_of, clipped, stmts_in, driver_by, fields_at, size_at, Indexed, Starts}
use Rattle.simulation.proofs.Flat.{Wide, flat_part}
use Rattle.simulation.proofs.Tables.{indexed_read, starts_read, entry_said, driver_right}
use Rattle.simulation.proofs.Offsets.{field_in}
use Rattle.simulation.proofs.Steps.{length_widths}
use Rattle.evaluation.specs.Bytes.{gate_of}
use Rattle.evaluation.specs.Consistent.{assigned, Consistent}
use Rattle.evaluation.specs.Ready.{expr_in, Ready, Room, model_in}
use Rattle.evaluation.proofs.Held.{wide_length, wide_at, flat_room, flat_total}
use Rattle.evaluation.proofs.ByKind.{Gate, Mux, Const, Equal, Read, is_read}
use Rattle.evaluation.proofs.Evaluating.{gate_ready, not_ready, mux_ready, const_ready, equal_ready, kind_is, count_is, own_width}
use Rattle.evaluation.proofs.Whole.{ready, expr_fits_lem, driver_there, driver_wide}
use Rattle.fusing.specs.declared.join.Lut.{Lut}
use Rattle.fusing.specs.Form.{bit_at, Form, row, form_bit, form_at, Means, Formed}
use Rattle.fusing.specs.Join.{form_of, gate_bit, Alone, Joins, bits_from, Matches}
use Rattle.fusing.specs.Finding.{Known, Entry, spot_of, Spotted, Constant, Own, Fused, Compared, Finds}
use Rattle.fusing.proofs.Joining.{row_under}

-- WORDS AND TABLES

-- what holds of a value, if there is one
pub some_to : {A : Type 0} {P Q : A → Type 0} (o : Option A) → IfSome o P → ((x : A) → P x → Q x) → IfSome o Q
some_to None h f = h
some_to (Some x) h f = f x h

pub of_some : {A : Type 0} (P : A → Type 0) (o : Option A) → IfSome o P → (x : A) → o ≡ Some x → P x
of_some P None h x e = absurd (none_ne_some x e)
of_some P (Some y) h x e = subst P (some_injective y x e) h

-- a field of the record at a word
pub field_word : (l f : List ℕ) (at j w : ℕ) → f ≡ fields_at l at (size_at l at) → w ≡ get_or f j 0 → j < length f → w ≡ get_or l (at + (j + 1)) 0
field_word l f at j w e h q = h ∙ ap (λ (r : List ℕ). get_or r j 0) e ∙ inside (dec_lt j (size_at l at - 1))
  where
    there : j < length (fields_at l at (size_at l at))
    there = subst (λ (r : List ℕ). j < length r) e q

    inside : Dec (j < size_at l at - 1) → get_or (fields_at l at (size_at l at)) j 0 ≡ get_or l (at + (j + 1)) 0
    inside (yes y) = let z : at + 1 + j ≡ at + (j + 1) = omega arith in sym (field_in l at (size_at l at) j y) ∙ ap (λ (n : ℕ). get_or l n 0) z
    inside (no n) = absurd (omega (arith, there, length-take (size_at l at - 1) (drop (at + 1) l)))

pub entry_offset : {ws table : List ℕ} {k r : ℕ} → Entry table k r → Indexed ws table → k ≤ length ws → r ≡ offset ws k
entry_offset {ws} {table} {k} {r} n i h = let e = entry_said table k r n in e.1 ∙ indexed_read i k e.0 h (omega (arith, e.1, e.2))

pub entry_start : {l table : List ℕ} {k r : ℕ} → Entry table k r → Starts l table → k < length (records_in l) → r ≡ start_of l k
entry_start {l} {table} {k} {r} n i h = let e = entry_said table k r n in e.1 ∙ starts_read i k e.0 h (omega (arith, e.1, e.2))

-- WHERE A SIGNAL'S BIT STANDS

module _ (stmts expr_table signal_table driver_table : List ℕ) (base s l : ℕ) where
  pub spot_by : (d : ℕ) → Some d ≡ driver_by stmts driver_table s → (w n : ℕ) → w ≡ d → Entry expr_table w n → (r : ℕ) → r ≡ clipped (n + l) → r < 4294967295 → Spotted stmts expr_table signal_table driver_table base s l r
  spot_by d e w n hw t r hr z = record {
    spotted = λ ew sw i j v b k g.
        let o : given assigns (stmts_in stmts) s ≡ Some d = sym (driver_right _ _ _ e v) in
        let q : w ≤ length ew = (let m = g d o in omega arith) in
        let p : n ≡ offset ew w = entry_offset t i q in
        let p' : n ≡ offset ew d = p ∙ ap (offset ew) hw in
        let y : r ≡ offset ew d + l = omega arith in
        y ∙ ap (spot_of ew sw s l) (sym o);
  }

  pub spot_kept : None ≡ driver_by stmts driver_table s → (n : ℕ) → Entry signal_table s n → (m r : ℕ) → m ≡ clipped (base + n) → r ≡ clipped (m + l) → r < 4294967295 → Spotted stmts expr_table signal_table driver_table base s l r
  spot_kept e n t m r hm hr z = record {
    spotted = λ ew sw i j v b k g.
        let o : given assigns (stmts_in stmts) s ≡ None = sym (driver_right _ _ _ e v) in
        let p : n ≡ offset sw s = entry_offset t j k in
        let y : r ≡ offset ew (length ew) + offset sw s + l = omega arith in
        y ∙ ap (spot_of ew sw s l) (sym o);
  }

-- CONSTANTS

module _ (v : ℕ) (z : Lut) where
  pub const_one : v % 2 ≡ 1 → z.table ≡ 65535 → Constant v z
  const_one h t = record { bit = λ x. ap (λ (n : ℕ). table_bit n (row x (form_of z))) t ∙ bit_ones 16 (row x (form_of z)) (row_under x (form_of z)) ∙ sym (eq-eqb (v % 2) 1 h) }

  pub const_zero : (v % 2 ≡ 1 → ⊥) → z.table ≡ 0 → Constant v z
  const_zero h t = record { bit = λ x. ap (λ (n : ℕ). table_bit n (row x (form_of z))) t ∙ bit_none (row x (form_of z)) ∙ sym (ne_eqb (v % 2) 1 h) }

-- OPERANDS

pub view_is : (forms : List ℕ) (o w t a b c d : ℕ) → w ≡ o → t ≡ get_or forms (6 * w) 0 → a ≡ get_or forms (6 * w + 2) 0 → b ≡ get_or forms (6 * w + 3) 0 → c ≡ get_or forms (6 * w + 4) 0 → d ≡ get_or forms (6 * w + 5) 0 → form_of (record { table = t; inputs = a ∷ b ∷ c ∷ d ∷ [] }) ≡ form_at forms o
view_is forms o w t a b c d hw ht ha hb hc hd = same_form ∙ ap (form_at forms) hw
  where
    same_form : form_of (record { table = t; inputs = a ∷ b ∷ c ∷ d ∷ [] }) ≡ form_at forms w
    same_form = cc

pub alone_at : (forms : List ℕ) (o w p : ℕ) (z : Lut) → w ≡ o → p ≡ get_or forms (6 * w + 1) 0 → Alone p z → Alone (get_or forms (6 * o + 1) 0) z
alone_at forms o w p z hw hp a = subst (λ (n : ℕ). Alone n z) (hp ∙ ap (λ (n : ℕ). get_or forms (6 * n + 1) 0) hw) a

gate_same : (kind : ℕ) {a b c a' b' c' : Bool} → a ≡ a' → b ≡ b' → c ≡ c' → gate_bit kind a b c ≡ gate_bit kind a' b' c'
gate_same kind {a} {b} {c} {a'} {b'} {c'} ha hb hc = ap₂ (λ (x y : Bool). gate_bit kind x y c) ha hb ∙ ap (gate_bit kind a' b') hc

module _ (forms : List ℕ) (kind a b c : ℕ) (p q r z : Lut) (hp : form_of p ≡ form_at forms a) (hq : form_of q ≡ form_at forms b) (hr : form_of r ≡ form_at forms c) (sp : p.table < 65536) (sq : q.table < 65536) (sr : r.table < 65536) where
  formed : (o : ℕ) (v : Lut) → form_of v ≡ form_at forms o → v.table < 65536 → get_or forms (6 * o) 0 < 65536
  formed o v h s = let e : v.table ≡ get_or forms (6 * o) 0 = ap (λ (f : Form). f.table) h in omega arith

  -- of the operands' forms
  pub fused_forms : Joins kind p q r z → Fused forms kind a b c z
  fused_forms j = record {
    first = formed a p hp sp;
    second = formed b q hq sq;
    third = formed c r hr sr;
    shows = λ x oa ob oc. j.joins x ∙ gate_same kind (ap (form_bit x) hp) (ap (form_bit x) hq) (ap (form_bit x) hr);
  }

  -- of the operands' values
  pub fused_values : (u v w : Lut) → Alone (get_or forms (6 * a + 1) 0) u → Alone (get_or forms (6 * b + 1) 0) v → Alone (get_or forms (6 * c + 1) 0) w → Joins kind u v w z → Fused forms kind a b c z
  fused_values u v w hu hv hw j = record {
    first = formed a p hp sp;
    second = formed b q hq sq;
    third = formed c r hr sr;
    shows = λ x oa ob oc. j.joins x ∙ gate_same kind (hu.alone x ∙ oa) (hv.alone x ∙ ob) (hw.alone x ∙ oc);
  }

-- COMPARISONS WITH A CONSTANT

pub is_compared : (exprs starts expr_table : List ℕ) (a b : ℕ) (z : Lut) (i begin at o own w v : ℕ) → i ≡ b → Entry starts i begin → at ≡ begin → 0 ≡ get_or exprs (at + 1) 0 → o ≡ a → Entry expr_table o own → w ≡ get_or exprs (at + 2) 0 → v ≡ get_or exprs (at + 3) 0 → Matches w v own z → Compared exprs starts expr_table a b z
is_compared exprs starts expr_table a b z i begin at o own w v hi n ht hk ho t hw hv g = record {
  begin = at;
  begins = subst (λ (m : ℕ). Entry starts m at) hi (subst (λ (m : ℕ). Entry starts i m) (sym ht) n);
  constant = sym hk;
  own = own;
  owned = subst (λ (m : ℕ). Entry expr_table m own) ho t;
  matches = subst (λ (m : ℕ). Matches m (get_or exprs (at + 3) 0) own z) hw (subst (λ (m : ℕ). Matches w m own z) hv g);
}

-- THE BIT AT A POSITION

bits_from_lem : (x : ℕ → Bool) (v : Bits) (p : ℕ) → ((l : ℕ) → l < length v → x (p + l) ≡ get_or v l false) → v ≡ bits_from x p (length v)
bits_from_lem x [] p h = refl
bits_from_lem x (b ∷ v) p h =
    let first : b ≡ x p = sym (ap x (sym (add-zero p)) ∙ h 0 (omega arith)) in
    let others : v ≡ bits_from x (suc p) (length v) = bits_from_lem x v (suc p) (λ l q. let e : suc p + l ≡ p + suc l = omega arith in ap x e ∙ h (suc l) (omega arith)) in
    ap₂ (λ (c : Bool) (cs : Bits). c ∷ cs) first others

flat_at : (ws : List ℕ) (vs : List Bits) → Wide ws vs → (i l : ℕ) → i < length ws → l < get_or ws i 0 → get_or (flat vs) (offset ws i + l) false ≡ get_or (get_or vs i []) l false
flat_at ws vs h i l q k =
    sym (get_or-drop (offset ws i) (flat vs) l false)
    ∙ sym (get_or-take (get_or ws i 0) (drop (offset ws i) (flat vs)) l false k)
    ∙ ap (λ (v : Bits). get_or v l false) (flat_part ws vs h i (omega (arith, wide_length ws vs h)))

module _ (ew : List ℕ) (vs old : List Bits) (h : Wide ew vs) where
  -- of an expression
  pub at_value : (i l : ℕ) → i < length ew → l < get_or ew i 0 → bit_at vs old (offset ew i + l) ≡ get_or (get_or vs i []) l false
  at_value i l q k = get_or-append (flat vs) (flat old) false (offset ew i + l) (omega (arith, flat_room ew vs h i (omega (arith, wide_length ew vs h)))) ∙ flat_at ew vs h i l q k

  pub at_first : (i : ℕ) → i < length ew → 0 < get_or ew i 0 → bit_at vs old (offset ew i) ≡ lowest (get_or vs i [])
  at_first i q k = ap (bit_at vs old) (sym (add-zero (offset ew i))) ∙ at_value i 0 q k

  -- of a signal
  pub at_signal : (sw : List ℕ) → Wide sw old → (s l : ℕ) → s < length sw → l < get_or sw s 0 → bit_at vs old (offset ew (length ew) + offset sw s + l) ≡ get_or (get_or old s []) l false
  at_signal sw w s l q k =
      let e : offset ew (length ew) + offset sw s + l ≡ length (flat vs) + (offset sw s + l) = omega (arith, flat_total ew vs h) in
      ap (bit_at vs old) e ∙ get_or-append-add (flat vs) (flat old) (offset sw s + l) false ∙ flat_at sw old w s l q k

-- AN EXPRESSION OF A MODEL

gate_alike : (kind : ℕ) (p q r : Bool) → (kind ≡ 7 → ⊥) → (kind ≡ 8 → ⊥) → gate_of kind p q ≡ gate_bit kind p q r
gate_alike kind p q r h7 h8 = rw (ne_eqb kind 7 h7, ne_eqb kind 8 h8)

pick_alike : (x y w : Bool) → pick x (y ∷ []) (w ∷ []) ≡ pick x y w ∷ []
pick_alike true y w = refl
pick_alike false y w = refl

same_alike : (x y : Bool) → same_bits (x ∷ []) (y ∷ []) ≡ same x y
same_alike true true = refl
same_alike true false = refl
same_alike false true = refl
same_alike false false = refl

module _ {signals exprs stmts starts expr_table signal_table driver_table : List ℕ} (k : Known signals exprs stmts starts expr_table signal_table driver_table) {e : ℕ} (q : e < length (records_in exprs)) where
  abbrev m : Model
  m = model_in signals exprs stmts

  abbrev ew : List ℕ
  ew = widths_in exprs

  abbrev sw : List ℕ
  sw = widths_in signals

  -- bytes and values of just the room that is needed
  abbrev bytes : List ℕ
  bytes = replicate (offset (widths_in signals) (length (records_in signals))) 0

  abbrev values : List ℕ
  values = replicate (offset (widths_in exprs) (length (records_in exprs))) 0

  some_room : Room signals exprs bytes values
  some_room = record {
    bytes_room = omega (arith, length-replicate {A = ℕ} (offset (widths_in signals) (length (records_in signals))) 0);
    values_room = omega (arith, length-replicate {A = ℕ} (offset (widths_in exprs) (length (records_in exprs))) 0);
  }

  own_value : (old vs : List Bits) → Wide (widths_in exprs) vs → Consistent (model_in signals exprs stmts) old vs → eval_expr (assigned (model_in signals exprs stmts) old vs) vs (expr_in exprs e) ≡ get_or vs e []
  unfolding model_of
  own_value old vs w c = c.right e (omega (arith, c.each, wide_length ew vs w, length_widths exprs))

  module _ (forms : List ℕ) (f : Formed signals exprs stmts forms e) (old vs : List Bits) (wo : Wide (widths_in signals) old) (wv : Wide (widths_in exprs) vs) (c : Consistent (model_in signals exprs stmts) old vs) where
    module _ (o : ℕ) (lt : o < e) (t : get_or forms (6 * o) 0 < 65536) where
      operand_value : get_or vs o [] ≡ form_bit (bit_at vs old) (form_at forms o) ∷ []
      operand_value = (f.formed o lt t).means old vs wo wv c

      operand_own : Own (bit_at vs old) forms o
      operand_own =
          let there : o < length ew = omega (arith, length_widths exprs) in
          let wide : length (get_or vs o []) ≡ get_or ew o 0 = wide_at ew vs wv o (omega (arith, wide_length ew vs wv)) in
          let one : length (get_or vs o []) ≡ 1 = ap length operand_value in
          ap (bit_at vs old) (f.own_position o lt t) ∙ at_first ew vs old wv o there (omega arith) ∙ ap lowest operand_value

  -- a gate of formed operands
  fused_means : (forms : List ℕ) (kind a b c : ℕ) (z : Lut) → a < e → b < e → c < e → Fused forms kind a b c z → ((σ : Signals) (vs : List Bits) (x y w : Bool) → get_or vs a [] ≡ x ∷ [] → get_or vs b [] ≡ y ∷ [] → get_or vs c [] ≡ w ∷ [] → eval_expr σ vs (expr_in exprs e) ≡ gate_bit kind x y w ∷ []) → Finds signals exprs stmts forms e z
  fused_means forms kind a b c z la lb lc u value = record {
    finds = λ f.
        record {
          means = λ old vs wo wv con.
              sym (own_value old vs wv con)
              ∙ value (assigned m old vs) vs _ _ _ (operand_value forms f old vs wo wv con a la u.first) (operand_value forms f old vs wo wv con b lb u.second) (operand_value forms f old vs wo wv con c lc u.third)
              ∙ ap (λ (y : Bool). y ∷ []) (sym (u.shows (bit_at vs old) (operand_own forms f old vs wo wv con a la u.first) (operand_own forms f old vs wo wv con b lb u.second) (operand_own forms f old vs wo wv con c lc u.third)));
        };
  }

  pub begins : (r w : ℕ) → Entry starts e r → w ≡ r → w ≡ start_of exprs e
  begins r w n h = h ∙ entry_start n k.started q

  module _ {at : ℕ} (b : at ≡ start_of exprs e) where
    rd : Ready exprs expr_table values at e
    rd = ready k.prepared q {bytes = bytes} {values = values} some_room b

    abbrev word : ℕ → ℕ
    word j = get_or exprs (at + j) 0

    -- BY KIND

    pub finds_const : (forms : List ℕ) (z : Lut) → 0 ≡ get_or exprs (at + 1) 0 → 1 ≡ get_or exprs (at + 2) 0 → (v : ℕ) → v ≡ get_or exprs (at + 3) 0 → Constant v z → Finds signals exprs stmts forms e z
    finds_const forms z kd one v hv u = record {
      finds = λ f.
          record {
            means = λ old vs wo wv con.
                sym (own_value old vs wv con)
                ∙ (const_ready rd (sym kd)).0.value (assigned m old vs) vs
                ∙ ap₂ (λ (n w : ℕ). binary n w) (sym one) (sym hv)
                ∙ ap (λ (y : Bool). y ∷ []) (sym (u.bit (bit_at vs old)));
          };
    }

    module _ (forms : List ℕ) (z : Lut) where
      pub finds_not : (kind : ℕ) → kind ≡ get_or exprs (at + 1) 0 → kind ≡ 3 → (a : ℕ) → a ≡ get_or exprs (at + 3) 0 → Fused forms kind a a a z → Finds signals exprs stmts forms e z
      finds_not kind kd k3 a ha g =
          let r : Gate ew e 3 a a (expr_in exprs e) = subst (λ (n : ℕ). Gate ew e 3 n n (expr_in exprs e)) (sym ha) (not_ready rd (sym kd ∙ k3)).0 in
          fused_means forms kind a a a z r.first.before_it r.first.before_it r.first.before_it g
          (λ σ vs x y w hx hy hw. r.value σ vs ∙ ap (λ (v : Bits). gate_of 3 (lowest v) (lowest v) ∷ []) hx ∙ ap (λ (n : ℕ). gate_bit n x y w ∷ []) (sym k3))

      pub finds_gate : (kind : ℕ) → kind ≡ get_or exprs (at + 1) 0 → 4 ≤ kind → kind ≤ 6 → (a i : ℕ) → a ≡ get_or exprs (at + 3) 0 → i ≡ get_or exprs (at + 4) 0 → Fused forms kind a i i z → Finds signals exprs stmts forms e z
      finds_gate kind kd lo hi a i ha hi' g =
          let r : Gate ew e kind a i (expr_in exprs e) = subst (λ (n : ℕ). Gate ew e kind n i (expr_in exprs e)) (sym ha) (subst (λ (n : ℕ). Gate ew e kind (word 3) n (expr_in exprs e)) (sym hi') (gate_ready rd kd lo hi).0) in
          fused_means forms kind a i i z r.first.before_it r.second.before_it r.second.before_it g
          (λ σ vs x y w hx hy hw. r.value σ vs ∙ ap₂ (λ (u v : Bits). gate_of kind (lowest u) (lowest v) ∷ []) hx hy ∙ ap (λ (v : Bool). v ∷ []) (gate_alike kind x y w (λ h. omega arith) (λ h. omega arith)))

      -- a comparison by the operands' forms
      forms_equal : (a i : ℕ) → Equal (widths_in exprs) e a i (expr_in exprs e) → Fused forms 8 a i i z → Finds signals exprs stmts forms e z
      forms_equal a i r u =
          fused_means forms 8 a i i z r.first r.second.before_it r.second.before_it u
          (λ σ vs x y w hx hy hw. r.value σ vs ∙ ap₂ (λ (u v : Bits). same_bits u v ∷ []) hx hy ∙ ap (λ (v : Bool). v ∷ []) (same_alike x y))

      pub finds_mux : (kind : ℕ) → kind ≡ get_or exprs (at + 1) 0 → kind ≡ 7 → (a i j : ℕ) → a ≡ get_or exprs (at + 3) 0 → i ≡ get_or exprs (at + 4) 0 → j ≡ get_or exprs (at + 5) 0 → Fused forms kind a i j z → Finds signals exprs stmts forms e z
      finds_mux kind kd k7 a i j ha hi' hj g =
          let r : Mux ew e (word 2) a i j (expr_in exprs e) = subst (λ (n : ℕ). Mux ew e (word 2) n i j (expr_in exprs e)) (sym ha) (subst (λ (n : ℕ). Mux ew e (word 2) (word 3) n j (expr_in exprs e)) (sym hi') (subst (λ (n : ℕ). Mux ew e (word 2) (word 3) (word 4) n (expr_in exprs e)) (sym hj) (mux_ready rd (sym kd ∙ k7)).0)) in
          fused_means forms kind a i j z r.select.before_it r.if_one.before_it r.if_zero.before_it g
          (λ σ vs x y w hx hy hw. r.value σ vs ∙ ap₂ (λ (u v : Bits). pick (lowest u) v (value_of vs j)) hx hy ∙ ap (λ (v : Bits). pick x (y ∷ []) v) hw ∙ pick_alike x y w ∙ ap (λ (n : ℕ). gate_bit n x y w ∷ []) (sym k7))

    -- A READ

    module _ (forms : List ℕ) (z : Lut) (base : ℕ) (hb : base ≡ clipped (offset (widths_in exprs) (length (records_in exprs)))) (kind : ℕ) (kd : kind ≡ get_or exprs (at + 1) 0) (k1 : kind ≡ 1) where
      words_five : 5 ≤ length (expr_words (expr_in exprs e))
      words_five = count_is rd (sym k1 ∙ kd)

      reading : Read (widths_in signals) (get_or exprs (at + 2) 0) (get_or exprs (at + 3) 0) (get_or exprs (at + 4) 0) (expr_in exprs e)
      reading =
          subst (λ (n : ℕ). Read sw n (word 3) (word 4) (expr_in exprs e)) (sym (rd.words 2 (omega (arith, words_five))))
          (subst (λ (n : ℕ). Read sw (get_or (expr_words (expr_in exprs e)) 2 0) n (word 4) (expr_in exprs e)) (sym (rd.words 3 (omega (arith, words_five))))
          (subst (λ (n : ℕ). Read sw (get_or (expr_words (expr_in exprs e)) 2 0) (get_or (expr_words (expr_in exprs e)) 3 0) n (expr_in exprs e)) (sym (rd.words 4 words_five))
          (is_read k.prepared.widest sw ew e (expr_in exprs e) (expr_fits_lem k.prepared q) (sym (kind_is rd (sym k1 ∙ kd))))))

      abbrev s : ℕ
      s = get_or exprs (at + 3) 0

      abbrev l : ℕ
      l = get_or exprs (at + 4) 0

      abbrev choice : Option ℕ
      choice = given assigns (stmts_in stmts) (get_or exprs (at + 3) 0)

      module _ (one : get_or exprs (at + 2) 0 ≡ 1) (old vs : List Bits) (wo : Wide (widths_in signals) old) (wv : Wide (widths_in exprs) vs) where
        spot_bit : (o : Option ℕ) → given assigns (stmts_in stmts) (get_or exprs (at + 3) 0) ≡ o → get_or (become vs o (get_or old (get_or exprs (at + 3) 0) [])) (get_or exprs (at + 4) 0) false ≡ bit_at vs old (spot_of (widths_in exprs) (widths_in signals) (get_or exprs (at + 3) 0) (get_or exprs (at + 4) 0) o)
        spot_bit None h = sym (at_signal ew vs old wv sw wo s l reading.there (omega (arith, reading.inside)))
        spot_bit (Some d) h = sym (at_value ew vs old wv d l (driver_there k.prepared s h) (omega (arith, reading.inside, driver_wide k.prepared s h)))

      pub finds_read : 1 ≡ get_or exprs (at + 2) 0 → (v l p : ℕ) → v ≡ get_or exprs (at + 3) 0 → l ≡ get_or exprs (at + 4) 0 → (i : ℕ) → i ≡ v → Spotted stmts expr_table signal_table driver_table base i l p → Alone p z → Finds signals exprs stmts forms e z
      unfolding model_of
      finds_read hone v l' p hv hl i hi u a = record {
        finds = λ f.
            let one : get_or exprs (at + 2) 0 ≡ 1 = sym hone in
            let there : get_or exprs (at + 3) 0 ≤ length sw = omega (arith, reading.there) in
            let based : base ≡ clipped (offset ew (length ew)) = hb ∙ ap (λ (n : ℕ). clipped (offset ew n)) (sym (length_widths exprs)) in
            let placed : Spotted stmts expr_table signal_table driver_table base s l p = subst (λ (n : ℕ). Spotted stmts expr_table signal_table driver_table base n l p) (hi ∙ hv) (subst (λ (n : ℕ). Spotted stmts expr_table signal_table driver_table base i n p) hl u) in
            let spot_is : p ≡ spot_of ew sw s l choice = placed.spotted ew sw k.prepared.expr_offsets k.prepared.signal_offsets k.driven based there (λ d h. let x = driver_there k.prepared s h in omega arith) in
            record {
              means = λ old vs wo wv con.
                  sym (own_value old vs wv con)
                  ∙ reading.value (assigned m old vs) vs
                  ∙ ap (window (assigned m old vs s) l) one
                  ∙ ap (λ (y : Bool). y ∷ []) (spot_bit one old vs wo wv choice refl ∙ ap (bit_at vs old) (sym spot_is) ∙ sym (a.alone (bit_at vs old)));
            };
      }

-- A COMPARISON

module _ {signals exprs stmts starts expr_table signal_table driver_table : List ℕ} (k : Known signals exprs stmts starts expr_table signal_table driver_table) {e : ℕ} (q : e < length (records_in exprs)) where
  -- with a constant
  module _ {a i : ℕ} {z : Lut} (r : Equal (widths_in exprs) e a i (expr_in exprs e)) (u : Compared exprs starts expr_table a i z) where
    constant_there : i < length (records_in exprs)
    constant_there = omega (arith, r.second.before_it)

    other_there : a < length (widths_in exprs)
    other_there = omega (arith, r.first, length_widths exprs)

    starts_at : u.begin ≡ start_of exprs i
    starts_at = entry_start u.begins k.started constant_there

    constant : Const (get_or exprs (u.begin + 2) 0) (get_or exprs (u.begin + 3) 0) (expr_in exprs i)
    constant = (const_ready (rd k constant_there starts_at) u.constant).0

    wide : get_or (widths_in exprs) a 0 ≡ get_or exprs (u.begin + 2) 0
    wide = sym r.second.as_wide ∙ own_width (rd k constant_there starts_at) ∙ constant.is_wide

    stands : u.own ≡ offset (widths_in exprs) a
    stands = entry_offset u.owned k.prepared.expr_offsets (omega (arith, other_there))

    other_bits : (old vs : List Bits) → Wide (widths_in exprs) vs → get_or vs a [] ≡ bits_from (bit_at vs old) u.own (get_or exprs (u.begin + 2) 0)
    other_bits old vs wv =
        let long : length (get_or vs a []) ≡ get_or (widths_in exprs) a 0 = wide_at (widths_in exprs) vs wv a (omega (arith, wide_length (widths_in exprs) vs wv, other_there)) in
        bits_from_lem (bit_at vs old) (get_or vs a []) u.own (λ l h. ap (λ (n : ℕ). bit_at vs old (n + l)) stands ∙ at_value (widths_in exprs) vs old wv a l other_there (omega arith))
        ∙ ap (bits_from (bit_at vs old) u.own) (long ∙ wide)

    constant_equal : Means signals exprs stmts e (form_of z)
    constant_equal = record {
      means = λ old vs wo wv con.
          sym (own_value k q old vs wv con)
          ∙ r.value (assigned (model_in signals exprs stmts) old vs) vs
          ∙ ap₂ (λ (x y : Bits). same_bits x y ∷ []) (other_bits old vs wv) (sym (own_value k constant_there old vs wv con) ∙ constant.value (assigned (model_in signals exprs stmts) old vs) vs)
          ∙ ap (λ (y : Bool). y ∷ []) (sym (u.matches.matches (bit_at vs old)));
    }

  pub finds_equal : {at : ℕ} → at ≡ start_of exprs e → (forms : List ℕ) (z : Lut) (kind : ℕ) → kind ≡ get_or exprs (at + 1) 0 → kind ≡ 8 → (a i : ℕ) → a ≡ get_or exprs (at + 3) 0 → i ≡ get_or exprs (at + 4) 0 → Fused forms 8 a i i z ⊎ Compared exprs starts expr_table a i z → Finds signals exprs stmts forms e z
  finds_equal {at} b forms z kind kd k8 a i ha hi g = record { finds = λ f. go f g }
    where
      r : Equal (widths_in exprs) e a i (expr_in exprs e)
      r = subst (λ (n : ℕ). Equal (widths_in exprs) e n i (expr_in exprs e)) (sym ha) (subst (λ (n : ℕ). Equal (widths_in exprs) e (get_or exprs (at + 3) 0) n (expr_in exprs e)) (sym hi) (equal_ready (rd k q b) (sym kd ∙ k8)).0)

      go : Formed signals exprs stmts forms e → Fused forms 8 a i i z ⊎ Compared exprs starts expr_table a i z → Means signals exprs stmts e (form_of z)
      go f (inl u) = (forms_equal k q b forms z a i r u).finds f
      go f (inr u) = constant_equal r u
