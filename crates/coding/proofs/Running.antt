-- Along right code every code word gets the value that it has in the settled model. Assumes nothing.
use Prim.Native.Nat.{ℕ, zero, suc, ◌+◌, ◌-◌, ◌*◌, ◌/◌, ◌%◌, ◌^◌, ◌≤◌, ◌<◌}
use mathlib.Core.Path.{◌≡◌, refl, sym, ◌∙◌, ap, ap₂, subst}
use mathlib.Core.Logic.{◌⊎◌, inl, inr}
use mathlib.Core.Bool.{Bool, true, false, ◌&&◌}
use mathlib.Core.List.{List, [], ◌∷◌, ◌++◌, map, append_assoc}
use Rattle.std.specs.Prelude.{None}
use native.Mathlib.Omega.{arith}
use native.Mathlib.Nat.{not-suc-le-zero}
use native.Mathlib.Decide.{ℕ_discrete}
use lib.Dec.{eqb, leb, ltb}
use borrow.Author.Tests.{leb-true}
use Rattle.settle.specs.Tests.{and_left}
use lib.ListN.{length, get_or, take, drop, set, length-set, length-append, length-map, get_or-append, get_or-map}
use lib.Seq.{sets, sets-eq, take_at, get_or-append-add, get_or-set_same, get_or-set_other, get_or-drop, get_or-take}
use Rattle.bits.specs.Bits.{Bits, digit, table_bit}
use Rattle.recorder.specs.Record.{Expr, Model}
use Rattle.recorder.specs.Record.{const, read, concat, not, and, or, xor, mux, eq, mul}
use Rattle.recorder.specs.Lists.{lists, over}
use Rattle.simulation.specs.Tick.{values_in, settle, looped}
use Rattle.simulation.specs.Wellformed.{wide, in_range, earlier, width_sum, expr_fits}
use Rattle.simulation.specs.Run.{flat, expr_width}
use Rattle.simulation.proofs.Sound.{expr_width_lem}
use Rattle.simulation.specs.Index.{records_in, widths_in, offset}
use Rattle.simulation.proofs.Flat.{Wide, flat_part}
use Rattle.simulation.proofs.Steps.{length_widths, width_of}
use Rattle.simulation.proofs.Bounds.{values_width}
use Rattle.simulation.proofs.Found.{exprs_count, signals_count}
use Rattle.settle.specs.Table.{at}
use Rattle.recorder.proofs.Makes.{length_all}
use Rattle.evaluation.specs.Bytes.{part, Holds}
use Rattle.evaluation.specs.Consistent.{Consistent}
use Rattle.evaluation.specs.Ready.{expr_in, model_in, Prepared, Room, Computed}
use Rattle.evaluation.specs.Ticks.{Filled}
use Rattle.evaluation.proofs.Held.{wide_length, wide_at, flat_total, holds_length, holds_set, map_append}
use Rattle.evaluation.proofs.Consistent.{same_computed, settled_consistent}
use Rattle.evaluation.proofs.Whole.{is_sound, exprs_wide, expr_reads, expr_fits_lem}
use Rattle.evaluation.proofs.Evaluating.{offset_before}
use Rattle.fusing.specs.Form.{bit_at}
use Rattle.evaluation.specs.Late.{Among}
use Rattle.coding.specs.Coded.{bits_in, Within, Known, Computable, Coded, SettlesCode, looked, looked_up}

-- ONE LOOK INTO A TABLE

looked_bit : (t : ℕ) (a b c d : Bool) → looked t (digit a) (digit b) (digit c) (digit d) ≡ digit (table_bit t (digit a + 2 * digit b + 4 * digit c + 8 * digit d))
looked_bit t a b c d = ap (λ (i : ℕ). t / 2 ^ i % 2) (small a b c d) ∙ one (t / 2 ^ (digit a + 2 * digit b + 4 * digit c + 8 * digit d) % 2) (omega arith)
  where
    under : (x : Bool) → digit x ≤ 1
    under true = omega arith
    under false = omega arith

    small : (a b c d : Bool) → (digit a + 2 * digit b + 4 * digit c + 8 * digit d) % 16 ≡ digit a + 2 * digit b + 4 * digit c + 8 * digit d
    small a b c d = omega (arith, under a, under b, under c, under d)

    one : (n : ℕ) → n < 2 → n ≡ digit (eqb n 1)
    one zero h = refl
    one (suc zero) h = refl
    one (suc (suc n)) h = absurd (omega arith)

pub five : {A : Type 0} (f : ℕ → ℕ → ℕ → ℕ → ℕ → A) {t u a a' b b' c c' d d' : ℕ} → t ≡ u → a ≡ a' → b ≡ b' → c ≡ c' → d ≡ d' → f t a b c d ≡ f u a' b' c' d'
five f p q r s z = cc

-- THE WIDTH OF AN EXPRESSION IS NOT ZERO

range_some : (widest w : ℕ) → in_range widest w ≡ true → 0 < w
range_some widest w h = leb-true 1 w (and_left (leb 1 w) (leb w widest) h)

fits_some : (widest : ℕ) (sw ew : List ℕ) (n : ℕ) (x : Expr) → expr_fits widest sw ew n x ≡ true → 0 < expr_width x
fits_some widest sw ew n (const w v) h = range_some widest w (and_left (in_range widest w) (ltb v (2 ^ w)) h)
fits_some widest sw ew n (read w s l) h = range_some widest w (and_left (in_range widest w) (ltb s (length sw)) (and_left (in_range widest w && ltb s (length sw)) (leb (l + w) (get_or sw s 0)) h))
fits_some widest sw ew n (concat w ps) h = range_some widest w (and_left (in_range widest w) (earlier n ps) (and_left (in_range widest w && earlier n ps) (eqb (width_sum ew ps) w) h))
fits_some widest sw ew n (not a) h = omega arith
fits_some widest sw ew n (and a b) h = omega arith
fits_some widest sw ew n (or a b) h = omega arith
fits_some widest sw ew n (xor a b) h = omega arith
fits_some widest sw ew n (mux w s t f) h =
    let a : Bool = in_range widest w && wide ew n s 1 in
    range_some widest w (and_left (in_range widest w) (wide ew n s 1) (and_left (in_range widest w && wide ew n s 1) (wide ew n t w) (and_left (in_range widest w && wide ew n s 1 && wide ew n t w) (wide ew n f w) h)))
fits_some widest sw ew n (eq a b) h = omega arith
fits_some widest sw ew n (mul a b) h = omega arith

pub some_width : {signals exprs stmts expr_table signal_table : List ℕ} (p : Prepared signals exprs stmts expr_table signal_table) {e : ℕ} → e < length (records_in exprs) → 0 < get_or (widths_in exprs) e 0
some_width {signals} {exprs} p {e} q =
    let w : get_or (widths_in exprs) e 0 ≡ expr_width (expr_in exprs e) = width_of exprs e ∙ expr_width_lem (get_or (records_in exprs) e []) (expr_in exprs e) (expr_reads p q) in
    omega (arith, w, fits_some p.widest (widths_in signals) (widths_in exprs) e (expr_in exprs e) (expr_fits_lem p q))

-- THE BIT AT A POSITION

wide_from : (ws : List ℕ) (vs : List Bits) → length vs ≡ length ws → ((i : ℕ) → i < length ws → length (get_or vs i []) ≡ get_or ws i 0) → Wide ws vs
wide_from [] [] l h = tt
wide_from [] (v ∷ vs) l h = absurd (omega arith)
wide_from (w ∷ ws) [] l h = absurd (omega arith)
wide_from (w ∷ ws) (v ∷ vs) l h = (h 0 (omega arith), wide_from ws vs (omega arith) (λ i q. h (suc i) (omega arith)))

flat_bits : (exprs : List ℕ) (vs : List Bits) → Wide (widths_in exprs) vs → length (flat vs) ≡ bits_in exprs
flat_bits exprs vs w = flat_total (widths_in exprs) vs w ∙ ap (offset (widths_in exprs)) (length_widths exprs)

-- that of a signal
bit_behind : (exprs : List ℕ) (vs old : List Bits) → Wide (widths_in exprs) vs → (p : ℕ) → bits_in exprs ≤ p → bit_at vs old p ≡ get_or (flat old) (p - bits_in exprs) false
bit_behind exprs vs old w p h =
    let e : p ≡ length (flat vs) + (p - bits_in exprs) = omega (arith, flat_bits exprs vs w) in
    ap (λ (i : ℕ). get_or (flat vs ++ flat old) i false) e ∙ get_or-append-add (flat vs) (flat old) (p - bits_in exprs) false

within_under : (exprs : List ℕ) (d p : ℕ) → Within exprs d p → p < bits_in exprs
within_under exprs d p h = omega (arith, h.2, offset_before (widths_in exprs) d (length (records_in exprs)) h.0)

-- that of an expression
bit_within : (exprs : List ℕ) (vs old : List Bits) → Wide (widths_in exprs) vs → (d p : ℕ) → Within exprs d p → bit_at vs old p ≡ get_or (get_or vs d []) (p - offset (widths_in exprs) d) false
bit_within exprs vs old w d p h =
    get_or-append (flat vs) (flat old) false p (omega (arith, within_under exprs d p h, flat_bits exprs vs w))
    ∙ ap (λ (i : ℕ). get_or (flat vs) i false) e
    ∙ sym (get_or-drop (offset ws d) (flat vs) (p - offset ws d) false)
    ∙ sym (get_or-take (get_or ws d 0) (drop (offset ws d) (flat vs)) (p - offset ws d) false (omega (arith, h.1, h.2)))
    ∙ ap (λ (l : Bits). get_or l (p - offset ws d) false) (flat_part ws vs w d (omega (arith, h.0, wide_length ws vs w, length_widths exprs)))
  where
    ws : List ℕ
    ws = widths_in exprs

    e : p ≡ offset (widths_in exprs) d + (p - offset (widths_in exprs) d)
    e = omega (arith, h.1)

module _ (signals exprs : List ℕ) (S : ℕ → Type 0) where
  known_inside : (p : ℕ) → Known signals exprs S p → p < bits_in exprs + bits_in signals
  known_inside p (inl h) = h.1
  known_inside p (inr h) = omega (arith, within_under exprs h.0 p h.2)

  -- values that agree on S agree on the bit
  known_bit : (vs us old : List Bits) → Wide (widths_in exprs) vs → Wide (widths_in exprs) us → ((d : ℕ) → S d → get_or vs d [] ≡ get_or us d []) → (p : ℕ) → Known signals exprs S p → bit_at vs old p ≡ bit_at us old p
  known_bit vs us old v u g p (inl h) = bit_behind exprs vs old v p h.0 ∙ sym (bit_behind exprs us old u p h.0)
  known_bit vs us old v u g p (inr h) =
      bit_within exprs vs old v h.0 p h.2
      ∙ ap (λ (l : Bits). get_or l (p - offset (widths_in exprs) h.0) false) (g h.0 h.1)
      ∙ sym (bit_within exprs us old u h.0 p h.2)

-- its byte
byte_at : (signals exprs : List ℕ) (vs old : List Bits) (rest values : List ℕ) → Holds (widths_in exprs) vs (map digit (flat old) ++ rest) values → Wide (widths_in signals) old → (p : ℕ) → p < bits_in exprs + bits_in signals → get_or values p 0 ≡ digit (bit_at vs old p)
byte_at signals exprs vs old rest values h w p q =
    ap (λ (l : List ℕ). get_or l p 0) (h.begin ∙ sym (append_assoc (map digit (flat vs)) (map digit (flat old)) rest) ∙ ap (λ (l : List ℕ). l ++ rest) (sym (map_append digit (flat vs) (flat old))))
    ∙ get_or-append (map digit (flat vs ++ flat old)) rest 0 p (omega (arith, length-map (flat vs ++ flat old) digit, length-append (flat vs) (flat old), flat_bits exprs vs h.wide, flat_bits signals old w))
    ∙ get_or-map digit (flat vs ++ flat old) p false

-- ALONG THE CODE

module _ (signals exprs stmts : List ℕ) where
  -- the values of the settled model
  abbrev Settle : List Bits → List Bits
  Settle old = values_in (model_in signals exprs stmts) (settle (model_in signals exprs stmts) old)

  -- the signals stand behind the values, and the first j code words have theirs
  pub record Running (from k : ℕ) (order bytes values₀ values : List ℕ) (j : ℕ) : Type 0 where
    pub within : j ≤ k
    pub values_long : length values ≡ length values₀
    pub so_far : (old : List Bits) (behind : List ℕ) → Holds (widths_in signals) old behind bytes → (vs : List Bits) × (rest : List ℕ) × Holds (widths_in exprs) vs (map digit (flat old) ++ rest) values × ((e : ℕ) → Among order from j e → get_or vs e [] ≡ get_or (Settle old) e [])

-- the first j + 1 code words
pub code_more : {order : List ℕ} {from j e : ℕ} → e ≡ get_or order (from + j) 0 → (x : ℕ) → Among order from (j + 1) x → (x ≡ e) ⊎ Among order from j x
code_more {order} {from} {j} {e} h x t = go (ℕ_discrete t.place j)
  where
    go : Dec (t.place ≡ j) → (x ≡ e) ⊎ Among order from j x
    go (yes z) = inl (sym t.stands ∙ ap (λ (i : ℕ). get_or order (from + i) 0) z ∙ sym h)
    go (no z) = inr (record { place = t.place; before = omega (arith, t.before, z); stands = t.stands })

-- the words of a form
form_word : (n : ℕ) (order : List ℕ) (at e i : ℕ) → at ≡ n + 6 * e → get_or (drop n order) (6 * e + i) 0 ≡ get_or order (at + i) 0
form_word n order at e i h =
    let z : n + (6 * e + i) ≡ at + i = omega arith in
    get_or-drop n order (6 * e + i) 0 ∙ ap (λ (j : ℕ). get_or order j 0) z

module _ {signals exprs stmts expr_table signal_table : List ℕ} (p : Prepared signals exprs stmts expr_table signal_table) where
  abbrev m : Model
  m = model_in signals exprs stmts

  exprs_are : length (model_in signals exprs stmts).exprs ≡ length (records_in exprs)
  exprs_are = exprs_count p.widest (lists signals exprs stmts) p.faultless

  settled_wide : (old : List Bits) → Wide (widths_in exprs) (values_in (model_in signals exprs stmts) (settle (model_in signals exprs stmts) old))
  settled_wide old = wide_from (widths_in exprs) (values_in m (settle m old)) (omega (arith, length_all (at [] (settle m old)) m.exprs [], exprs_are, length_widths exprs)) (λ i q. values_width p.widest m (is_sound p) (at [] (settle m old)) i (omega (arith, exprs_are, length_widths exprs)) ∙ ap (λ (l : List ℕ). get_or l i 0) (sym (exprs_wide p)))

  module _ {bytes : List ℕ} (q : looped (model_in signals exprs stmts) ≡ None) where
    settled_agrees : (old : List Bits) (behind : List ℕ) → Holds (widths_in signals) old behind bytes → Consistent (model_in signals exprs stmts) old (values_in (model_in signals exprs stmts) (settle (model_in signals exprs stmts) old))
    settled_agrees old behind h = settled_consistent p.widest m old (is_sound p) (holds_length h ∙ length_widths signals ∙ sym (signals_count p.widest (lists signals exprs stmts) p.faultless)) q

    -- e is next, and gets its value
    next : {n from k : ℕ} {order values₀ values values' : List ℕ} {j e : ℕ} → n ≡ length (records_in exprs) → Running signals exprs stmts from k order bytes values₀ values j → j < k → e ≡ get_or order (from + j) 0 → e < n → length values' ≡ length values
        → ((old vs : List Bits) (behind rest : List ℕ) → Holds (widths_in signals) old behind bytes → Holds (widths_in exprs) vs (map digit (flat old) ++ rest) values → ((x : ℕ) → Among order from j x → get_or vs x [] ≡ get_or (Settle signals exprs stmts old) x []) → Holds (widths_in exprs) (set vs e (get_or (Settle signals exprs stmts old) e [])) (map digit (flat old) ++ rest) values')
        → Running signals exprs stmts from k order bytes values₀ values' (j + 1)
    next {n} {from} {k} {order} {values₀} {values} {values'} {j} {e} hn r hj he ht l f = record { within = omega arith; values_long = l ∙ r.values_long; so_far = λ old behind h. now old behind h (r.so_far old behind h) }
      where
        now : (old : List Bits) (behind : List ℕ) → Holds (widths_in signals) old behind bytes
            → (vs : List Bits) × (rest : List ℕ) × Holds (widths_in exprs) vs (map digit (flat old) ++ rest) values × ((x : ℕ) → Among order from j x → get_or vs x [] ≡ get_or (Settle signals exprs stmts old) x [])
            → (vs : List Bits) × (rest : List ℕ) × Holds (widths_in exprs) vs (map digit (flat old) ++ rest) values' × ((x : ℕ) → Among order from (j + 1) x → get_or vs x [] ≡ get_or (Settle signals exprs stmts old) x [])
        now old behind h t = (set t.0 e v, t.1, f old t.0 behind t.1 h t.2 t.3, λ x i. go x (ℕ_discrete x e) (code_more he x i))
          where
            v : Bits
            v = get_or (Settle signals exprs stmts old) e []

            here : e < length t.0
            here = omega (arith, hn, ht, holds_length t.2, length_widths exprs)

            go : (x : ℕ) → Dec (x ≡ e) → (x ≡ e) ⊎ Among order from j x → get_or (set t.0 e v) x [] ≡ get_or (Settle signals exprs stmts old) x []
            go x (yes z) i = ap (λ (y : ℕ). get_or (set t.0 e v) y []) z ∙ get_or-set_same t.0 e v [] here ∙ ap (λ (y : ℕ). get_or (Settle signals exprs stmts old) y []) (sym z)
            go x (no z) (inl y) = absurd (z y)
            go x (no z) (inr i) = get_or-set_other t.0 e x v [] z ∙ t.3 x i

    module _ {n from k : ℕ} {order : List ℕ} (hn : n ≡ length (records_in exprs)) (c : Coded signals exprs stmts n from k order) {values₀ values : List ℕ} {j e : ℕ} (r : Running signals exprs stmts from k order bytes values₀ values j) (hj : j < k) (he : e ≡ get_or order (from + j) 0) where
      pub code_there : e < n
      code_there = omega (arith, hn, he, (c.each j hj).there)

      computable : Computable signals exprs stmts (Among order from j) (drop n order) e
      computable = subst (Computable signals exprs stmts (Among order from j) (drop n order)) (sym he) (c.each j hj)

      -- without a form
      module _ {at : ℕ} (ha : at ≡ n + 6 * e) (no : 65536 ≤ get_or order at 0) where
        table_is : get_or (drop n order) (6 * e) 0 ≡ get_or order at 0
        table_is = get_or-drop n order (6 * e) 0 ∙ ap (λ (i : ℕ). get_or order i 0) (sym ha)

        pub running_needs : {values' values'' : List ℕ} → values' ≡ values'' → length values'' ≡ length values → Computed signals exprs stmts bytes e values values'' → Running signals exprs stmts from k order bytes values₀ values' (j + 1)
        running_needs {values'} {values''} z l w = subst (λ (u : List ℕ). Running signals exprs stmts from k order bytes values₀ u (j + 1)) (sym z) (next hn r hj he code_there l (λ old vs behind rest ho hv g.
            subst (λ (b : Bits). Holds (widths_in exprs) (set vs e b) (map digit (flat old) ++ rest) values'')
            (same_computed m old vs (Settle signals exprs stmts old) e (λ y i. g y (computable.by_needs (omega (arith, table_is)) y i)) ∙ (settled_agrees old behind ho).right e (omega (arith, exprs_are, hn, code_there)))
            (w.computed_holds old vs behind (map digit (flat old) ++ rest) ho hv)))

      -- by its form
      module _ {at : ℕ} (ha : at ≡ n + 6 * e) (yes_form : get_or order at 0 < 65536) where
        word : (i : ℕ) → get_or (drop n order) (6 * e + i) 0 ≡ get_or order (at + i) 0
        word i = form_word n order at e i ha

        table_of : get_or (drop n order) (6 * e) 0 ≡ get_or order at 0
        table_of = get_or-drop n order (6 * e) 0 ∙ ap (λ (i : ℕ). get_or order i 0) (sym ha)

        has : get_or (drop n order) (6 * e) 0 < 65536
        has = omega (arith, table_of)

        own_is : get_or order (at + 1) 0 ≡ offset (widths_in exprs) e
        own_is = sym (word 1) ∙ c.formed.own_position e code_there has

        known : Known signals exprs (Among order from j) (get_or order (at + 2) 0) × Known signals exprs (Among order from j) (get_or order (at + 3) 0) × Known signals exprs (Among order from j) (get_or order (at + 4) 0) × Known signals exprs (Among order from j) (get_or order (at + 5) 0)
        known =
            let f = computable.by_form has in
            (subst (Known signals exprs (Among order from j)) (word 2) f.0, subst (Known signals exprs (Among order from j)) (word 3) f.1, subst (Known signals exprs (Among order from j)) (word 4) f.2, subst (Known signals exprs (Among order from j)) (word 5) f.3)

        -- what a look-up asks
        pub form_inside : at + 5 < length order
        form_inside = omega (arith, c.forms_before, c.room, code_there, hj, ha)

        pub inputs_inside : bits_in exprs + bits_in signals ≤ length values₀ → (get_or order (at + 2) 0 < length values) × (get_or order (at + 3) 0 < length values) × (get_or order (at + 4) 0 < length values) × (get_or order (at + 5) 0 < length values)
        inputs_inside h =
            let f = known in
            let l = r.values_long in (
              omega (arith, l, known_inside signals exprs (Among order from j) (get_or order (at + 2) 0) f.0),
              omega (arith, l, known_inside signals exprs (Among order from j) (get_or order (at + 3) 0) f.1),
              omega (arith, l, known_inside signals exprs (Among order from j) (get_or order (at + 4) 0) f.2),
              omega (arith, l, known_inside signals exprs (Among order from j) (get_or order (at + 5) 0) f.3),
            )

        pub own_inside : Room signals exprs bytes values₀ → get_or order (at + 1) 0 < length values
        own_inside room = omega (arith, own_is, some_width p {e = e} (omega (arith, hn, code_there)), offset_before (widths_in exprs) e (length (records_in exprs)) (omega (arith, hn, code_there)), room.values_room, r.values_long)

        pub running_form : {values' : List ℕ} → values' ≡ looked_up order at values → Running signals exprs stmts from k order bytes values₀ values' (j + 1)
        unfolding over
        running_form {values'} z = next hn r hj he code_there (ap length z ∙ length-set values (get_or order (at + 1) 0) _) (λ old vs behind rest ho hv g.
            subst (λ (l : List ℕ). Holds (widths_in exprs) (set vs e (get_or (Settle signals exprs stmts old) e [])) (map digit (flat old) ++ rest) l)
            (sym (z ∙ looks old vs behind rest ho hv g))
            (holds_set hv e (get_or (Settle signals exprs stmts old) e []) (omega (arith, hn, code_there, length_widths exprs)) (wide_at (widths_in exprs) (Settle signals exprs stmts old) (settled_wide old) e (omega (arith, hn, code_there, wide_length (widths_in exprs) (Settle signals exprs stmts old) (settled_wide old), length_widths exprs)))))
          where
            looks : (old vs : List Bits) (behind rest : List ℕ) → Holds (widths_in signals) old behind bytes → Holds (widths_in exprs) vs (map digit (flat old) ++ rest) values → ((x : ℕ) → Among order from j x → get_or vs x [] ≡ get_or (Settle signals exprs stmts old) x []) → looked_up order at values ≡ over values (offset (widths_in exprs) e) (map digit (get_or (Settle signals exprs stmts old) e []))
            looks old vs behind rest ho hv g =
                ap₂ (set values) own_is (five looked refl (byte (get_or order (at + 2) 0) known.0) (byte (get_or order (at + 3) 0) known.1) (byte (get_or order (at + 4) 0) known.2) (byte (get_or order (at + 5) 0) known.3) ∙ looked_bit (get_or order at 0) (bit (get_or order (at + 2) 0)) (bit (get_or order (at + 3) 0)) (bit (get_or order (at + 4) 0)) (bit (get_or order (at + 5) 0)))
                ∙ ap (λ (v : Bits). sets values (offset (widths_in exprs) e) (map digit v)) (sym value)
              where
                bit : ℕ → Bool
                bit = bit_at (Settle signals exprs stmts old) old

                byte : (i : ℕ) → Known signals exprs (Among order from j) i → get_or values i 0 ≡ digit (bit_at (Settle signals exprs stmts old) old i)
                byte i h = byte_at signals exprs vs old rest values hv ho.wide i (known_inside signals exprs (Among order from j) i h) ∙ ap digit (known_bit signals exprs (Among order from j) vs (Settle signals exprs stmts old) old hv.wide (settled_wide old) g i h)

                value : get_or (Settle signals exprs stmts old) e [] ≡ table_bit (get_or order at 0) (digit (bit (get_or order (at + 2) 0)) + 2 * digit (bit (get_or order (at + 3) 0)) + 4 * digit (bit (get_or order (at + 4) 0)) + 8 * digit (bit (get_or order (at + 5) 0))) ∷ []
                value =
                    (c.formed.formed e code_there has).means old (Settle signals exprs stmts old) ho.wide (settled_wide old) (settled_agrees old behind ho)
                    ∙ five (λ t a b c' d. table_bit t (digit (bit a) + 2 * digit (bit b) + 4 * digit (bit c') + 8 * digit (bit d)) ∷ []) table_of (word 2) (word 3) (word 4) (word 5)

    -- before the first code word: the signals' bytes are copied behind the values
    pub running_start : {from k : ℕ} {order values values' : List ℕ} {base state : ℕ} → base ≡ bits_in exprs → state ≡ bits_in signals → bits_in exprs + bits_in signals ≤ length values → bits_in signals ≤ length bytes → Filled (widths_in exprs) values → length values' ≡ length values → values' ≡ over values base (part bytes 0 state) → Running signals exprs stmts from k order bytes values' values' 0
    unfolding over
    running_start {values = values} {values'} {base} {state} hb hs room rb f l z = record { within = omega arith; values_long = refl; so_far = λ old behind ho. (f.values, drop (bits_in exprs + bits_in signals) values, holds old behind ho, λ e i. absurd (not-suc-le-zero i.before)) }
      where
        holds : (old : List Bits) (behind : List ℕ) → Holds (widths_in signals) old behind bytes → Holds (widths_in exprs) f.values (map digit (flat old) ++ drop (bits_in exprs + bits_in signals) values) values'
        holds old behind ho = record {
          wide = f.holds.wide;
          begin =
              z
              ∙ ap₂ (λ (i : ℕ) (ys : List ℕ). sets values i ys) hb state_bytes
              ∙ sets-eq (map digit (flat old)) values (bits_in exprs) (omega (arith, long))
              ∙ ap₂ (λ (x : List ℕ) (i : ℕ). x ++ map digit (flat old) ++ drop (bits_in exprs + i) values) front long
              ∙ append_assoc (map digit (flat f.values)) (map digit (flat old)) (drop (bits_in exprs + bits_in signals) values);
        }
          where
            long : length (map digit (flat old)) ≡ bits_in signals
            long = length-map (flat old) digit ∙ flat_bits signals old ho.wide

            state_bytes : part bytes 0 state ≡ map digit (flat old)
            state_bytes = ap₂ (λ (i : ℕ) (b : List ℕ). take i b) hs ho.begin ∙ take_at (map digit (flat old)) behind (bits_in signals) long

            front : take (bits_in exprs) values ≡ map digit (flat f.values)
            front = ap (take (bits_in exprs)) f.holds.begin ∙ take_at (map digit (flat f.values)) f.rest (bits_in exprs) (length-map (flat f.values) digit ∙ flat_bits exprs f.values f.holds.wide)

    pub running_end : {from k : ℕ} {order values₀ values : List ℕ} {j : ℕ} → Running signals exprs stmts from k order bytes values₀ values j → k ≤ j → SettlesCode signals exprs stmts order from k bytes values
    running_end {from} {k} {order} {j = j} r h = record {
      settles_code = λ old behind ho.
          let t = r.so_far old behind ho in
          (t.0, map digit (flat old) ++ t.1, t.2, λ e i. t.3 e (subst (λ (x : ℕ). Among order from x e) same i));
    }
      where
        same : k ≡ j
        same = let w = r.within in omega (arith, w, h)
