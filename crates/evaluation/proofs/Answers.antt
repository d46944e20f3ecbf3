-- What the functions that evaluate an expression of each kind ask and leave, in the code's own terms. Assumes nothing.
use Prim.Native.Nat.{ℕ, ◌+◌, ◌-◌, ◌*◌, ◌≤◌, ◌<◌}
use mathlib.Core.Path.{◌≡◌, refl, sym, ◌∙◌, ap, ap₂}
use mathlib.Core.Logic.{◌⊎◌, inl}
use mathlib.Core.Bool.{Bool}
use mathlib.Core.List.{List, map}
use native.Mathlib.Omega.{arith}
use lib.ListN.{length, get_or, set}
use Rattle.bits.specs.Bits.{digit, binary, number}
use Rattle.recorder.specs.Record.{expr_words}
use Rattle.recorder.specs.Lists.{over}
use Rattle.simulation.specs.Run.{expr_width, is_one}
use Rattle.simulation.specs.Index.{records_in, widths_in, offset, Indexed}
use Rattle.simulation.proofs.Offsets.{offset_next}
use Rattle.evaluation.specs.Bytes.{part, same_bytes, gate_of}
use Rattle.evaluation.specs.Ready.{expr_in, Ready, Evaluated}
use Rattle.evaluation.proofs.ByKind.{Operand}
use Rattle.evaluation.proofs.Evaluating.{own_room, own_width, operand_before, word_inside, sum_fits, gate_ready, not_ready, mux_ready, const_ready, equal_ready, product_ready, gate_written, mux_one, mux_zero, const_written, equal_written, product_written}

-- what `operand` asks of word i
abbrev pub Asks : List ℕ → List ℕ → ℕ → Type 0
Asks exprs table i = (i < length exprs) × Indexed (widths_in exprs) table × (get_or exprs i 0 ≤ length (records_in exprs)) × (offset (widths_in exprs) (length (records_in exprs)) ≤ 18446744073709551615)

module _ {exprs table values : List ℕ} {at e : ℕ} (h : Ready exprs table values at e) where
  abbrev ew : List ℕ
  ew = widths_in exprs

  pub ask_word : (j : ℕ) → length values < 18446744073709551616 → j < length (expr_words (expr_in exprs e)) → get_or exprs (at + j) 0 < e → Asks exprs table (at + j)
  ask_word j q l b = (word_inside h j l, h.offsets, omega (arith, h.there), sum_fits h q)

  -- a place of a one-bit operand, or of the value
  place : {a w i : ℕ} → i ≡ offset (widths_in exprs) a → Operand (widths_in exprs) e a w → i + w ≤ length values
  place p o = omega (arith, operand_before h o, own_room h)

  own : {to w : ℕ} → to ≡ offset (widths_in exprs) e → expr_width (expr_in exprs e) ≡ w → to + w ≤ length values
  own p w = omega (arith, own_room h, own_width h)

  -- GATES

  module _ {kind : ℕ} (k : kind ≡ get_or exprs (at + 1) 0) (lo : 4 ≤ kind) (hi : kind ≤ 6) where
    pub gate_first : length values < 18446744073709551616 → Asks exprs table (at + 3)
    gate_first q = let g = gate_ready h k lo hi in ask_word 3 q (omega (arith, g.1)) g.0.first.before_it

    pub gate_second : length values < 18446744073709551616 → Asks exprs table (at + 4)
    gate_second q = let g = gate_ready h k lo hi in ask_word 4 q g.1 g.0.second.before_it

    module _ {to a b : ℕ} (p : to ≡ offset (widths_in exprs) e) (q : a ≡ offset (widths_in exprs) (get_or exprs (at + 3) 0)) (r : b ≡ offset (widths_in exprs) (get_or exprs (at + 4) 0)) where
      pub gate_asks : (to < length values) × (a < length values) × (b < length values)
      gate_asks =
          let g = (gate_ready h k lo hi).0 in
          let x = own p g.is_wide in
          let y = place q g.first in
          let z = place r g.second in
          (omega arith, omega arith, omega arith)

      pub gate_done : {values' : List ℕ} → ((x y : Bool) → get_or values a 0 ≡ digit x → get_or values b 0 ≡ digit y → values' ≡ set values to (digit (gate_of kind x y))) → Evaluated exprs e values values'
      gate_done g = gate_written h (gate_ready h k lo hi).0 (λ x y i j. g x y (ap (λ (n : ℕ). get_or values n 0) q ∙ i) (ap (λ (n : ℕ). get_or values n 0) r ∙ j) ∙ ap (λ (n : ℕ). set values n (digit (gate_of kind x y))) p)

  module _ (k : get_or exprs (at + 1) 0 ≡ 3) where
    pub not_first : length values < 18446744073709551616 → Asks exprs table (at + 3)
    not_first q = let g = not_ready h k in ask_word 3 q g.1 g.0.first.before_it

    module _ {to a : ℕ} (p : to ≡ offset (widths_in exprs) e) (q : a ≡ offset (widths_in exprs) (get_or exprs (at + 3) 0)) where
      pub not_asks : (to < length values) × (a < length values) × (a < length values)
      not_asks =
          let g = (not_ready h k).0 in
          let x = own p g.is_wide in
          let y = place q g.first in
          (omega arith, omega arith, omega arith)

      pub not_done : {values' : List ℕ} → ((x y : Bool) → get_or values a 0 ≡ digit x → get_or values a 0 ≡ digit y → values' ≡ set values to (digit (gate_of 3 x y))) → Evaluated exprs e values values'
      not_done g = gate_written h (not_ready h k).0 (λ x y i j. g x y (ap (λ (n : ℕ). get_or values n 0) q ∙ i) (ap (λ (n : ℕ). get_or values n 0) q ∙ j) ∙ ap (λ (n : ℕ). set values n (digit (gate_of 3 x y))) p)

  -- MUX

  module _ (k : get_or exprs (at + 1) 0 ≡ 7) where
    pub mux_select : length values < 18446744073709551616 → Asks exprs table (at + 3)
    mux_select q = let g = mux_ready h k in ask_word 3 q (omega (arith, g.1)) g.0.select.before_it

    pub mux_first : length values < 18446744073709551616 → Asks exprs table (at + 4)
    mux_first q = let g = mux_ready h k in ask_word 4 q (omega (arith, g.1)) g.0.if_one.before_it

    pub mux_second : length values < 18446744073709551616 → Asks exprs table (at + 5)
    mux_second q = let g = mux_ready h k in ask_word 5 q g.1 g.0.if_zero.before_it

    pub mux_inside : at + 2 < length exprs
    mux_inside = word_inside h 2 (omega (arith, (mux_ready h k).1))

    module _ {to s w : ℕ} (p : to ≡ offset (widths_in exprs) e) (q : s ≡ offset (widths_in exprs) (get_or exprs (at + 3) 0)) (r : w ≡ get_or exprs (at + 2) 0) where
      pub mux_select_there : s < length values
      mux_select_there = let y = place q (mux_ready h k).0.select in omega arith

      abbrev Moves : ℕ → Type 0
      Moves i = (to + w ≤ length values) × (i + w ≤ length values) × ((i + w ≤ to) ⊎ (to ≤ i))

      moves : {i a : ℕ} → i ≡ offset (widths_in exprs) a → Operand (widths_in exprs) e a (get_or exprs (at + 2) 0) → Moves i
      moves z o =
          let x = own p (mux_ready h k).0.is_wide in
          let y = place z o in
          let b = operand_before h o in
          (omega arith, omega arith, inl (omega arith))

      pub mux_moves_first : {t : ℕ} → t ≡ offset (widths_in exprs) (get_or exprs (at + 4) 0) → (to + w ≤ length values) × (t + w ≤ length values) × ((t + w ≤ to) ⊎ (to ≤ t))
      mux_moves_first z = moves z (mux_ready h k).0.if_one

      pub mux_moves_second : {f : ℕ} → f ≡ offset (widths_in exprs) (get_or exprs (at + 5) 0) → (to + w ≤ length values) × (f + w ≤ length values) × ((f + w ≤ to) ⊎ (to ≤ f))
      mux_moves_second z = moves z (mux_ready h k).0.if_zero

      pub mux_done_first : {t : ℕ} {values' : List ℕ} → t ≡ offset (widths_in exprs) (get_or exprs (at + 4) 0) → get_or values s 0 ≡ 1 → values' ≡ over values to (part values t w) → Evaluated exprs e values values'
      mux_done_first {t} z one g = mux_one h (mux_ready h k).0 (ap (λ (n : ℕ). get_or values n 0) (sym q) ∙ one) (g ∙ ap (λ (n : ℕ). over values n (part values t w)) p ∙ ap₂ (λ (i n : ℕ). over values (offset ew e) (part values i n)) z r)

      pub mux_done_second : {f : ℕ} {values' : List ℕ} → f ≡ offset (widths_in exprs) (get_or exprs (at + 5) 0) → (get_or values s 0 ≡ 1 → ⊥) → values' ≡ over values to (part values f w) → Evaluated exprs e values values'
      mux_done_second {f} z zer g = mux_zero h (mux_ready h k).0 (λ one. zer (ap (λ (n : ℕ). get_or values n 0) q ∙ one)) (g ∙ ap (λ (n : ℕ). over values n (part values f w)) p ∙ ap₂ (λ (i n : ℕ). over values (offset ew e) (part values i n)) z r)

  -- CONST

  module _ (k : get_or exprs (at + 1) 0 ≡ 0) where
    pub const_width_inside : at + 2 < length exprs
    const_width_inside = word_inside h 2 (omega (arith, (const_ready h k).1))

    pub const_value_inside : at + 3 < length exprs
    const_value_inside = word_inside h 3 (const_ready h k).1

    module _ {to w v : ℕ} (p : to ≡ offset (widths_in exprs) e) (r : w ≡ get_or exprs (at + 2) 0) (s : v ≡ get_or exprs (at + 3) 0) where
      pub const_asks : to + w ≤ length values
      const_asks = own p ((const_ready h k).0.is_wide ∙ sym r)

      pub const_done : {values' : List ℕ} → values' ≡ over values to (map digit (binary w v)) → Evaluated exprs e values values'
      const_done g = const_written h (const_ready h k).0 (g ∙ ap (λ (n : ℕ). over values n (map digit (binary w v))) p ∙ ap₂ (λ (n i : ℕ). over values (offset ew e) (map digit (binary n i))) r s)

  -- EQUAL

  module _ (k : get_or exprs (at + 1) 0 ≡ 8) where
    pub equal_first : length values < 18446744073709551616 → Asks exprs table (at + 3)
    equal_first q = let g = equal_ready h k in ask_word 3 q (omega (arith, g.1)) g.0.first

    pub equal_second : length values < 18446744073709551616 → Asks exprs table (at + 4)
    equal_second q = let g = equal_ready h k in ask_word 4 q g.1 g.0.second.before_it

    -- the place behind the first operand
    pub equal_behind : {n : ℕ} → length values < 18446744073709551616 → n ≡ get_or exprs (at + 3) 0 → Indexed (widths_in exprs) table × (n + 1 ≤ length (records_in exprs)) × (offset (widths_in exprs) (length (records_in exprs)) ≤ 18446744073709551615)
    equal_behind q z = (h.offsets, omega (arith, (equal_ready h k).0.first, h.there), sum_fits h q)

    pub equal_fits : {n : ℕ} → length values < 18446744073709551616 → e < 18446744073709551616 → n ≡ get_or exprs (at + 3) 0 → n + 1 < 18446744073709551616
    equal_fits q f z = omega (arith, (equal_ready h k).0.first)

    module _ {to a b n end : ℕ} (p : to ≡ offset (widths_in exprs) e) (q : a ≡ offset (widths_in exprs) (get_or exprs (at + 3) 0)) (r : b ≡ offset (widths_in exprs) (get_or exprs (at + 4) 0)) (z : n ≡ get_or exprs (at + 3) 0) (s : end ≡ offset (widths_in exprs) (n + 1)) where
      width_is : end ≡ a + get_or (widths_in exprs) (get_or exprs (at + 3) 0) 0
      width_is = s ∙ ap (λ (i : ℕ). offset ew (i + 1)) z ∙ offset_next ew (get_or exprs (at + 3) 0) ∙ ap (λ (i : ℕ). i + get_or ew (get_or exprs (at + 3) 0) 0) (sym q)

      pub equal_less : a ≤ end
      equal_less = omega (arith, width_is)

      pub equal_asks : (a + (end - a) ≤ length values) × (b + (end - a) ≤ length values)
      equal_asks =
          let g = (equal_ready h k).0 in
          let w = width_is in
          let y = place {w = get_or ew (get_or exprs (at + 3) 0) 0} q (record { before_it = g.first; as_wide = refl }) in
          let v = place r g.second in
          (omega arith, omega arith)

      pub equal_room : to < length values
      equal_room = let x = own p (equal_ready h k).0.is_wide in omega arith

      pub equal_done : {same : Bool} {values' : List ℕ} → same ≡ same_bytes (part values a (end - a)) (part values b (end - a)) → values' ≡ set values to (digit same) → Evaluated exprs e values values'
      equal_done {same} t g =
          let w : end - a ≡ get_or ew (get_or exprs (at + 3) 0) 0 = (let i = width_is in omega arith) in
          equal_written h (equal_ready h k).0 w (t ∙ ap₂ (λ (i j : ℕ). same_bytes (part values i (end - a)) (part values j (end - a))) q r) refl (g ∙ ap (λ (i : ℕ). set values i (digit same)) p)

  -- PRODUCT

  module _ (k : get_or exprs (at + 1) 0 ≡ 9) where
    pub product_first : length values < 18446744073709551616 → Asks exprs table (at + 3)
    product_first q = let g = product_ready h k in ask_word 3 q (omega (arith, g.1)) g.0.first.before_it

    pub product_second : length values < 18446744073709551616 → Asks exprs table (at + 4)
    product_second q = let g = product_ready h k in ask_word 4 q g.1 g.0.second.before_it

    pub product_first_there : {a : ℕ} → a ≡ offset (widths_in exprs) (get_or exprs (at + 3) 0) → a + 36 ≤ length values
    product_first_there q = place q (product_ready h k).0.first

    pub product_second_there : {b : ℕ} → b ≡ offset (widths_in exprs) (get_or exprs (at + 4) 0) → b + 36 ≤ length values
    product_second_there q = place q (product_ready h k).0.second

    pub product_room : {to : ℕ} → to ≡ offset (widths_in exprs) e → to + 36 ≤ length values
    product_room p = own p (product_ready h k).0.is_wide

    module _ {to a b : ℕ} (p : to ≡ offset (widths_in exprs) e) (q : a ≡ offset (widths_in exprs) (get_or exprs (at + 3) 0)) (r : b ≡ offset (widths_in exprs) (get_or exprs (at + 4) 0)) where
      pub product_done : {m n : ℕ} (t : ℕ) {values' : List ℕ} → m ≡ number (map is_one (part values a 36)) → n ≡ number (map is_one (part values b 36)) → binary 36 t ≡ binary 36 (m * n) → values' ≡ over values to (map digit (binary 36 t)) → Evaluated exprs e values values'
      product_done t hm hn low g =
          product_written h t (product_ready h k).0 (hm ∙ ap (λ (i : ℕ). number (map is_one (part values i 36))) q) (hn ∙ ap (λ (i : ℕ). number (map is_one (part values i 36))) r) low
          (g ∙ ap (λ (i : ℕ). over values i (map digit (binary 36 t))) p)
