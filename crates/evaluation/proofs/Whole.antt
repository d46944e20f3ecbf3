-- An expression of a whole model: its record, its signals, and what is assigned to them. Assumes nothing.
use Prim.Native.Nat.{ℕ, zero, suc, ◌+◌, ◌-◌, ◌≤◌, ◌<◌}
use mathlib.Core.Path.{◌≡◌, refl, sym, ◌∙◌, ap, ap₂, subst}
use mathlib.Core.Logic.{◌⊎◌, inl, inr}
use mathlib.Core.Bool.{Bool, true, false}
use mathlib.Core.List.{List, [], ◌∷◌, map}
use Rattle.std.specs.Prelude.{Option, None, Some}
use native.Mathlib.Omega.{arith}
use native.Mathlib.Numerals.{add-one}
use native.Mathlib.Nat.{not-suc-le-zero, add-zero, zero-add}
use native.Mathlib.Decide.{dec_lt}
use lib.Dec.{eqb, leb, ltb}
use lib.ListN.{length, get_or, drop, set, length-drop}
use lib.Seq.{get_or-drop, length-take-le}
use borrow.Author.Tests.{eqb-true, ltb-true}
use Rattle.bits.specs.Bits.{pick, Bits, digit, window}
use Rattle.settle.specs.Tests.{and_left, and_right}
use Rattle.recorder.specs.declared.Cut.TheVariants.{Record, Broken}
use Rattle.recorder.specs.Record.{Model, const, sized, expr_words}
use Rattle.recorder.specs.Lists.{lists, over}
use Rattle.recorder.specs.Words.{raw_of, EachReads}
use Rattle.recorder.specs.Read.{read_expr, read_all, model_of}
use Rattle.recorder.specs.Standing.{standing, cut_at}
use Rattle.recorder.proofs.Roundtrip.{expr_said}
use Rattle.simulation.specs.Wellformed.{wide, suits, expr_fits}
use Rattle.simulation.specs.Tick.{given, assigns, become}
use Rattle.simulation.specs.Sound.{AllFrom, Sound, signal_widths, expr_widths}
use Rattle.simulation.specs.Index.{size_of, size_at, fields_at, records_in, widths_in, offset, start_of, Indexed, stmts_in}
use Rattle.simulation.proofs.Steps.{Walked, walked_start, walked_next, walked_out, walked_within, walked_fields, length_widths}
use Rattle.simulation.proofs.Offsets.{start_first, field_in}
use Rattle.simulation.proofs.Sound.{sound, exprs_read, signal_widths_lem, expr_widths_lem}
use Rattle.simulation.proofs.Kept.{assigned_suits}
use Rattle.evaluation.specs.Consistent.{assigned, computed}
use Rattle.evaluation.specs.Bytes.{part, Holds}
use Rattle.evaluation.specs.Ready.{expr_in, Ready, Evaluated, model_in, Prepared, Room, Computed}
use Rattle.evaluation.proofs.Held.{holds_window, holds_set}
use Rattle.evaluation.proofs.ByKind.{Read, is_read}
use Rattle.evaluation.proofs.Evaluating.{offset_before, own_there, own_room, own_width, word_inside, kind_is, count_is, value_wide}

-- READING RECORDS

pub read_length : {A : Type 0} (g : List ℕ → Option A) (rs : List (List ℕ)) → EachReads g rs → length (read_all g rs) ≡ length rs
read_length g [] t = refl
read_length g (r ∷ rs) t = rw (t.0.reads, read_all) (ap suc (read_length g rs t.1))

pub read_at : {A : Type 0} (g : List ℕ → Option A) (rs : List (List ℕ)) → EachReads g rs → (i : ℕ) → i < length rs → (d : A) → g (get_or rs i []) ≡ Some (get_or (read_all g rs) i d)
read_at g [] t i q d = absurd (not-suc-le-zero q)
read_at {A} g (r ∷ rs) t zero q d = t.0.reads ∙ ap (λ (l : List A). Some (get_or l 0 d)) (sym (read_cons t.0.as_this t.0.reads))
  where
    read_cons : (a : A) → g r ≡ Some a → read_all g (r ∷ rs) ≡ a ∷ read_all g rs
    read_cons a e = rw (e, read_all)
read_at {A} g (r ∷ rs) t (suc i) q d = read_at g rs t.1 i (omega arith) d ∙ ap (λ (l : List A). Some (get_or l (suc i) d)) (sym (read_cons t.0.as_this t.0.reads))
  where
    read_cons : (a : A) → g r ≡ Some a → read_all g (r ∷ rs) ≡ a ∷ read_all g rs
    read_cons a e = rw (e, read_all)

pub all_at : {A : Type 0} (p : ℕ → A → Bool) (n : ℕ) (l : List A) (d : A) → AllFrom p n l → (i : ℕ) → i < length l → p (n + i) (get_or l i d) ≡ true
all_at p n [] d h i q = absurd (not-suc-le-zero q)
all_at p n (a ∷ l) d h zero q = ap (λ (k : ℕ). p k a) (add-zero n) ∙ h.0
all_at p n (a ∷ l) d h (suc i) q =
    let k : n + suc i ≡ suc n + i = omega arith in
    ap (λ (j : ℕ). p j (get_or l i d)) k ∙ all_at p (suc n) l d h.1 i (omega arith)

-- WHERE A RECORD STANDS

first_word : (r : List ℕ) (size : ℕ) → size ≡ size_of (standing r) → (size ≡ 0 → ⊥) → get_or r 0 0 ≡ size
first_word [] size e d = absurd (d e)
first_word (zero ∷ r) size e d = absurd (d e)
first_word (suc n ∷ r) size e d = go (leb n (length r)) e
  where
    go : (b : Bool) → size ≡ size_of (pick b (Record n) Broken) → suc n ≡ size
    go true q = omega arith
    go false q = absurd (d q)

pub walked_at : (l : List ℕ) (k : ℕ) → k ≤ length (records_in l) → Walked l (start_of l k) k
walked_at l zero q = subst (λ (n : ℕ). Walked l n 0) (start_first l) (walked_start l)
walked_at l (suc k) q = go (walked_at l k (omega arith))
  where
    go : Walked l (start_of l k) k → Walked l (start_of l (suc k)) (suc k)
    go w =
        let d : size_at l (start_of l k) ≡ 0 → ⊥ = λ z. let e = walked_out w (size_at l (start_of l k)) refl z in omega arith in
        let next : Walked l (start_of l k + size_at l (start_of l k)) (k + 1) = walked_next w (size_at l (start_of l k)) refl d in
        subst (λ (n : ℕ). Walked l (start_of l n) n) (add-one k) (subst (λ (n : ℕ). Walked l n (k + 1)) next.begins next)

module _ (l : List ℕ) (k : ℕ) (q : k < length (records_in l)) where
  abbrev begin : ℕ
  begin = start_of l k

  abbrev size : ℕ
  size = size_at l (start_of l k)

  there : Walked l (start_of l k) k
  there = walked_at l k (omega arith)

  some_size : size_at l (start_of l k) ≡ 0 → ⊥
  some_size z = let e = walked_out there size refl z in omega arith

  inside : start_of l k + size_at l (start_of l k) ≤ length l
  inside = walked_within there size refl some_size

  fields : get_or (records_in l) k [] ≡ fields_at l (start_of l k) (size_at l (start_of l k))
  fields = walked_fields there size refl some_size

  fields_length : length (get_or (records_in l) k []) ≡ size_at l (start_of l k) - 1
  fields_length = ap length fields ∙ length-take-le (size - 1) (drop (begin + 1) l) (omega (arith, inside, some_size, length-drop (begin + 1) l))

  -- record k, its length in front
  pub record_inside : start_of l k + length (sized (get_or (records_in l) k [])) ≤ length l
  record_inside = omega (arith, inside, fields_length, some_size)

  pub record_word : (j : ℕ) → j < length (sized (get_or (records_in l) k [])) → get_or l (start_of l k + j) 0 ≡ get_or (sized (get_or (records_in l) k [])) j 0
  unfolding cut_at
  record_word zero h =
      let e : 1 + length (get_or (records_in l) k []) ≡ size = omega (arith, fields_length, some_size) in
      sym (get_or-drop begin l 0 0) ∙ first_word (drop begin l) size refl some_size ∙ sym e
  record_word (suc j) h =
      let e : begin + suc j ≡ begin + 1 + j = omega arith in
      ap (λ (n : ℕ). get_or l n 0) e
      ∙ field_in l begin size j (omega (arith, fields_length))
      ∙ ap (λ (r : List ℕ). get_or r j 0) (sym fields)

-- EXPRESSION e OF A PREPARED MODEL

module _ {signals exprs stmts expr_table signal_table : List ℕ} (p : Prepared signals exprs stmts expr_table signal_table) where
  abbrev m : Model
  m = model_in signals exprs stmts

  pub is_sound : Sound p.widest (model_in signals exprs stmts)
  is_sound = sound p.widest (raw_of (lists signals exprs stmts)) p.faultless

  pub signals_wide : widths_in signals ≡ signal_widths (model_in signals exprs stmts)
  signals_wide = signal_widths_lem p.widest (raw_of (lists signals exprs stmts)) p.faultless

  pub exprs_wide : widths_in exprs ≡ expr_widths (model_in signals exprs stmts)
  exprs_wide = expr_widths_lem p.widest (raw_of (lists signals exprs stmts)) p.faultless

  all_read : EachReads read_expr (records_in exprs)
  all_read = exprs_read p.widest (raw_of (lists signals exprs stmts)) p.faultless

  -- what is assigned to a signal is there, and as wide
  module _ (s : ℕ) {d : ℕ} (hd : given assigns (stmts_in stmts) s ≡ Some d) where
    suited : suits (widths_in signals) (widths_in exprs) s d ≡ true
    unfolding model_of
    suited = ap₂ (λ (sw ew : List ℕ). suits sw ew s d) signals_wide exprs_wide ∙ assigned_suits p.widest m is_sound s d hd

    wide_there : wide (widths_in exprs) (length (widths_in exprs)) d (get_or (widths_in signals) s 0) ≡ true
    wide_there = and_right (ltb s (length (widths_in signals))) (wide (widths_in exprs) (length (widths_in exprs)) d (get_or (widths_in signals) s 0)) suited

    pub driver_there : d < length (widths_in exprs)
    driver_there = ltb-true d (length (widths_in exprs)) (and_left (ltb d (length (widths_in exprs))) (eqb (get_or (widths_in exprs) d 0) (get_or (widths_in signals) s 0)) wide_there)

    pub driver_wide : get_or (widths_in exprs) d 0 ≡ get_or (widths_in signals) s 0
    driver_wide = eqb-true (get_or (widths_in exprs) d 0) (get_or (widths_in signals) s 0) (and_right (ltb d (length (widths_in exprs))) (eqb (get_or (widths_in exprs) d 0) (get_or (widths_in signals) s 0)) wide_there)

  module _ {e : ℕ} (q : e < length (records_in exprs)) where
    pub expr_reads : read_expr (get_or (records_in exprs) e []) ≡ Some (expr_in exprs e)
    expr_reads = read_at read_expr (records_in exprs) all_read e q (const 0 0)

    pub expr_fits_lem : expr_fits p.widest (widths_in signals) (widths_in exprs) e (expr_in exprs e) ≡ true
    unfolding model_of
    expr_fits_lem =
        ap₂ (λ (sw ew : List ℕ). expr_fits p.widest sw ew e (expr_in exprs e)) signals_wide exprs_wide
        ∙ ap (λ (n : ℕ). expr_fits p.widest (signal_widths m) (expr_widths m) n (expr_in exprs e)) (sym (zero-add e))
        ∙ all_at (expr_fits p.widest (signal_widths m) (expr_widths m)) 0 (read_all read_expr (records_in exprs)) (const 0 0) is_sound.exprs_fit e (omega (arith, read_length read_expr (records_in exprs) all_read))

    said : expr_words (expr_in exprs e) ≡ sized (get_or (records_in exprs) e [])
    said = expr_said (get_or (records_in exprs) e []) expr_reads

    pub ready : {bytes values : List ℕ} {at : ℕ} → Room signals exprs bytes values → at ≡ start_of exprs e → Ready exprs expr_table values at e
    ready {bytes} {values} {at} r b = record {
      widest = p.widest;
      signal_widths_lem = widths_in signals;
      there = q;
      reads = expr_reads;
      fits = expr_fits_lem;
      inside = subst (λ (n : ℕ). n + length (expr_words (expr_in exprs e)) ≤ length exprs) (sym b) (subst (λ (ws : List ℕ). start_of exprs e + length ws ≤ length exprs) (sym said) (record_inside exprs e q));
      words = λ j k. ap (λ (n : ℕ). get_or exprs (n + j) 0) b ∙ record_word exprs e q j (subst (λ (ws : List ℕ). j < length ws) said k) ∙ ap (λ (ws : List ℕ). get_or ws j 0) (sym said);
      offsets = p.expr_offsets;
      room = r.values_room;
    }

    -- what is evaluated from operands is computed
    pub evaluated_computes : {bytes values values' : List ℕ} → Evaluated exprs e values values' → Computed signals exprs stmts bytes e values values'
    unfolding model_of
    evaluated_computes v = record { computed_holds = λ old vs behind rest ho hv. v.evaluated (assigned m old vs) vs rest hv }

    -- A READ

    module _ {bytes values : List ℕ} {at : ℕ} (r : Room signals exprs bytes values) (b : at ≡ start_of exprs e) (k : get_or exprs (at + 1) 0 ≡ 1) where
      rd : Ready exprs expr_table values at e
      rd = ready r b

      words_five : 5 ≤ length (expr_words (expr_in exprs e))
      words_five = count_is rd (sym k)

      pub read_inside : (j : ℕ) → j < 5 → at + j < length exprs
      read_inside j l = word_inside rd j (omega (arith, words_five))

      reading : Read (widths_in signals) (get_or exprs (at + 2) 0) (get_or exprs (at + 3) 0) (get_or exprs (at + 4) 0) (expr_in exprs e)
      reading =
          subst (λ (a : ℕ). Read (widths_in signals) a (get_or exprs (at + 3) 0) (get_or exprs (at + 4) 0) (expr_in exprs e)) (sym (rd.words 2 (omega (arith, words_five))))
          (subst (λ (a : ℕ). Read (widths_in signals) (get_or (expr_words (expr_in exprs e)) 2 0) a (get_or exprs (at + 4) 0) (expr_in exprs e)) (sym (rd.words 3 (omega (arith, words_five))))
          (subst (λ (a : ℕ). Read (widths_in signals) (get_or (expr_words (expr_in exprs e)) 2 0) (get_or (expr_words (expr_in exprs e)) 3 0) a (expr_in exprs e)) (sym (rd.words 4 words_five))
          (is_read p.widest (widths_in signals) (widths_in exprs) e (expr_in exprs e) expr_fits_lem (sym (kind_is rd (sym k))))))

      module _ {to w s l : ℕ} (ht : to ≡ offset (widths_in exprs) e) (hw : w ≡ get_or exprs (at + 2) 0) (hs : s ≡ get_or exprs (at + 3) 0) (hl : l ≡ get_or exprs (at + 4) 0) where
        pub read_own : to + w ≤ length values
        read_own = omega (arith, own_room rd, own_width rd, reading.is_wide)

        signal_there : s < length (widths_in signals)
        signal_there = omega (arith, reading.there)

        window_fits : l + w ≤ get_or (widths_in signals) s 0
        window_fits = subst (λ (n : ℕ). l + w ≤ get_or (widths_in signals) n 0) (sym hs) (omega (arith, reading.inside))

        -- from the signal's bytes
        pub signal_asks : length bytes < 18446744073709551616 → Indexed (widths_in signals) signal_table × (s ≤ length (records_in signals)) × (offset (widths_in signals) (length (records_in signals)) ≤ 18446744073709551615)
        signal_asks v = (p.signal_offsets, omega (arith, signal_there, length_widths signals), omega (arith, r.bytes_room))

        value_is : (old vs : List Bits) → computed (model_in signals exprs stmts) old vs e ≡ window (assigned (model_in signals exprs stmts) old vs s) l w
        unfolding model_of
        value_is old vs =
            reading.value (assigned m old vs) vs
            ∙ ap (λ (n : ℕ). window (assigned m old vs n) (get_or exprs (at + 4) 0) (get_or exprs (at + 2) 0)) (sym hs)
            ∙ ap₂ (λ (i n : ℕ). window (assigned m old vs s) i n) (sym hl) (sym hw)

        -- what was written is the value
        finish : {values' : List ℕ} → ((old vs : List Bits) (behind rest : List ℕ) → Holds (widths_in signals) old behind bytes → Holds (widths_in exprs) vs rest values → values' ≡ over values to (map digit (window (assigned (model_in signals exprs stmts) old vs s) l w))) → Computed signals exprs stmts bytes e values values'
        unfolding model_of
        finish {values'} g = record {
          computed_holds = λ old vs behind rest ho hv.
              subst (λ (x : List ℕ). Holds (widths_in exprs) (set vs e (computed m old vs e)) rest x) (sym (g old vs behind rest ho hv ∙ ap₂ (λ (i : ℕ) (y : Bits). over values i (map digit y)) ht (sym (value_is old vs))))
              (holds_set hv e (computed m old vs e) (own_there rd) (value_wide rd (assigned m old vs) vs rest hv));
        }

        module _ {from : ℕ} (hf : from ≡ offset (widths_in signals) s) where
          from_end : from + l + w ≤ length bytes
          from_end = omega (arith, window_fits, offset_before (widths_in signals) s (length (records_in signals)) (omega (arith, signal_there, length_widths signals)), r.bytes_room)

          pub signal_fits_lem : length bytes < 18446744073709551616 → from + l < 18446744073709551616
          signal_fits_lem v = omega (arith, from_end)

          pub signal_copies : (to + w ≤ length values) × (from + l + w ≤ length bytes)
          signal_copies = (read_own, from_end)

          pub signal_done : {values' : List ℕ} → given assigns (stmts_in stmts) s ≡ None → values' ≡ over values to (part bytes (from + l) w) → Computed signals exprs stmts bytes e values values'
          unfolding model_of
          signal_done g z = finish (λ old vs behind rest ho hv. z ∙ ap (over values to) (ap (λ (i : ℕ). part bytes (i + l) w) hf ∙ holds_window ho s l w signal_there window_fits ∙ ap (λ (o : Option ℕ). map digit (window (become vs o (get_or old s [])) l w)) (sym g)))

        -- from the value of what is assigned
        module _ {d : ℕ} (hd : given assigns (stmts_in stmts) s ≡ Some d) where
          pub driver_asks : length values < 18446744073709551616 → Indexed (widths_in exprs) expr_table × (d ≤ length (records_in exprs)) × (offset (widths_in exprs) (length (records_in exprs)) ≤ 18446744073709551615)
          driver_asks v = (p.expr_offsets, omega (arith, driver_there s hd, length_widths exprs), omega (arith, r.values_room))

          module _ {from : ℕ} (hf : from ≡ offset (widths_in exprs) d) where
            value_end : from + l + w ≤ length values
            value_end = omega (arith, window_fits, driver_wide s hd, offset_before (widths_in exprs) d (length (records_in exprs)) (omega (arith, driver_there s hd, length_widths exprs)), r.values_room)

            pub driver_fits : length values < 18446744073709551616 → from + l < 18446744073709551616
            driver_fits v = omega (arith, value_end)

            apart : Dec (d < e) → (from + l + w ≤ to) ⊎ (to ≤ from + l)
            apart (yes y) = inl (omega (arith, window_fits, driver_wide s hd, offset_before (widths_in exprs) d e y))
            apart (no n) = inr (omega (arith, Rattle.simulation.proofs.Offsets.offset_le (widths_in exprs) e d (omega arith)))

            pub driver_moves : (to + w ≤ length values) × (from + l + w ≤ length values) × ((from + l + w ≤ to) ⊎ (to ≤ from + l))
            driver_moves = (read_own, value_end, apart (dec_lt d e))

            pub driver_done : {values' : List ℕ} → values' ≡ over values to (part values (from + l) w) → Computed signals exprs stmts bytes e values values'
            unfolding model_of
            driver_done z = finish (λ old vs behind rest ho hv. z ∙ ap (over values to) (ap (λ (i : ℕ). part values (i + l) w) hf ∙ holds_window hv d l w (driver_there s hd) (omega (arith, window_fits, driver_wide s hd)) ∙ ap (λ (o : Option ℕ). map digit (window (become vs o (get_or old s [])) l w)) (sym hd)))
