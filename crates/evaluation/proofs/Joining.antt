-- The loop that joins the parts of a concat, from the highest bits down. Assumes nothing.
use Prim.Native.Nat.{ℕ, zero, suc, ◌+◌, ◌-◌, ◌≤◌, ◌<◌}
use mathlib.Core.Path.{◌≡◌, refl, sym, ◌∙◌, ap, ap₂, subst}
use mathlib.Core.Logic.{◌⊎◌, inl}
use mathlib.Core.Bool.{true, ◌&&◌}
use mathlib.Core.List.{List, [], ◌∷◌, map}
use native.Mathlib.Omega.{arith}
use native.Mathlib.Numerals.{add-one}
use native.Mathlib.Nat.{add-zero}
use lib.Dec.{ltb}
use lib.ListN.{length, get_or, take, drop, set, length-append, length-map, drop_of_length-le}
use lib.Seq.{sets, set_comm, take-set-le, take-take, drop-cons}
use borrow.Author.Tests.{ltb-true}
use Rattle.bits.specs.Bits.{Bits, digit}
use Rattle.settle.specs.Tests.{and_left, and_right}
use Rattle.recorder.specs.Record.{Expr, expr_words}
use Rattle.recorder.specs.Lists.{over}
use Rattle.recorder.specs.Evaluate.{joined_parts}
use Rattle.recorder.proofs.Room.{over_over}
use Rattle.simulation.specs.Wellformed.{earlier, width_sum}
use Rattle.simulation.specs.Run.{expr_width}
use Rattle.simulation.specs.Index.{records_in, widths_in, offset, Indexed}
use Rattle.simulation.proofs.Offsets.{offset_next}
use Rattle.evaluation.specs.Bytes.{part, Holds}
use Rattle.evaluation.specs.Ready.{expr_in, Ready, Evaluated}
use Rattle.evaluation.proofs.Held.{holds_width, holds_part, map_append}
use Rattle.evaluation.proofs.ByKind.{Concat, is_concat, words_first, words_enough, words_width}
use Rattle.evaluation.proofs.Evaluating.{offset_before, own_there, own_room, own_width, the_word, word_inside, kind_is, sum_fits, written}

-- BYTES LAID OVER OTHERS

set_over : (l : List ℕ) (i j a : ℕ) (bs : List ℕ) → i < j → set (over l j bs) i a ≡ over (set l i a) j bs
unfolding over
set_over l i j a [] h = refl
set_over l i j a (b ∷ bs) h = set_over (set l j b) i (suc j) a bs (omega arith) ∙ ap (λ (k : List ℕ). sets k (suc j) bs) (set_comm l j i b a (λ p. absurd (omega arith)))

-- lower bytes and higher ones in either order
pub over_comm : (us l : List ℕ) (i j : ℕ) (bs : List ℕ) → i + length us ≤ j → over (over l j bs) i us ≡ over (over l i us) j bs
unfolding over
over_comm [] l i j bs h = refl
over_comm (a ∷ us) l i j bs h = ap (λ (k : List ℕ). sets k (suc i) us) (set_over l i j a bs (omega arith)) ∙ over_comm us (set l i a) (suc i) j bs (omega arith)

pub take_over : (n : ℕ) (l : List ℕ) (i : ℕ) (bs : List ℕ) → n ≤ i → take n (over l i bs) ≡ take n l
unfolding over
take_over n l i [] h = refl
take_over n l i (b ∷ bs) h = take_over n (set l i b) (suc i) bs (omega arith) ∙ take-set-le n l i b h

part_take : (s n k : ℕ) (l : List ℕ) → s + n ≤ k → take n (drop s (take k l)) ≡ take n (drop s l)
part_take zero n k l h = take-take n k l (omega arith)
part_take (suc s) n zero l h = absurd (omega arith)
part_take (suc s) n (suc k) [] h = refl
part_take (suc s) n (suc k) (a ∷ l) h = part_take s n k l (omega arith)

-- what stands before k
pub part_kept : (l l₀ : List ℕ) (k s n : ℕ) → take k l ≡ take k l₀ → s + n ≤ k → part l s n ≡ part l₀ s n
part_kept l l₀ k s n e h = sym (part_take s n k l h) ∙ ap (λ (r : List ℕ). take n (drop s r)) e ∙ part_take s n k l₀ h

-- THE LOOP

pub record Joining (exprs : List ℕ) (e : ℕ) (values₀ values : List ℕ) (i pos : ℕ) : Type 0 where
  pub from_third : 3 ≤ i
  pub where_to : pos ≡ offset (widths_in exprs) e + width_sum (widths_in exprs) (drop i (expr_words (expr_in exprs e)))
  pub below : pos ≤ offset (widths_in exprs) e + get_or (widths_in exprs) e 0
  pub all_earlier : earlier e (drop i (expr_words (expr_in exprs e))) ≡ true
  pub kept : take (offset (widths_in exprs) e) values ≡ take (offset (widths_in exprs) e) values₀
  pub still : (vs : List Bits) (rest : List ℕ) → Holds (widths_in exprs) vs rest values₀ → over values (offset (widths_in exprs) e) (map digit (joined_parts vs (drop i (expr_words (expr_in exprs e))))) ≡ over values₀ (offset (widths_in exprs) e) (map digit (joined_parts vs (drop 3 (expr_words (expr_in exprs e)))))

-- the joined parts are as wide as their sum
joined_long : (ew : List ℕ) (vs : List Bits) (e : ℕ) → ((i : ℕ) → i < e → length (get_or vs i []) ≡ get_or ew i 0) → (ps : List ℕ) → earlier e ps ≡ true → length (joined_parts vs ps) ≡ width_sum ew ps
joined_long ew vs e g [] h = refl
joined_long ew vs e g (p ∷ ps) h =
    length-append (joined_parts vs ps) (get_or vs p [])
    ∙ ap₂ ◌+◌ (joined_long ew vs e g ps (and_right (ltb p e) (earlier e ps) h)) (g p (ltb-true p e (and_left (ltb p e) (earlier e ps) h)))
    ∙ omega arith

module _ {exprs table values₀ : List ℕ} {at e : ℕ} (h : Ready exprs table values₀ at e) (k : get_or exprs (at + 1) 0 ≡ 2) where
  abbrev ew : List ℕ
  ew = widths_in exprs

  abbrev x : Expr
  x = expr_in exprs e

  abbrev W : List ℕ
  W = expr_words (expr_in exprs e)

  joined : Concat (widths_in exprs) e (drop 3 (expr_words (expr_in exprs e))) (expr_in exprs e)
  joined = is_concat h.widest h.signal_widths_lem ew e x h.fits (sym (kind_is h (sym k)))

  pub concat_inside : (j : ℕ) → j < 3 → at + j < length exprs
  concat_inside j q = word_inside h j (omega (arith, words_enough x))

  -- the first word is the number of words
  pub concat_size : {size : ℕ} → size ≡ get_or exprs at 0 → size ≡ length (expr_words (expr_in exprs e))
  concat_size z = z ∙ ap (λ (n : ℕ). get_or exprs n 0) (sym (add-zero at)) ∙ the_word h 0 (omega arith) ∙ words_first x

  pub concat_first : at < length exprs
  concat_first = omega (arith, word_inside h 0 (omega (arith, words_enough x)))

  -- what the offsets of a part ask
  pub concat_asks : (n : ℕ) → length values₀ < 18446744073709551616 → n < e → Indexed (widths_in exprs) table × (n + 1 ≤ length (records_in exprs)) × (offset (widths_in exprs) (length (records_in exprs)) ≤ 18446744073709551615)
  concat_asks n q b = (h.offsets, omega (arith, h.there), sum_fits h q)

  width_is : {w : ℕ} → w ≡ get_or exprs (at + 2) 0 → w ≡ expr_width (expr_in exprs e)
  width_is z = z ∙ the_word h 2 (omega arith) ∙ words_width x

  pub concat_end : {to w : ℕ} → to ≡ offset (widths_in exprs) e → w ≡ get_or exprs (at + 2) 0 → to + w ≤ length values₀
  concat_end p z = omega (arith, own_room h, own_width h, width_is z)

  pub joining_start : {to w : ℕ} → to ≡ offset (widths_in exprs) e → w ≡ get_or exprs (at + 2) 0 → Joining exprs e values₀ values₀ 3 (to + w)
  joining_start p z = record {
    from_third = omega arith;
    where_to = ap₂ ◌+◌ p (width_is z ∙ joined.is_wide);
    below = omega (arith, width_is z, own_width h);
    all_earlier = joined.all_earlier;
    kept = refl;
    still = λ vs rest v. refl;
  }

  module _ {values : List ℕ} {i pos : ℕ} (j : Joining exprs e values₀ values i pos) (l : i < length (expr_words (expr_in exprs e))) where
    front : drop i (expr_words (expr_in exprs e)) ≡ get_or exprs (at + i) 0 ∷ drop (i + 1) (expr_words (expr_in exprs e))
    front = drop-cons W i 0 l ∙ ap₂ (λ (a n : ℕ). a ∷ drop n W) (sym (h.words i l)) (sym (add-one i))

    front_earlier : (ltb (get_or exprs (at + i) 0) e && earlier e (drop (i + 1) (expr_words (expr_in exprs e)))) ≡ true
    front_earlier = ap (earlier e) (sym front) ∙ j.all_earlier

    pub part_before : get_or exprs (at + i) 0 < e
    part_before = ltb-true (get_or exprs (at + i) 0) e (and_left (ltb (get_or exprs (at + i) 0) e) (earlier e (drop (i + 1) W)) front_earlier)

    pub part_inside : at + i < length exprs
    part_inside = word_inside h i l

    -- the part's first byte and its number of bytes
    module _ {p from end : ℕ} (q : p ≡ get_or exprs (at + i) 0) (r : from ≡ offset (widths_in exprs) p) (s : end ≡ offset (widths_in exprs) (p + 1)) where
      wide_is : end ≡ from + get_or (widths_in exprs) p 0
      wide_is = s ∙ offset_next ew p ∙ ap (λ (n : ℕ). n + get_or ew p 0) (sym r)

      pub part_less : from ≤ end
      part_less = omega (arith, wide_is)

      sum_is : pos ≡ offset (widths_in exprs) e + (get_or (widths_in exprs) p 0 + width_sum (widths_in exprs) (drop (i + 1) (expr_words (expr_in exprs e))))
      sum_is = j.where_to ∙ ap (λ (ps : List ℕ). offset ew e + width_sum ew ps) front ∙ ap (λ (n : ℕ). offset ew e + (get_or ew n 0 + width_sum ew (drop (i + 1) W))) (sym q)

      pub part_fits : end - from ≤ pos
      part_fits = omega (arith, wide_is, sum_is)

      ends_before : from + (end - from) ≤ offset (widths_in exprs) e
      ends_before = omega (arith, wide_is, offset_before ew p e (subst (λ (n : ℕ). n < e) (sym q) part_before))

      pub part_moves : length values ≡ length values₀ → (pos - (end - from) + (end - from) ≤ length values) × (from + (end - from) ≤ length values) × ((from + (end - from) ≤ pos - (end - from)) ⊎ (pos - (end - from) ≤ from))
      part_moves z =
          let f = part_fits in
          let b = ends_before in
          let o = own_room h in
          let u = sum_is in
          let w = wide_is in
          (omega (arith, j.below), omega arith, inl (omega arith))

      pub joining_step : {values' : List ℕ} → values' ≡ over values (pos - (end - from)) (part values from (end - from)) → Joining exprs e values₀ values' (i + 1) (pos - (end - from))
      joining_step {values'} g = record {
        from_third = omega (arith, j.from_third);
        where_to = there;
        below = omega (arith, j.below);
        all_earlier = rest_earlier;
        kept = ap (take to) g ∙ take_over to values (pos - (end - from)) (part values from (end - from)) (omega (arith, there)) ∙ j.kept;
        still = λ vs rest v. laid vs rest v;
      }
        where
          to : ℕ
          to = offset (widths_in exprs) e

          there : pos - (end - from) ≡ offset (widths_in exprs) e + width_sum (widths_in exprs) (drop (i + 1) (expr_words (expr_in exprs e)))
          there = omega (arith, wide_is, sum_is)

          rest_earlier : earlier e (drop (i + 1) (expr_words (expr_in exprs e))) ≡ true
          rest_earlier = and_right (ltb (get_or exprs (at + i) 0) e) (earlier e (drop (i + 1) (expr_words (expr_in exprs e)))) front_earlier

          bytes_are : (vs : List Bits) (rest : List ℕ) → Holds (widths_in exprs) vs rest values₀ → part values from (end - from) ≡ map digit (get_or vs p [])
          bytes_are vs rest v =
              let w : end - from ≡ get_or (widths_in exprs) p 0 = omega (arith, wide_is) in
              part_kept values values₀ (offset (widths_in exprs) e) from (end - from) j.kept ends_before
              ∙ ap₂ (λ (a n : ℕ). part values₀ a n) r w
              ∙ holds_part v p (omega (arith, q, part_before, own_there h))

          long_is : (vs : List Bits) (rest : List ℕ) → Holds (widths_in exprs) vs rest values₀ → pos - (end - from) ≡ offset (widths_in exprs) e + length (map digit (joined_parts vs (drop (i + 1) (expr_words (expr_in exprs e)))))
          long_is vs rest v =
              there
              ∙ ap (λ (n : ℕ). offset (widths_in exprs) e + n) (sym (length-map (joined_parts vs (drop (i + 1) (expr_words (expr_in exprs e)))) digit ∙ joined_long (widths_in exprs) vs e (λ a b. holds_width v a (omega (arith, own_there h))) (drop (i + 1) (expr_words (expr_in exprs e))) rest_earlier))

          laid : (vs : List Bits) (rest : List ℕ) → Holds (widths_in exprs) vs rest values₀ → over values' (offset (widths_in exprs) e) (map digit (joined_parts vs (drop (i + 1) (expr_words (expr_in exprs e))))) ≡ over values₀ (offset (widths_in exprs) e) (map digit (joined_parts vs (drop 3 (expr_words (expr_in exprs e)))))
          laid vs rest v =
              let A : List ℕ = map digit (joined_parts vs (drop (i + 1) (expr_words (expr_in exprs e)))) in
              let B : List ℕ = map digit (get_or vs p []) in
              let n = long_is vs rest v in
              ap (λ (l : List ℕ). over l (offset (widths_in exprs) e) (map digit (joined_parts vs (drop (i + 1) (expr_words (expr_in exprs e)))))) (g ∙ ap (over values (pos - (end - from))) (bytes_are vs rest v))
              ∙ over_comm A values (offset (widths_in exprs) e) (pos - (end - from)) B (omega arith)
              ∙ ap (λ (m : ℕ). over (over values (offset (widths_in exprs) e) (map digit (joined_parts vs (drop (i + 1) (expr_words (expr_in exprs e)))))) m (map digit (get_or vs p []))) n
              ∙ over_over A B values (offset (widths_in exprs) e)
              ∙ ap (over values (offset (widths_in exprs) e)) (sym (map_append digit (joined_parts vs (drop (i + 1) (expr_words (expr_in exprs e)))) (get_or vs p [])))
              ∙ ap (λ (m : ℕ). over values (offset (widths_in exprs) e) (map digit (joined_parts vs (m ∷ drop (i + 1) (expr_words (expr_in exprs e)))))) q
              ∙ ap (λ (ps : List ℕ). over values (offset (widths_in exprs) e) (map digit (joined_parts vs ps))) (sym front)
              ∙ j.still vs rest v

  pub joining_end : {values : List ℕ} {i pos : ℕ} → Joining exprs e values₀ values i pos → length (expr_words (expr_in exprs e)) ≤ i → Evaluated exprs e values₀ values
  unfolding over
  joining_end {values} {i} j l = written h values (λ σ vs rest v. ap (λ (ps : List ℕ). over values (offset ew e) (map digit (joined_parts vs ps))) (sym (drop_of_length-le W {i = i} l)) ∙ j.still vs rest v ∙ ap (λ (b : Bits). over values₀ (offset ew e) (map digit b)) (sym (joined.value σ vs)))
