-- A list's records, one after the other. Assumes nothing.
use Rattle.std.proofs.Common.{ℕ, zero, suc, ◌+◌, ◌-◌, ◌≤◌, ◌<◌, ◌≡◌, min, Bool, true, false, refl, sym, ◌∙◌, ap, List, [], ◌∷◌, length, get_or, take, drop, map, leb, Option, None, Some, arith, Bor, slice_get, unwrap_or, option_map}
use Rattle.std.specs.Iterator.{YieldsFirstRef, Yields}
use Rattle.std.specs.Iterator.Adapters.{take_steps}
use Rattle.std.specs.List.{zip, range_with_len}
use Rattle.std.specs.declared.iter.Take.{Take}
use Rattle.std.specs.declared.iter.Zip.{Zip}
use Rattle.std.specs.declared.ops.Range.{Range}
use Rattle.std.proofs.iter.Yields.{nat_range_steps}
use Rattle.std.proofs.lemmas.Iterator.{YieldsList, YieldsList-from_take, YieldsList-from_zip, YieldsList-from_range, zips}
use Rattle.std.proofs.lemmas.Iterator.Consumers.{YieldsList-from_first, YieldsList-turn, YieldsList-end}
use Rattle.std.proofs.lemmas.List.{length-take, get_or_default}
use Rattle.std.proofs.lemmas.List.FromFn.{length-range_with_len, get_or-range_with_len}
use Rattle.std.proofs.lemmas.Slice.Zip.{length-zip, get_or-zip}
use native.Mathlib.Decide.{dec_lt}
use lib.ListN.{length-drop, length-map}
use lib.Seq.{get_or-take, length-take-le}
use borrow.Author.Tests.{leb-true}
use Rattle.recorder.specs.Read.{Cut, cut, split, before, stopped}
use Rattle.recorder.specs.declared.records.Records.{Records}
use Rattle.simulation.specs.Index.{records_in, widths_in, offset, start_of}
use Rattle.simulation.specs.Wellformed.{widths}
use Rattle.recorder.specs.Records.{left}
use Rattle.simulation.proofs.Offsets.{offset_past, start_next}
use Rattle.simulation.proofs.Steps.{width_of, length_widths}

-- HOW MANY THERE ARE

-- n were seen, and the words `rest` are left
pub record Counting (l : List ℕ) (n : ℕ) (rest : List ℕ) : Type 0 where
  pub count : n + length (records_in rest) ≡ length (records_in l)
  pub whole : (split l).whole ≡ (split rest).whole

-- WHERE THEY STAND

inside_cut : (k : ℕ) (ws : List ℕ) (j : ℕ) → offset (map (λ (r : List ℕ). length r + 1) (cut k ws).records) j ≤ length ws
inside_cut zero ws zero = omega arith
inside_cut zero ws (suc j) = omega arith
inside_cut (suc k) [] zero = omega arith
inside_cut (suc k) [] (suc j) = omega arith
inside_cut (suc k) (zero ∷ ws) zero = omega arith
inside_cut (suc k) (zero ∷ ws) (suc j) = omega arith
inside_cut (suc k) (suc n ∷ ws) zero = omega arith
inside_cut (suc k) (suc n ∷ ws) (suc j) = go (leb n (length ws)) refl (inside_cut k (drop n ws) j)
  where
    go : (b : Bool) → leb n (length ws) ≡ b → offset (map (λ (r : List ℕ). length r + 1) (cut k (drop n ws)).records) j ≤ length (drop n ws) → offset (map (λ (r : List ℕ). length r + 1) (elim b as (λ (x : Bool). Cut) [ true ↦ before (take n ws) (cut k (drop n ws)) | false ↦ stopped ]).records) (suc j) ≤ suc (length ws)
    go true q h = omega (arith, h, length-drop n ws, length-take-le n ws (leb-true n (length ws) q), leb-true n (length ws) q)
    go false q h = omega arith

pub start_inside : (l : List ℕ) (n : ℕ) → start_of l n ≤ length l
unfolding start_of split
start_inside l n = inside_cut (length l) l n

-- THE FIRST k OF THEM: the one that an iteration has, record n

pub record Taken (l : List ℕ) (k n : ℕ) (r : List ℕ) : Type 0 where
  pub asked : n < k
  pub there : n < length (records_in l)
  pub is : get_or (records_in l) n [] ≡ r

module _ {l : List ℕ} {k n : ℕ} {r : List ℕ} (t : Taken l k n r) where
  pub taken_width : get_or r 1 0 ≡ get_or (widths_in l) n 0
  taken_width = sym (width_of l n ∙ ap (λ (r : List ℕ). get_or r 1 0) t.is)

  pub taken_start : start_of l n + (length r + 1) ≡ start_of l (n + 1)
  taken_start = ap (λ (r : List ℕ). start_of l n + (length r + 1)) (sym t.is) ∙ sym (start_next l n t.there)

-- no sum over the records grows behind them
offset_taken : (ws : List ℕ) (m k n : ℕ) → length ws ≡ m → n ≡ min k m → offset ws n ≡ offset ws k
offset_taken ws m k n e h = go (dec_lt m k)
  where
    go : Dec (m < k) → offset ws n ≡ offset ws k
    go (yes q) = let z : n ≡ length ws = omega arith in ap (offset ws) z ∙ sym (offset_past ws k (omega arith))
    go (no q) = let z : n ≡ k = omega arith in ap (offset ws) z

module _ (l : List ℕ) (k : ℕ) {n : ℕ} (h : n ≡ min k (length (records_in l))) where
  pub sum_taken : offset (widths_in l) n ≡ offset (widths_in l) k
  sum_taken = offset_taken (widths_in l) (length (records_in l)) k n (length_widths l) h

  pub start_taken : start_of l n ≡ start_of l k
  unfolding start_of
  start_taken = offset_taken (map (λ (r : List ℕ). length r + 1) (records_in l)) (length (records_in l)) k n (length-map (records_in l) (λ (r : List ℕ). length r + 1)) h

-- by `take`
module _ {l : List ℕ} {k : ℕ} {s z : Take Records} {w : Records} (g : s ≡ z) (f : z.iter ≡ w) (q : z.n ≡ k) (e : w.rest.now ≡ l) where
  firsts : YieldsList (take_steps (YieldsFirstRef left)) (λ r. r.now) s (take k (records_in l))
  firsts = YieldsList-from_take k (YieldsList-from_first (λ r. r.now) left (records_in l) (ap (λ (z : Take Records). left z.iter) g ∙ ap left f ∙ ap records_in e)) (ap (λ (z : Take Records). z.n) g ∙ q)

  module _ (xs : List (Bor (List ℕ))) (t u : Take Records) (y : Yields (take_steps (YieldsFirstRef left)) s xs t) {r : Option (Bor (List ℕ))} where
    pub first_turn : (x : Bor (List ℕ)) → r ≡ Some x → take_steps (YieldsFirstRef left) t r u → Taken l k (length xs) x.now
    first_turn x w m =
        let h = YieldsList-turn firsts xs t y r u x w m in
        let z = length-take k (records_in l) in
        let i : length xs < k = omega (arith, h.0) in
        let j : length xs < length (records_in l) = omega (arith, h.0) in
        record { asked = i; there = j; is = get_or_default (records_in l) (length xs) [] x.now j ∙ sym (h.1 ∙ get_or-take k (records_in l) (length xs) x.now i) }

    pub first_end : r ≡ None → take_steps (YieldsFirstRef left) t r u → length xs ≡ min k (length (records_in l))
    first_end w m = (YieldsList-end firsts xs t y r u w m).1 ∙ length-take k (records_in l)

numbered_count : (a k : ℕ) (l : List ℕ) → length (zip (range_with_len a k) (records_in l)) ≡ min k (length (records_in l))
numbered_count a k l = length-zip (range_with_len a k) (records_in l) ∙ ap (λ (n : ℕ). min n (length (records_in l))) (length-range_with_len a k)

-- beside the numbers from a to b
module _ {l : List ℕ} {a b : ℕ} (k : ℕ) {s z : Zip (Range ℕ) Records} {w : Records} (g : s ≡ z) (f : z.a ≡ record { start = a; end = b }) (o : z.b ≡ w) (e : w.rest.now ≡ l) (d : b - a ≡ k) where
  numbered : YieldsList {B = ℕ × List ℕ} (zips nat_range_steps (YieldsFirstRef left)) (λ p. (p.0, p.1.now)) s (zip (range_with_len a k) (records_in l))
  numbered = YieldsList-from_zip (YieldsList-from_range a b k (ap (λ (z : Zip (Range ℕ) Records). z.a) g ∙ f) d) (YieldsList-from_first (λ r. r.now) left (records_in l) (ap (λ (z : Zip (Range ℕ) Records). left z.b) g ∙ ap left o ∙ ap records_in e))

  module _ (xs : List (ℕ × Bor (List ℕ))) (t u : Zip (Range ℕ) Records) (y : Yields (zips nat_range_steps (YieldsFirstRef left)) s xs t) {r : Option (ℕ × Bor (List ℕ))} where
    pub numbered_turn : (x : ℕ × Bor (List ℕ)) → r ≡ Some x → zips nat_range_steps (YieldsFirstRef left) t r u → (x.0 ≡ a + length xs) × Taken l k (length xs) x.1.now
    numbered_turn x w m =
        let h = YieldsList-turn numbered xs t y r u x w m in
        let i : length xs < k = omega (arith, h.0, numbered_count a k l) in
        let j : length xs < length (records_in l) = omega (arith, h.0, numbered_count a k l) in
        let g = h.1 ∙ get_or-zip (range_with_len a k) (records_in l) (length xs) (x.0, x.1.now) (omega (arith, i, length-range_with_len a k)) j in (
          ap (λ (p : ℕ × List ℕ). p.0) g ∙ get_or-range_with_len a k (length xs) x.0 i,
          record { asked = i; there = j; is = get_or_default (records_in l) (length xs) [] x.1.now j ∙ sym (ap (λ (p : ℕ × List ℕ). p.1) g) },
        )

    pub numbered_end : r ≡ None → zips nat_range_steps (YieldsFirstRef left) t r u → length xs ≡ min k (length (records_in l))
    numbered_end w m = (YieldsList-end numbered xs t y r u w m).1 ∙ numbered_count a k l

-- RECORD i, IF THERE IS ONE

module _ (l : List ℕ) (i : ℕ) where
  got : (rs : List (List ℕ)) (i : ℕ) (o : Option (List ℕ)) → o ≡ slice_get rs i → unwrap_or (option_map (λ r. get_or r 1 0) o) 0 ≡ get_or (widths rs) i 0
  got [] i o e = ap (λ (o : Option (List ℕ)). unwrap_or (option_map (λ r. get_or r 1 0) o) 0) e
  got (r ∷ rs) zero o e = ap (λ (o : Option (List ℕ)). unwrap_or (option_map (λ r. get_or r 1 0) o) 0) e
  got (r ∷ rs) (suc i) o e = got rs i o e

  pub width_got : (o : Option (List ℕ)) → o ≡ slice_get (records_in l) i → unwrap_or (option_map (λ r. get_or r 1 0) o) 0 ≡ get_or (widths_in l) i 0
  width_got = got (records_in l) i
