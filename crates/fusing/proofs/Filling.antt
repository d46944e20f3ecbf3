-- One expression's six words after the other's. Assumes nothing.
use Prim.Native.Nat.{ℕ, zero, suc, ◌+◌, ◌*◌, ◌-◌, ◌≤◌, ◌<◌, min}
use mathlib.Core.Path.{◌≡◌, refl, sym, ◌∙◌, ap, ap₂, subst}
use mathlib.Core.List.{List, [], ◌∷◌, ◌++◌, append-nil}
use native.Mathlib.Omega.{arith}
use native.Mathlib.Nat.{not-suc-le-zero, add-zero}
use native.Mathlib.Decide.{dec_lt}
use lib.ListN.{length, get_or, set, take, drop, length-set, length-drop}
use lib.Seq.{sets, get_or-set_same, get_or-set_other, drop-set-lt, drop-drop, drop_at, drop-length, take_all, length-take-le}
use borrow.Rule.Slice.PartMut.{mid_of, post_of, put_mid, Post-is}
use Rattle.simulation.specs.Index.{records_in, widths_in, offset, clipped}
use Rattle.simulation.proofs.Offsets.{clipped_sum}
use Rattle.simulation.proofs.Steps.{length_widths}
use Rattle.fusing.specs.declared.join.Lut.{Lut}
use Rattle.fusing.specs.Form.{form_at, Means, Formed}
use Rattle.fusing.specs.Join.{form_of}
use Rattle.fusing.specs.Finding.{Known, Formable, Entry, Finds, form_words, Puts, Behind}
use Rattle.std.specs.Prelude.{Option, None, Some}
use Rattle.fusing.proofs.Finding.{entry_offset}

-- SIX WORDS

pub six_stores : (l : List ℕ) (i t o a b c d : ℕ) → set (set (set (set (set (set l i t) (i + 1) o) (i + 2) a) (i + 3) b) (i + 4) c) (i + 5) d ≡ sets l i (t ∷ o ∷ a ∷ b ∷ c ∷ d ∷ [])
six_stores l i t o a b c d =
    let e1 : i + 1 ≡ suc i = omega arith in
    let e2 : i + 2 ≡ suc (suc i) = omega arith in
    let e3 : i + 3 ≡ suc (suc (suc i)) = omega arith in
    let e4 : i + 4 ≡ suc (suc (suc (suc i))) = omega arith in
    let e5 : i + 5 ≡ suc (suc (suc (suc (suc i)))) = omega arith in
    cc

sets_before : (vs l : List ℕ) (i j : ℕ) → j < i → get_or (sets l i vs) j 0 ≡ get_or l j 0
sets_before [] l i j h = refl
sets_before (a ∷ vs) l i j h = sets_before vs (set l i a) (suc i) j (omega arith) ∙ get_or-set_other l i j a 0 (λ e. omega arith)

sets_at : (vs l : List ℕ) (i j : ℕ) → j < length vs → i + length vs ≤ length l → get_or (sets l i vs) (i + j) 0 ≡ get_or vs j 0
sets_at [] l i j h q = absurd (not-suc-le-zero h)
sets_at (a ∷ vs) l i zero h q =
    ap (λ (n : ℕ). get_or (sets (set l i a) (suc i) vs) n 0) (add-zero i)
    ∙ sets_before vs (set l i a) (suc i) i (omega arith)
    ∙ get_or-set_same l i a 0 (omega arith)
sets_at (a ∷ vs) l i (suc j) h q =
    let e : i + suc j ≡ suc i + j = omega arith in
    ap (λ (n : ℕ). get_or (sets (set l i a) (suc i) vs) n 0) e ∙ sets_at vs (set l i a) (suc i) j (omega arith) (omega (arith, length-set l i a))

sets_behind : (vs l : List ℕ) (i n : ℕ) → i + length vs ≤ n → drop n (sets l i vs) ≡ drop n l
sets_behind [] l i n h = refl
sets_behind (a ∷ vs) l i n h = sets_behind vs (set l i a) (suc i) n (omega arith) ∙ drop-set-lt n l i a (omega arith)

-- ONE EXPRESSION MORE

words_six : (o : Option ℕ) (z : Option Lut) → length (form_words o z) ≤ 6
words_six None z = omega arith
words_six (Some o) None = omega arith
words_six (Some o) (Some z) = omega arith

words_some : (o : Option ℕ) (z : Option Lut) → 0 < length (form_words o z)
words_some None z = omega arith
words_some (Some o) None = omega arith
words_some (Some o) (Some z) = omega arith

module _ {e : ℕ} {own : Option ℕ} {z : Option Lut} {forms forms' : List ℕ} (p : Puts e own z forms forms') where
  kept_before : (i : ℕ) → i < 6 * e → get_or forms' i 0 ≡ get_or forms i 0
  kept_before i h = ap (λ (l : List ℕ). get_or l i 0) p.stored ∙ sets_before (form_words own z) forms (6 * e) i h

  same_form : (i : ℕ) → i < e → form_at forms' i ≡ form_at forms i
  same_form i h =
      let e0 : get_or forms' (6 * i) 0 ≡ get_or forms (6 * i) 0 = kept_before (6 * i) (omega arith) in
      let e2 : get_or forms' (6 * i + 2) 0 ≡ get_or forms (6 * i + 2) 0 = kept_before (6 * i + 2) (omega arith) in
      let e3 : get_or forms' (6 * i + 3) 0 ≡ get_or forms (6 * i + 3) 0 = kept_before (6 * i + 3) (omega arith) in
      let e4 : get_or forms' (6 * i + 4) 0 ≡ get_or forms (6 * i + 4) 0 = kept_before (6 * i + 4) (omega arith) in
      let e5 : get_or forms' (6 * i + 5) 0 ≡ get_or forms (6 * i + 5) 0 = kept_before (6 * i + 5) (omega arith) in
      cc

  pub kept_behind : {forms₀ : List ℕ} (n : ℕ) → e < n → Behind (6 * n) forms₀ forms → Behind (6 * n) forms₀ forms'
  kept_behind n h b = record { kept = ap (drop (6 * n)) p.stored ∙ sets_behind (form_words own z) forms (6 * e) (6 * n) (omega (arith, words_six own z)) ∙ b.kept }

  module _ (room : 6 * e + 6 ≤ length forms) where
    new_at : (j : ℕ) → j < length (form_words own z) → get_or forms' (6 * e + j) 0 ≡ get_or (form_words own z) j 0
    new_at j h = ap (λ (l : List ℕ). get_or l (6 * e + j) 0) p.stored ∙ sets_at (form_words own z) forms (6 * e) j h (omega (arith, words_six own z))

    new_table : get_or forms' (6 * e) 0 ≡ get_or (form_words own z) 0 0
    new_table = ap (λ (n : ℕ). get_or forms' n 0) (sym (add-zero (6 * e))) ∙ new_at 0 (words_some own z)

    -- what stands there where the table is one
    module _ {signals exprs stmts starts expr_table signal_table driver_table : List ℕ} (k : Known signals exprs stmts starts expr_table signal_table driver_table) (q : e < length (records_in exprs)) (n : (o : ℕ) → own ≡ Some o → Entry expr_table e o) (g : (v : Lut) → z ≡ Some v → Finds signals exprs stmts forms e v) where
      there : (o : Option ℕ) (y : Option Lut) → own ≡ o → z ≡ y → get_or forms' (6 * e) 0 < 65536 → Formed signals exprs stmts forms e → (get_or forms' (6 * e + 1) 0 ≡ offset (widths_in exprs) e) × Means signals exprs stmts e (form_at forms' e)
      there None y ho hz t f = absurd (let x : get_or forms' (6 * e) 0 ≡ 65536 = new_table ∙ ap (λ (r : Option ℕ). get_or (form_words r z) 0 0) ho in omega arith)
      there (Some o) None ho hz t f = absurd (let x : get_or forms' (6 * e) 0 ≡ 65536 = new_table ∙ ap₂ (λ (r : Option ℕ) (w : Option Lut). get_or (form_words r w) 0 0) ho hz in omega arith)
      there (Some o) (Some v) ho hz t f =
          let words : form_words own z ≡ form_words (Some o) (Some v) = ap₂ form_words ho hz in
          let six : length (form_words own z) ≡ 6 = ap length words in
          let at : (j : ℕ) → j < 6 → get_or forms' (6 * e + j) 0 ≡ get_or (form_words (Some o) (Some v)) j 0 = λ j h. new_at j (omega arith) ∙ ap (λ (l : List ℕ). get_or l j 0) words in
          let e0 : get_or forms' (6 * e) 0 ≡ v.table = new_table ∙ ap (λ (l : List ℕ). get_or l 0 0) words in
          let e2 : get_or forms' (6 * e + 2) 0 ≡ get_or v.inputs 0 0 = at 2 (omega arith) in
          let e3 : get_or forms' (6 * e + 3) 0 ≡ get_or v.inputs 1 0 = at 3 (omega arith) in
          let e4 : get_or forms' (6 * e + 4) 0 ≡ get_or v.inputs 2 0 = at 4 (omega arith) in
          let e5 : get_or forms' (6 * e + 5) 0 ≡ get_or v.inputs 3 0 = at 5 (omega arith) in
          let form : form_at forms' e ≡ form_of v = cc in (
            at 1 (omega arith) ∙ entry_offset (n o ho) k.prepared.expr_offsets (omega (arith, length_widths exprs)),
            subst (Means signals exprs stmts e) (sym form) ((g v hz).finds f),
          )

      pub formed_next : Formed signals exprs stmts forms e → Formed signals exprs stmts forms' (e + 1)
      formed_next f = record {
        own_position = λ i h t. own_of i h t (dec_lt i e);
        formed = λ i h t. form_of_lem i h t (dec_lt i e);
      }
        where
          new : (i : ℕ) → i ≡ e → get_or forms' (6 * i) 0 < 65536 → (get_or forms' (6 * e + 1) 0 ≡ offset (widths_in exprs) e) × Means signals exprs stmts e (form_at forms' e)
          new i x t = there own z refl refl (subst (λ (j : ℕ). get_or forms' (6 * j) 0 < 65536) x t) f

          old_small : (i : ℕ) → i < e → get_or forms' (6 * i) 0 < 65536 → get_or forms (6 * i) 0 < 65536
          old_small i h t = let x = kept_before (6 * i) (omega arith) in omega arith

          own_of : (i : ℕ) → i < e + 1 → get_or forms' (6 * i) 0 < 65536 → Dec (i < e) → get_or forms' (6 * i + 1) 0 ≡ offset (widths_in exprs) i
          own_of i h t (yes y) = kept_before (6 * i + 1) (omega arith) ∙ f.own_position i y (old_small i y t)
          own_of i h t (no y) =
              let x : i ≡ e = omega arith in
              subst (λ (j : ℕ). get_or forms' (6 * j + 1) 0 ≡ offset (widths_in exprs) j) (sym x) (new i x t).0

          form_of_lem : (i : ℕ) → i < e + 1 → get_or forms' (6 * i) 0 < 65536 → Dec (i < e) → Means signals exprs stmts i (form_at forms' i)
          form_of_lem i h t (yes y) = subst (Means signals exprs stmts i) (sym (same_form i y)) (f.formed i y (old_small i y t))
          form_of_lem i h t (no y) =
              let x : i ≡ e = omega arith in
              subst (λ (j : ℕ). Means signals exprs stmts j (form_at forms' j)) (sym x) (new i x t).1

pub formed_none : (signals exprs stmts forms : List ℕ) → Formed signals exprs stmts forms 0
formed_none signals exprs stmts forms = record { own_position = λ i h t. absurd (not-suc-le-zero h); formed = λ i h t. absurd (not-suc-le-zero h) }

-- the position behind all values
pub base_is : (exprs : List ℕ) (n sum base : ℕ) → n ≡ length (records_in exprs) → sum ≡ min (offset (widths_in exprs) n) 18446744073709551615 → base ≡ clipped sum → base ≡ clipped (offset (widths_in exprs) (length (records_in exprs)))
base_is exprs n sum base h s b = clipped_sum (offset (widths_in exprs) n) sum base s b ∙ ap (λ (i : ℕ). clipped (offset (widths_in exprs) i)) h

-- ALL OF THEM

pub formed_all : {signals exprs stmts forms : List ℕ} {e n : ℕ} → Formed signals exprs stmts forms e → e ≤ n → n ≤ e → Formed signals exprs stmts forms n
formed_all {signals} {exprs} {stmts} {forms} {e} {n} f h k =
    let x : e ≡ n = omega arith in
    subst (Formed signals exprs stmts forms) x f

-- a list whose words from one on are replaced
pub put_rest : (a : ℕ) (xs ys : List ℕ) → a ≤ length xs → drop a (put_mid a (length xs - a) xs ys) ≡ ys
put_rest a xs ys h =
    drop_at (take a xs) (ys ++ post_of a (length xs - a) xs) a (length-take-le a xs h)
    ∙ ap (λ (l : List ℕ). ys ++ l) (Post-is a (length xs) xs h ∙ drop-length xs)
    ∙ append-nil ys

-- what stands behind the words replaced
pub put_behind : (a k : ℕ) (xs ys : List ℕ) → a ≤ length xs → Behind k (mid_of a (length xs - a) xs) ys → Behind (a + k) xs (put_mid a (length xs - a) xs ys)
put_behind a k xs ys h e = record { kept = sym (drop-drop k a (put_mid a (length xs - a) xs ys)) ∙ ap (drop k) (put_rest a xs ys h) ∙ e.kept ∙ ap (drop k) (take_all (length xs - a) (drop a xs) (omega (arith, length-drop a xs))) ∙ drop-drop k a xs }

pub known_of : {signals exprs stmts starts expr_table signal_table driver_table forms : List ℕ} {n from : ℕ} → Formable signals exprs stmts starts expr_table signal_table driver_table n from forms → Known signals exprs stmts starts expr_table signal_table driver_table
known_of f = record { prepared = f.prepared; started = f.started; driven = f.driven }
