-- Laws of names and fields.
-- Assumes nothing.
use mathlib.Core.Path.{◌≡◌, refl, sym, ◌∙◌, ap, ap₂}
use mathlib.Core.List.{List, [], ◌∷◌, ◌++◌}
use Prim.Native.Nat.{ℕ, zero, suc, ◌+◌, ◌≤◌, ◌<◌}
use native.Mathlib.Nat.{add-zero}
use native.Mathlib.Numerals.{add-one}
use lib.ListN.{length, get_or, drop, get_or-eq_default, drop_of_length-le}
use lib.Seq.{drop-cons, drop-drop, get_or-drop}
use Rattle.std.specs.Prelude.{map}
use Rattle.std.proofs.Common.{Bor, arith}
use Rattle.std.proofs.lemmas.List.{get_or-map, length-map}
use Rattle.text.specs.Decimal.{decimal}
use Rattle.lines.specs.Names.{named}
use Rattle.lines.specs.Lines.{field, fields_text, expr_fields, reg_marks, stmt_fields}

-- NAMES

abbrev spelled : List (Bor (List ℕ)) → List (List ℕ)
spelled names = map (λ name. name.now) names

pub named_within : (names : List (Bor (List ℕ))) (k : ℕ) (x : Bor (List ℕ)) → k < length names → x ≡ get_or names k x → x.now ≡ named (spelled names) k
unfolding named
named_within names k x h e = ap (λ (y : Bor (List ℕ)). y.now) e ∙ sym (get_or-map (λ (name : Bor (List ℕ)). name.now) names k x (decimal k) h)

-- past the names
pub named_past : (names : List (Bor (List ℕ))) (k : ℕ) → length names ≤ k → 32 ∷ decimal k ≡ 32 ∷ named (spelled names) k
unfolding named
named_past names k h = sym (ap (λ (l : List ℕ). 32 ∷ l) (get_or-eq_default (spelled names) (decimal k) (omega (arith, h, length-map names (λ (name : Bor (List ℕ)). name.now)))))

-- FIELDS

fields_cons : (marks : List ℕ) (last n : ℕ) (f : List ℕ) → fields_text marks last (n ∷ f) ≡ field (get_or marks 0 last) n ++ fields_text (drop 1 marks) last f
fields_cons [] last n f = refl
fields_cons (m ∷ marks) last n f = refl

module _ (marks : List ℕ) (last : ℕ) (f : List ℕ) (i : ℕ) where
  pub left_end : length f ≤ i → fields_text (drop i marks) last (drop i f) ≡ []
  left_end h = ap (fields_text (drop i marks) last) (drop_of_length-le f h)

  pub left_next : {m : ℕ} → m ≡ get_or marks i last → i < length f → fields_text (drop i marks) last (drop i f) ≡ field m (get_or f i 0) ++ fields_text (drop (i + 1) marks) last (drop (i + 1) f)
  left_next {m} e h =
      let q : get_or (drop i marks) 0 last ≡ m = get_or-drop i marks 0 last ∙ ap (λ (k : ℕ). get_or marks k last) (add-zero i) ∙ sym e in
      let d : drop (suc i) f ≡ drop (i + 1) f = ap (λ (k : ℕ). drop k f) (sym (add-one i)) in
      ap (fields_text (drop i marks) last) (drop-cons f i 0 h)
      ∙ fields_cons (drop i marks) last (get_or f i 0) (drop (suc i) f)
      ∙ ap (λ (x : ℕ). field x (get_or f i 0) ++ fields_text (drop 1 (drop i marks)) last (drop (suc i) f)) q
      ∙ ap₂ (λ (x y : List ℕ). field m (get_or f i 0) ++ fields_text x last y) (drop-drop 1 i marks) d

-- OPERANDS, AND WHAT A STATEMENT SETS

pub of_others : (kind : ℕ) (f : List ℕ) → 2 ≤ kind → fields_text (45 ∷ []) 101 f ≡ expr_fields kind f
unfolding expr_fields
of_others zero f h = absurd (omega arith)
of_others (suc zero) f h = absurd (omega arith)
of_others (suc (suc k)) f h = refl

pub of_reg : (kind : ℕ) (f : List ℕ) {marks : List ℕ} → 1 ≤ kind → marks ≡ reg_marks f → fields_text marks 45 f ≡ stmt_fields kind f
unfolding stmt_fields
of_reg zero f h e = absurd (omega arith)
of_reg (suc k) f h e = ap (λ (m : List ℕ). fields_text m 45 f) e
