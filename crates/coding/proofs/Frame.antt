-- What stands in a table of words is kept while others are written behind it. Assumes nothing.
use Prim.Native.Nat.{ℕ, ◌+◌, ◌*◌, ◌≤◌, ◌<◌}
use mathlib.Core.Path.{◌≡◌, sym, ◌∙◌, ap, subst}
use mathlib.Core.Logic.{inl, inr}
use mathlib.Core.List.{List}
use native.Mathlib.Omega.{arith}
use lib.ListN.{length, get_or, take, drop}
use lib.Seq.{take-take, get_or-take, get_or-drop}
use Rattle.simulation.specs.Index.{records_in}
use Rattle.evaluation.specs.Loads.{Begins}
use Rattle.evaluation.specs.Late.{Among, Registers}
use Rattle.fusing.specs.Form.{form_at, Means, Formed}
use Rattle.coding.specs.Coded.{Known, Computable, Coded}
use Rattle.coding.proofs.Running.{five}

-- S may be wider
pub known_more : (signals exprs : List ℕ) {S T : ℕ → Type 0} → ((x : ℕ) → S x → T x) → (p : ℕ) → Known signals exprs S p → Known signals exprs T p
known_more signals exprs up p (inl h) = inl h
known_more signals exprs up p (inr h) = inr (h.0, up h.0 h.1, h.2)

-- fewer words
pub take_less : {n m : ℕ} (a b : List ℕ) → n ≤ m → take m a ≡ take m b → take n a ≡ take n b
take_less {n} {m} a b h z = sym (take-take n m a h) ∙ ap (take n) z ∙ take-take n m b h

module _ (m : ℕ) (order order' : List ℕ) (z : take m order' ≡ take m order) where
  pub word_kept : (i : ℕ) → i < m → get_or order' i 0 ≡ get_or order i 0
  word_kept i h = sym (get_or-take m order' i 0 h) ∙ ap (λ (l : List ℕ). get_or l i 0) z ∙ get_or-take m order i 0 h

  pub among_kept : {from k x : ℕ} → from + k ≤ m → Among order from k x → Among order' from k x
  among_kept {from} {k} {x} h a = record { place = a.place; before = a.before; stands = word_kept (from + a.place) (omega (arith, h, a.before)) ∙ a.stands }

  pub registers_kept : {stmts : List ℕ} {from k : ℕ} → from + k ≤ m → Registers stmts order from k → Registers stmts order' from k
  registers_kept {stmts} {from} h r = record { each = λ j q. subst (Begins stmts) (sym (word_kept (from + j) (omega (arith, h, q)))) (r.each j q); all = λ number q t. among_kept h (r.all number q t) }

  -- the words of forms, which stand behind the order of n expressions
  module _ {n : ℕ} (hm : 7 * n ≤ m) where
    form_kept : (e i : ℕ) → e < n → i < 6 → get_or (drop n order') (6 * e + i) 0 ≡ get_or (drop n order) (6 * e + i) 0
    form_kept e i q l = get_or-drop n order' (6 * e + i) 0 ∙ word_kept (n + (6 * e + i)) (omega (arith, hm, q, l)) ∙ sym (get_or-drop n order (6 * e + i) 0)

    table_kept : (e : ℕ) → e < n → get_or (drop n order') (6 * e) 0 ≡ get_or (drop n order) (6 * e) 0
    table_kept e q = get_or-drop n order' (6 * e) 0 ∙ word_kept (n + 6 * e) (omega (arith, hm, q)) ∙ sym (get_or-drop n order (6 * e) 0)

    module _ {signals exprs stmts : List ℕ} where
      pub formed_kept : Formed signals exprs stmts (drop n order) n → Formed signals exprs stmts (drop n order') n
      formed_kept f = record {
        own_position = λ e q h. form_kept e 1 q (omega arith) ∙ f.own_position e q (omega (arith, h, table_kept e q));
        formed = λ e q h. subst (Means signals exprs stmts e) (sym (same e q)) (f.formed e q (omega (arith, h, table_kept e q)));
      }
        where
          same : (e : ℕ) → e < n → form_at (drop n order') e ≡ form_at (drop n order) e
          same e q = five (λ t a b c d. record { table = t; first = a; second = b; third = c; fourth = d }) (table_kept e q) (form_kept e 2 q (omega arith)) (form_kept e 3 q (omega arith)) (form_kept e 4 q (omega arith)) (form_kept e 5 q (omega arith))

      pub computable_kept : {S T : ℕ → Type 0} {e : ℕ} → n ≡ length (records_in exprs) → ((x : ℕ) → S x → T x) → Computable signals exprs stmts S (drop n order) e → Computable signals exprs stmts T (drop n order') e
      computable_kept {S} {T} {e} hn up c = record {
        there = c.there;
        by_form = λ h. let f = c.by_form (omega (arith, h, table_kept e here)) in (more 2 (omega arith) f.0, more 3 (omega arith) f.1, more 4 (omega arith) f.2, more 5 (omega arith) f.3);
        by_needs = λ h d i. up d (c.by_needs (omega (arith, h, table_kept e here)) d i);
      }
        where
          here : e < n
          here = omega (arith, hn, c.there)

          more : (i : ℕ) → i < 6 → Known signals exprs S (get_or (drop n order) (6 * e + i) 0) → Known signals exprs T (get_or (drop n order') (6 * e + i) 0)
          more i l k = subst (Known signals exprs T) (sym (form_kept e i here l)) (known_more signals exprs up (get_or (drop n order) (6 * e + i) 0) k)

  -- right code stays right code
  pub coded_kept : {signals exprs stmts : List ℕ} {n from k : ℕ} → n ≡ length (records_in exprs) → from + k ≤ m → length order' ≡ length order → Coded signals exprs stmts n from k order → Coded signals exprs stmts n from k order'
  coded_kept {signals} {exprs} {stmts} {n} {from} {k} hn hm l c = record {
    forms_before = c.forms_before;
    room = omega (arith, l, c.room);
    formed = formed_kept before c.formed;
    each = λ j q.
        subst (Computable signals exprs stmts (Among order' from j) (drop n order')) (sym (word_kept (from + j) (omega (arith, hm, q))))
        (computable_kept before hn (λ x a. among_kept (omega (arith, hm, q)) a) (c.each j q));
  }
    where
      before : 7 * n ≤ m
      before = omega (arith, hm, c.forms_before)
