-- Words and records, both ways: the words of a model split and read back as the model, and what is read of words has those words.
-- Assumes nothing.
use Prim.Native.Nat.{ℕ, zero, suc, ◌+◌, ◌≤◌, ◌<◌}
use mathlib.Core.Path.{◌≡◌, refl, sym, ◌∙◌, ap}
use mathlib.Core.Bool.{Bool, true, false}
use mathlib.Core.List.{List, [], ◌∷◌, ◌++◌, map, tail}
use Rattle.std.specs.Prelude.{Option, None, Some}
use native.Mathlib.Omega.{arith}
use native.Mathlib.Nat.{not-suc-le-zero}
use lib.Dec.{eqb, leb}
use lib.ListN.{length, take, drop, length-append, length-drop}
use lib.Seq.{take-append_seam, drop-append_seam}
use borrow.Author.Tests.{le-leb, lt-leb, eqb-true}
use Rattle.recorder.specs.Record.{Signal, Expr, RegReset, RegEnable, Stmt, Model, sized, signal_words, expr_words, stmt_words, reset_words, enable_words}
use Rattle.recorder.specs.Record.{const, read, concat, not, and, or, xor, mux, eq, mul, assign, reg}
use Rattle.recorder.specs.Read.{Cut, none_left, stopped, before, cut, split, one, two, three, only, with_reset, with_enable, read_signal, read_expr, read_stmt, read_all, model_of}
use Rattle.recorder.specs.Words.{list_words, words_of, raw_of}

-- THE STEPS OF A SPLIT: what a loop over the words does

cut_record : (k n : ℕ) (ws : List ℕ) → n ≤ length ws → cut (suc k) (suc n ∷ ws) ≡ before (take n ws) (cut k (drop n ws))
cut_record k n ws h = rw (le-leb n (length ws) h, cut)

cut_short : (k n : ℕ) (ws : List ℕ) → length ws < n → cut (suc k) (suc n ∷ ws) ≡ stopped
cut_short k n ws h = rw (lt-leb n (length ws) h, cut)

-- more rounds than words change nothing
cut_enough : (k j : ℕ) (ws : List ℕ) → length ws ≤ k → length ws ≤ j → cut k ws ≡ cut j ws
cut_enough zero zero ws h g = refl
cut_enough zero (suc j) [] h g = refl
cut_enough zero (suc j) (w ∷ ws) h g = absurd (not-suc-le-zero h)
cut_enough (suc k) zero [] h g = refl
cut_enough (suc k) zero (w ∷ ws) h g = absurd (not-suc-le-zero g)
cut_enough (suc k) (suc j) [] h g = refl
cut_enough (suc k) (suc j) (zero ∷ ws) h g = refl
cut_enough (suc k) (suc j) (suc n ∷ ws) h g = go (leb n (length ws)) (cut_enough k j (drop n ws) (simp length-drop (omega arith)) (simp length-drop (omega arith)))
  where
    go : (b : Bool) → cut k (drop n ws) ≡ cut j (drop n ws) → ◌≡◌ {A = Cut} (elim b [ true ↦ before (take n ws) (cut k (drop n ws)) | false ↦ stopped ]) (elim b [ true ↦ before (take n ws) (cut j (drop n ws)) | false ↦ stopped ])
    go true e = ap (before (take n ws)) e
    go false e = refl

pub split_nil : split [] ≡ none_left
unfolding split
split_nil = refl

pub split_zero : (ws : List ℕ) → split (zero ∷ ws) ≡ stopped
unfolding split
split_zero ws = refl

pub split_record : (n : ℕ) (ws : List ℕ) → n ≤ length ws → split (suc n ∷ ws) ≡ before (take n ws) (split (drop n ws))
unfolding split
split_record n ws h = cut_record (length ws) n ws h ∙ ap (before (take n ws)) (cut_enough (length ws) (length (drop n ws)) (drop n ws) (simp length-drop (omega arith)) (omega arith))

pub split_short : (n : ℕ) (ws : List ℕ) → length ws < n → split (suc n ∷ ws) ≡ stopped
unfolding split
split_short n ws h = cut_short (length ws) n ws h

-- RECORDS TO WORDS AND BACK

one_more : (n : ℕ) → 1 + n ≡ suc n
one_more n = omega arith

pub split_sized : (r ws : List ℕ) → split (sized r ++ ws) ≡ before r (split ws)
split_sized r ws =
    ap (λ (n : ℕ). split (n ∷ (r ++ ws))) (one_more (length r))
    ∙ split_record (length r) (r ++ ws) (simp length-append (omega arith))
    ∙ ap (λ (l : List ℕ). before l (split (drop (length r) (r ++ ws)))) (take-append_seam r ws)
    ∙ ap (λ (l : List ℕ). before r (split l)) (drop-append_seam r ws)

abbrev all_whole : List (List ℕ) → Cut
all_whole rs = record { records = rs; whole = true }

-- the words of one kind of record, f, and what reads its fields, g
pub record Kind {A : Type 0} (f : A → List ℕ) (g : List ℕ → Option A) : Type 0 where
  -- a record is its length and its fields
  pub is_sized : (a : A) → f a ≡ sized (tail (f a))
  -- what was written is read
  pub back : (a : A) → g (tail (f a)) ≡ Some a

module _ {A : Type 0} {f : A → List ℕ} {g : List ℕ → Option A} (kind : Kind f g) where
  -- the words of records split into them
  pub words_split : (l : List A) → split (list_words f l) ≡ all_whole (map (λ a. tail (f a)) l)
  words_split [] = split_nil
  words_split (a ∷ l) =
      ap (λ (ws : List ℕ). split (ws ++ list_words f l)) (kind.is_sized a)
      ∙ split_sized (tail (f a)) (list_words f l)
      ∙ ap (before (tail (f a))) (words_split l)

  fields_read : (l : List A) → read_all g (map (λ a. tail (f a)) l) ≡ l
  fields_read [] = refl
  fields_read (a ∷ l) = rw (kind.back a) (ap (λ (t : List A). a ∷ t) (fields_read l))

  -- and are read back
  pub words_read : (l : List A) → read_all g (split (list_words f l)).records ≡ l
  words_read l = ap (λ (c : Cut). read_all g c.records) (words_split l) ∙ fields_read l

-- WHAT WAS READ WAS WRITTEN, by the number of fields

clash : {A B : Type 0} {a : A} → ◌≡◌ {A = Option A} None (Some a) → B
clash q = let z : ◌≡◌ {A = ℕ} 0 1 = cc in absurd (omega arith)

module _ {A : Type 0} (words : A → List ℕ) {x : A} where
  some_words : {y : A} {ws : List ℕ} → ◌≡◌ {A = Option A} (Some y) (Some x) → words y ≡ ws → words x ≡ ws
  some_words {y} q h = let e : y ≡ x = cc in sym (ap words e) ∙ h

  one_said : (f : ℕ → A) (pre : List ℕ → List ℕ) → ((a : ℕ) → words (f a) ≡ sized (pre (a ∷ []))) → (l : List ℕ) → one f l ≡ Some x → words x ≡ sized (pre l)
  one_said f pre h [] q = clash q
  one_said f pre h (a ∷ []) q = some_words q (h a)
  one_said f pre h (a ∷ b ∷ l) q = clash q

  two_said : (f : ℕ → ℕ → A) (pre : List ℕ → List ℕ) → ((a b : ℕ) → words (f a b) ≡ sized (pre (a ∷ b ∷ []))) → (l : List ℕ) → two f l ≡ Some x → words x ≡ sized (pre l)
  two_said f pre h [] q = clash q
  two_said f pre h (a ∷ l) q = one_said (f a) (λ t. pre (a ∷ t)) (h a) l q

  three_said : (f : ℕ → ℕ → ℕ → A) (pre : List ℕ → List ℕ) → ((a b c : ℕ) → words (f a b c) ≡ sized (pre (a ∷ b ∷ c ∷ []))) → (l : List ℕ) → three f l ≡ Some x → words x ≡ sized (pre l)
  three_said f pre h [] q = clash q
  three_said f pre h (a ∷ l) q = two_said (f a) (λ t. pre (a ∷ t)) (h a) l q

  -- a width that must be n
  only_said : (w n : ℕ) (o : Option A) (pre : ℕ → List ℕ) → (o ≡ Some x → words x ≡ pre n) → only (eqb w n) o ≡ Some x → words x ≡ pre w
  only_said w n o pre h q = go (eqb w n) refl q
    where
      go : (b : Bool) → eqb w n ≡ b → only b o ≡ Some x → words x ≡ pre w
      go true e q = h q ∙ ap pre (sym (eqb-true w n e))
      go false e q = clash q

  enable_said : (f : Option RegEnable → A) (pre : List ℕ → List ℕ) → ((e : Option RegEnable) → words (f e) ≡ sized (pre (enable_words e))) → (l : List ℕ) → with_enable f l ≡ Some x → words x ≡ sized (pre l)
  enable_said f pre h [] q = clash q
  enable_said f pre h (zero ∷ []) q = some_words q (h None)
  enable_said f pre h (zero ∷ a ∷ l) q = clash q
  enable_said f pre h (suc zero ∷ l) q = two_said (λ s a. f (Some (record { signal = s; active = a }))) (λ t. pre (1 ∷ t)) (λ s a. h (Some (record { signal = s; active = a }))) l q
  enable_said f pre h (suc (suc n) ∷ l) q = clash q

  reset_said : (f : Option RegReset → List ℕ → Option A) (pre : List ℕ → List ℕ) → ((r : Option RegReset) (l : List ℕ) → f r l ≡ Some x → words x ≡ sized (pre (reset_words r ++ l))) → (l : List ℕ) → with_reset f l ≡ Some x
      → words x ≡ sized (pre l)
  reset_said f pre h [] q = clash q
  reset_said f pre h (zero ∷ l) q = h None l q
  reset_said f pre h (suc zero ∷ []) q = clash q
  reset_said f pre h (suc zero ∷ s ∷ []) q = clash q
  reset_said f pre h (suc zero ∷ s ∷ a ∷ []) q = clash q
  reset_said f pre h (suc zero ∷ s ∷ a ∷ v ∷ l) q = h (Some (record { signal = s; active = a; value = v })) l q
  reset_said f pre h (suc (suc n) ∷ l) q = clash q

pub signal_said : (r : List ℕ) {s : Signal} → read_signal r ≡ Some s → signal_words s ≡ sized r
signal_said r q = three_said signal_words (λ l w o. record { label = l; width = w; owner = o }) (λ t. t) (λ l w o. refl) r q

-- two operands, and a width that the kind fixes
fixed_said : (k w n : ℕ) (f : ℕ → ℕ → Expr) (l : List ℕ) {e : Expr} → ((a b : ℕ) → expr_words (f a b) ≡ sized (k ∷ n ∷ a ∷ b ∷ [])) → only (eqb w n) (two f l) ≡ Some e → expr_words e ≡ sized (k ∷ w ∷ l)
fixed_said k w n f l h q = only_said expr_words w n (two f l) (λ v. sized (k ∷ v ∷ l)) (λ p. two_said expr_words f (λ t. k ∷ n ∷ t) h l p) q

pub expr_said : (r : List ℕ) {e : Expr} → read_expr r ≡ Some e → expr_words e ≡ sized r
expr_said [] q = clash q
expr_said (k ∷ []) q = clash q
expr_said (zero ∷ w ∷ l) q = one_said expr_words (const w) (λ t. 0 ∷ w ∷ t) (λ a. refl) l q
expr_said (suc zero ∷ w ∷ l) q = two_said expr_words (read w) (λ t. 1 ∷ w ∷ t) (λ a b. refl) l q
expr_said (suc (suc zero) ∷ w ∷ l) q = some_words expr_words q refl
expr_said (suc (suc (suc zero)) ∷ w ∷ l) q = only_said expr_words w 1 (one not l) (λ v. sized (3 ∷ v ∷ l)) (λ p. one_said expr_words not (λ t. 3 ∷ 1 ∷ t) (λ a. refl) l p) q
expr_said (suc (suc (suc (suc zero))) ∷ w ∷ l) q = fixed_said 4 w 1 and l (λ a b. refl) q
expr_said (suc (suc (suc (suc (suc zero)))) ∷ w ∷ l) q = fixed_said 5 w 1 or l (λ a b. refl) q
expr_said (suc (suc (suc (suc (suc (suc zero))))) ∷ w ∷ l) q = fixed_said 6 w 1 xor l (λ a b. refl) q
expr_said (suc (suc (suc (suc (suc (suc (suc zero)))))) ∷ w ∷ l) q = three_said expr_words (mux w) (λ t. 7 ∷ w ∷ t) (λ a b c. refl) l q
expr_said (suc (suc (suc (suc (suc (suc (suc (suc zero))))))) ∷ w ∷ l) q = fixed_said 8 w 1 eq l (λ a b. refl) q
expr_said (suc (suc (suc (suc (suc (suc (suc (suc (suc zero)))))))) ∷ w ∷ l) q = fixed_said 9 w 36 mul l (λ a b. refl) q
expr_said (suc (suc (suc (suc (suc (suc (suc (suc (suc (suc k))))))))) ∷ w ∷ l) q = clash q

pub stmt_said : (r : List ℕ) {s : Stmt} → read_stmt r ≡ Some s → stmt_words s ≡ sized r
stmt_said [] q = clash q
stmt_said (zero ∷ l) q = two_said stmt_words assign (λ t. 0 ∷ t) (λ a b. refl) l q
stmt_said (suc zero ∷ []) q = clash q
stmt_said (suc zero ∷ t ∷ []) q = clash q
stmt_said (suc zero ∷ t ∷ n ∷ []) q = clash q
stmt_said (suc zero ∷ t ∷ n ∷ c ∷ []) q = clash q
stmt_said (suc zero ∷ t ∷ n ∷ c ∷ d ∷ l) q =
    reset_said stmt_words (λ r. with_enable (reg t n c d r)) (λ z. 1 ∷ t ∷ n ∷ c ∷ d ∷ z)
    (λ r m p. enable_said stmt_words (reg t n c d r) (λ z. 1 ∷ t ∷ n ∷ c ∷ d ∷ reset_words r ++ z) (λ e. refl) m p) l q
stmt_said (suc (suc k) ∷ l) q = clash q

-- THE THREE KINDS

pub signal_kind : Kind signal_words read_signal
signal_kind = record { is_sized = λ s. refl; back = λ s. refl }

expr_sized : (e : Expr) → expr_words e ≡ sized (tail (expr_words e))
expr_sized (const w v) = refl
expr_sized (read w s l) = refl
expr_sized (concat w ps) = refl
expr_sized (not a) = refl
expr_sized (and a b) = refl
expr_sized (or a b) = refl
expr_sized (xor a b) = refl
expr_sized (mux w s t f) = refl
expr_sized (eq a b) = refl
expr_sized (mul a b) = refl

expr_back : (e : Expr) → read_expr (tail (expr_words e)) ≡ Some e
expr_back (const w v) = refl
expr_back (read w s l) = refl
expr_back (concat w ps) = refl
expr_back (not a) = refl
expr_back (and a b) = refl
expr_back (or a b) = refl
expr_back (xor a b) = refl
expr_back (mux w s t f) = refl
expr_back (eq a b) = refl
expr_back (mul a b) = refl

pub expr_kind : Kind expr_words read_expr
expr_kind = record { is_sized = expr_sized; back = expr_back }

stmt_sized : (s : Stmt) → stmt_words s ≡ sized (tail (stmt_words s))
stmt_sized (assign t e) = refl
stmt_sized (reg t n c d r e) = refl

enable_back : {A : Type 0} (f : Option RegEnable → A) (e : Option RegEnable) → with_enable f (enable_words e) ≡ Some (f e)
enable_back f None = refl
enable_back f (Some e) = refl

stmt_back : (s : Stmt) → read_stmt (tail (stmt_words s)) ≡ Some s
stmt_back (assign t e) = refl
stmt_back (reg t n c d None e) = enable_back (reg t n c d None) e
stmt_back (reg t n c d (Some r) e) = enable_back (reg t n c d (Some r)) e

pub stmt_kind : Kind stmt_words read_stmt
stmt_kind = record { is_sized = stmt_sized; back = stmt_back }

-- ALL THREE LISTS

pub model_read : (m : Model) → model_of (raw_of (words_of m)) ≡ m
unfolding model_of
model_read m = λ i. record { signals = words_read signal_kind m.signals i; exprs = words_read expr_kind m.exprs i; stmts = words_read stmt_kind m.stmts i }
