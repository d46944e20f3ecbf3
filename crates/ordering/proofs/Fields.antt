-- What an expression needs, by the words of its record.
use Prim.Native.Nat.{ℕ, zero, suc, ◌+◌, ◌-◌, ◌≤◌, ◌<◌}
use mathlib.Core.Path.{◌≡◌, refl, sym, ◌∙◌, ap, subst}
use mathlib.Core.Bool.{Bool, true, false, ◌||◌}
use mathlib.Core.List.{List, [], ◌∷◌, tail}
use Rattle.std.specs.Prelude.{Option, None, Some}
use native.Mathlib.Omega.{arith}
use native.Mathlib.Nat.{not-suc-le-zero}
use lib.Dec.{eqb}
use lib.ListN.{length, get_or, take, drop}
use lib.Seq.{drop-drop, take-nil}
use borrow.Author.Tests.{eq-eqb, ne_eqb}
use Rattle.bits.specs.Bits.{pick}
use Rattle.recorder.specs.Record.{Expr, Model, expr_words}
use Rattle.recorder.specs.Record.{const, read, concat, not, and, or, xor, mux, eq, mul}
use Rattle.recorder.specs.Read.{read_expr, read_all}
use Rattle.recorder.specs.Words.{EachReads}
use Rattle.recorder.proofs.Roundtrip.{expr_said}
use Rattle.settle.specs.Tests.{all, any}
use Rattle.simulation.specs.Tick.{given, assigns}
use Rattle.simulation.specs.Index.{records_in, start_of}
use Rattle.simulation.proofs.Ands.{and_true}
use Rattle.ordering.specs.Order.{listed, needs_of, needs}
use Rattle.ordering.specs.Marks.{marked, ready, reads_it, touched}
use Rattle.ordering.specs.Words.{model_in, mark_of, driver_marked}
use Rattle.ordering.proofs.Records.{record_word, record_inside, record_fields, record_field}

drop_take : (k n : ℕ) (l : List ℕ) → drop k (take n l) ≡ take (n - k) (drop k l)
drop_take zero n l = let z : n ≡ n - 0 = omega arith in ap (λ (j : ℕ). take j l) z
drop_take (suc k) zero l = let z : 0 - suc k ≡ 0 = omega arith in ap (λ (j : ℕ). take j (drop (suc k) l)) (sym z)
drop_take (suc k) (suc n) [] = sym (take-nil (suc n - suc k))
drop_take (suc k) (suc n) (a ∷ l) = let z : n - k ≡ suc n - suc k = omega arith in drop_take k n l ∙ ap (λ (j : ℕ). take j (drop k l)) z

or_false : (b : Bool) → (b || false) ≡ b
or_false true = refl
or_false false = refl

read_cons : {A : Type 0} (g : List ℕ → Option A) (r : List ℕ) (rs : List (List ℕ)) (a : A) → g r ≡ Some a → read_all g (r ∷ rs) ≡ a ∷ read_all g rs
read_cons g r rs a e = rw (e, read_all)

-- record k is read as number k
pub read_at : {A : Type 0} (g : List ℕ → Option A) (rs : List (List ℕ)) (d : A) → EachReads g rs → (k : ℕ) → k < length rs → g (get_or rs k []) ≡ Some (get_or (read_all g rs) k d)
read_at g [] d t k h = absurd (not-suc-le-zero h)
read_at g (r ∷ rs) d t zero h = t.0.reads ∙ ap (λ (l : List _). Some (get_or l 0 d)) (sym (read_cons g r rs t.0.as_this t.0.reads))
read_at g (r ∷ rs) d t (suc k) h = read_at g rs d t.1 k (omega arith) ∙ ap (λ (l : List _). Some (get_or l (suc k) d)) (sym (read_cons g r rs t.0.as_this t.0.reads))

pub read_count : {A : Type 0} (g : List ℕ → Option A) (rs : List (List ℕ)) → EachReads g rs → length (read_all g rs) ≡ length rs
read_count g [] t = refl
read_count g (r ∷ rs) t = ap length (read_cons g r rs t.0.as_this t.0.reads) ∙ ap suc (read_count g rs t.1)

-- BY A RECORD'S FIELDS

abbrev needs_by : Model → List ℕ → List ℕ
needs_by m r = pick (eqb (get_or r 0 0) 0) [] (pick (eqb (get_or r 0 0) 1) (listed (given assigns m.stmts (get_or r 2 0))) (drop 2 r))

needs_words : (m : Model) (x : Expr) → needs_of m.stmts x ≡ needs_by m (tail (expr_words x))
needs_words m (const w v) = refl
needs_words m (read w s l) = refl
needs_words m (concat w ps) = refl
needs_words m (not a) = refl
needs_words m (and a b) = refl
needs_words m (or a b) = refl
needs_words m (xor a b) = refl
needs_words m (mux w a b c) = refl
needs_words m (eq a b) = refl
needs_words m (mul a b) = refl

reads_words : (s : ℕ) (x : Expr) → reads_it s x ≡ pick (eqb (get_or (tail (expr_words x)) 0 0) 1) (eqb (get_or (tail (expr_words x)) 2 0) s) false
reads_words s (const w v) = refl
reads_words s (read w y l) = refl
reads_words s (concat w ps) = refl
reads_words s (not a) = refl
reads_words s (and a b) = refl
reads_words s (or a b) = refl
reads_words s (xor a b) = refl
reads_words s (mux w a b c) = refl
reads_words s (eq a b) = refl
reads_words s (mul a b) = refl

-- a record has a kind and a width; a read has four fields
least : (x : Expr) → 2 ≤ length (tail (expr_words x))
least (const w v) = omega arith
least (read w y l) = omega arith
least (concat w ps) = omega arith
least (not a) = omega arith
least (and a b) = omega arith
least (or a b) = omega arith
least (xor a b) = omega arith
least (mux w a b c) = omega arith
least (eq a b) = omega arith
least (mul a b) = omega arith

read_long : (x : Expr) → get_or (tail (expr_words x)) 0 0 ≡ 1 → length (tail (expr_words x)) ≡ 4
read_long (const w v) h = absurd (omega arith)
read_long (read w y l) h = refl
read_long (concat w ps) h = absurd (omega arith)
read_long (not a) h = absurd (omega arith)
read_long (and a b) h = absurd (omega arith)
read_long (or a b) h = absurd (omega arith)
read_long (xor a b) h = absurd (omega arith)
read_long (mux w a b c) h = absurd (omega arith)
read_long (eq a b) h = absurd (omega arith)
read_long (mul a b) h = absurd (omega arith)

module _ (exprs stmts : List ℕ) (readable : EachReads read_expr (records_in exprs)) (e : ℕ) (h : e < length (records_in exprs)) where
  abbrev m : Model
  m = model_in exprs stmts

  abbrev r : List ℕ
  r = get_or (records_in exprs) e []

  abbrev x : Expr
  x = get_or m.exprs e (const 0 0)

  fields : tail (expr_words x) ≡ r
  fields = ap tail (expr_said r (read_at read_expr (records_in exprs) (const 0 0) readable e h))

  long : 2 ≤ length r
  long = subst (λ (l : List ℕ). 2 ≤ length l) fields (least x)

  needs_by_lem : needs m e ≡ needs_by m r
  needs_by_lem = needs_words m x ∙ ap (needs_by m) fields

  reads_by : (s : ℕ) → reads_it s x ≡ pick (eqb (get_or r 0 0) 1) (eqb (get_or r 2 0) s) false
  reads_by s = reads_words s x ∙ ap (λ (l : List ℕ). pick (eqb (get_or l 0 0) 1) (eqb (get_or l 2 0) s) false) fields

  module _ (at : ℕ) (p : at ≡ start_of exprs e) where
    abbrev kind : ℕ
    kind = get_or exprs (at + 1) 0

    kind_is : kind ≡ get_or r 0 0
    kind_is = ap (λ (j : ℕ). get_or exprs j 0) (omega (arith, p)) ∙ record_field exprs e h 0 (omega (arith, long))

    -- the words that the code reads
    pub kind_inside : at + 1 < length exprs
    kind_inside = let i = record_inside exprs e h in let l = long in omega (arith, i, l, p)

    pub word_inside : at < length exprs
    word_inside = let i = record_inside exprs e h in omega (arith, i, p)

    pub read_inside : kind ≡ 1 → at + 3 < length exprs
    read_inside k =
        let i = record_inside exprs e h in
        let l : length r ≡ 4 = ap length (sym fields) ∙ read_long x (ap (λ (l : List ℕ). get_or l 0 0) fields ∙ sym kind_is ∙ k) in
        omega (arith, i, l, p)

    pub word_is : get_or exprs at 0 ≡ length r + 1
    word_is = ap (λ (j : ℕ). get_or exprs j 0) p ∙ record_word exprs e h

    pub word_least : 3 ≤ get_or exprs at 0
    word_least = let w = word_is in let l = long in omega (arith, w, l)

    pub operands_inside : at + 3 + (get_or exprs at 0 - 3) ≤ length exprs
    operands_inside = let i = record_inside exprs e h in let w = word_is in let l = long in omega (arith, i, w, l, p)

    signal_is : kind ≡ 1 → get_or exprs (at + 3) 0 ≡ get_or r 2 0
    signal_is k =
        let l : length r ≡ 4 = ap length (sym fields) ∙ read_long x (ap (λ (l : List ℕ). get_or l 0 0) fields ∙ sym kind_is ∙ k) in
        ap (λ (j : ℕ). get_or exprs j 0) (omega (arith, p)) ∙ record_field exprs e h 2 (omega (arith, l))

    operands_are : drop 2 r ≡ take (get_or exprs at 0 - 3) (drop (at + 3) exprs)
    operands_are =
        let w = word_is in
        let l = long in
        let n : length r - 2 ≡ get_or exprs at 0 - 3 = omega (arith, w, l) in
        let q : start_of exprs e + 1 + 2 ≡ at + 3 = omega (arith, p) in
        ap (drop 2) (record_fields exprs e h)
        ∙ drop_take 2 (length r) (drop (start_of exprs e + 1) exprs)
        ∙ ap (take (length r - 2)) (drop-drop 2 (start_of exprs e + 1) exprs)
        ∙ ap (λ (k : ℕ). take k (drop (start_of exprs e + 1 + 2) exprs)) n
        ∙ ap (λ (j : ℕ). take (get_or exprs at 0 - 3) (drop j exprs)) q

    none_needed : kind ≡ 0 → needs m e ≡ []
    none_needed k = needs_by_lem ∙ ap (λ (b : Bool). pick b [] (pick (eqb (get_or r 0 0) 1) (listed (given assigns m.stmts (get_or r 2 0))) (drop 2 r))) (eq-eqb (get_or r 0 0) 0 (sym kind_is ∙ k))

    driver_needed : kind ≡ 1 → needs m e ≡ listed (given assigns m.stmts (get_or exprs (at + 3) 0))
    driver_needed k =
        let z : get_or r 0 0 ≡ 1 = sym kind_is ∙ k in
        needs_by_lem
        ∙ ap (λ (n : ℕ). pick (eqb n 0) [] (pick (eqb n 1) (listed (given assigns m.stmts (get_or r 2 0))) (drop 2 r))) z
        ∙ ap (λ (s : ℕ). listed (given assigns m.stmts s)) (sym (signal_is k))

    operands_needed : (kind ≡ 0 → ⊥) → (kind ≡ 1 → ⊥) → needs m e ≡ take (get_or exprs at 0 - 3) (drop (at + 3) exprs)
    operands_needed a b =
        needs_by_lem
        ∙ ap (λ (t : Bool). pick t [] (pick (eqb (get_or r 0 0) 1) (listed (given assigns m.stmts (get_or r 2 0))) (drop 2 r))) (ne_eqb (get_or r 0 0) 0 (λ z. a (kind_is ∙ z)))
        ∙ ap (λ (t : Bool). pick t (listed (given assigns m.stmts (get_or r 2 0))) (drop 2 r)) (ne_eqb (get_or r 0 0) 1 (λ z. b (kind_is ∙ z)))
        ∙ operands_are

    not_read : (s : ℕ) → (kind ≡ 1 → ⊥) → reads_it s x ≡ false
    not_read s b = reads_by s ∙ ap (λ (t : Bool). pick t (eqb (get_or r 2 0) s) false) (ne_eqb (get_or r 0 0) 1 (λ z. b (kind_is ∙ z)))

    read_of : (s : ℕ) → kind ≡ 1 → reads_it s x ≡ eqb (get_or exprs (at + 3) 0) s
    read_of s k =
        reads_by s ∙ ap (λ (t : Bool). pick t (eqb (get_or r 2 0) s) false) (eq-eqb (get_or r 0 0) 1 (sym kind_is ∙ k)) ∙ ap (λ (y : ℕ). eqb y s) (sym (signal_is k))

    -- READY

    module _ (marks : List ℕ) where
      by_mark : (o : Option ℕ) → mark_of marks true o ≡ all (marked marks) (listed o)
      by_mark None = refl
      by_mark (Some d) = sym (and_true (marked marks d))

      by_no_mark : (o : Option ℕ) → mark_of marks false o ≡ any (marked marks) (listed o)
      by_no_mark None = refl
      by_no_mark (Some d) = sym (or_false (marked marks d))

      pub ready_none : kind ≡ 0 → true ≡ ready m marks e
      ready_none k = sym (ap (all (marked marks)) (none_needed k))

      pub ready_driver : kind ≡ 1 → {b : Bool} → b ≡ driver_marked stmts marks (get_or exprs (at + 3) 0) true → b ≡ ready m marks e
      ready_driver k q = q ∙ by_mark (given assigns m.stmts (get_or exprs (at + 3) 0)) ∙ ap (all (marked marks)) (sym (driver_needed k))

      pub ready_operands : (kind ≡ 0 → ⊥) → (kind ≡ 1 → ⊥) → {b : Bool} → b ≡ all (marked marks) (take (get_or exprs at 0 - 3) (drop (at + 3) exprs)) → b ≡ ready m marks e
      ready_operands a c q = q ∙ ap (all (marked marks)) (sym (operands_needed a c))

      -- TOUCHED

      pub touched_none : (s : ℕ) → kind ≡ 0 → false ≡ touched m marks s e
      touched_none s k = sym (ap (λ (b : Bool). b || any (marked marks) (needs m e)) (not_read s (λ z. absurd (omega (arith, k, z)))) ∙ ap (any (marked marks)) (none_needed k))

      pub touched_read : (s : ℕ) → kind ≡ 1 → get_or exprs (at + 3) 0 ≡ s → true ≡ touched m marks s e
      touched_read s k q = sym (ap (λ (b : Bool). b || any (marked marks) (needs m e)) (read_of s k ∙ eq-eqb (get_or exprs (at + 3) 0) s q))

      pub touched_driver : (s : ℕ) → kind ≡ 1 → (get_or exprs (at + 3) 0 ≡ s → ⊥) → {b : Bool} → b ≡ driver_marked stmts marks (get_or exprs (at + 3) 0) false → b ≡ touched m marks s e
      touched_driver s k n q =
          q
          ∙ by_no_mark (given assigns m.stmts (get_or exprs (at + 3) 0))
          ∙ ap (any (marked marks)) (sym (driver_needed k))
          ∙ ap (λ (b : Bool). b || any (marked marks) (needs m e)) (sym (read_of s k ∙ ne_eqb (get_or exprs (at + 3) 0) s n))

      pub touched_operands : (s : ℕ) → (kind ≡ 0 → ⊥) → (kind ≡ 1 → ⊥) → {b : Bool} → b ≡ any (marked marks) (take (get_or exprs at 0 - 3) (drop (at + 3) exprs)) → b ≡ touched m marks s e
      touched_operands s a c q = q ∙ ap (any (marked marks)) (sym (operands_needed a c)) ∙ ap (λ (b : Bool). b || any (marked marks) (needs m e)) (sym (not_read s c))
