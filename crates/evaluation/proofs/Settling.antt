-- Settling expression by expression, along an order or in passes: whoever has the right value keeps it. Assumes nothing.
use Prim.Native.Nat.{ℕ, suc, ◌+◌, ◌≤◌, ◌<◌}
use mathlib.Core.Path.{◌≡◌, refl, sym, ◌∙◌, ap, subst, fun_ext}
use mathlib.Core.Logic.{◌⊎◌, inl, inr}
use mathlib.Core.Bool.{Bool, true, false, not, ◌||◌, false≢true, Bool-discrete, not-not, or-true, or-false}
use mathlib.Core.List.Memᴰ.{append_cases}
use mathlib.Core.List.Memᴰ.{append_left as mem-left}
use mathlib.Core.List.Memᴰ.{cases_cons}
use mathlib.Core.List.Memᴰ.{eq_of_singleton as singleton}
use mathlib.Core.List.Memᴰ.{head as here}
use mathlib.Core.List.Memᴰ.{not-nil}
use mathlib.Core.List.Memᴰ.{tail as there}
use mathlib.Core.List.{List, [], ◌∷◌, ◌++◌, Memᴰ as Mem}
use Rattle.std.specs.Prelude.{Option, None, Some}
use Rattle.bits.proofs.Options.{none_ne_some}
use native.Mathlib.Omega.{arith}
use native.Mathlib.Decide.{ℕ_discrete}
use lib.Dec.{eqb, leb}
use lib.ListN.{length, get_or, set, take, replicate, length-set}
use lib.Seq.{get_or-set_same, get_or-set_other, set-get_or, take-suc}
use Rattle.bits.specs.Bits.{pick, Bits}
use Rattle.settle.specs.Table.{tab_from}
use Rattle.settle.specs.Tests.{all_out}
use Rattle.recorder.specs.Record.{Stmt, Model, assign}
use Rattle.recorder.specs.Lists.{lists}
use Rattle.recorder.specs.Read.{read_stmt, model_of}
use Rattle.recorder.specs.Words.{raw_of}
use Rattle.simulation.specs.Wellformed.{or_else}
use Rattle.simulation.specs.Tick.{target, given, assigns, looped, values_in, settle}
use Rattle.simulation.specs.Index.{records_in, widths_in, stmts_in}
use Rattle.simulation.proofs.Sound.{stmts_read}
use Rattle.simulation.proofs.Steps.{length_widths}
use Rattle.simulation.proofs.Tally.{get_d_zeros}
use Rattle.ordering.specs.Order.{listed, needs}
use Rattle.ordering.specs.Marks.{marked, ready, left, adds}
use Rattle.ordering.specs.Words.{model_in as exprs_model}
use Rattle.ordering.proofs.Marking.{unlooped_marked}
use Rattle.ordering.proofs.Sorted.{left_set, adds_new, Quiet, quiet_none, quiet_more, quiet_stuck}
use Rattle.evaluation.specs.Bytes.{Holds}
use Rattle.evaluation.specs.Consistent.{stored, computed, Right}
use Rattle.evaluation.specs.Ready.{model_in, Prepared, Room, Computed}
use Rattle.evaluation.specs.Ticks.{NoFault, Filled, Ordered, Settles, SettlesNamed, Stores, Settled}
use Rattle.evaluation.specs.Loads.{Named, SameNamed}
use Rattle.evaluation.specs.Settling.{InOrder, InMarks, RightOn, SettlesOne, SettlesPass}
use Rattle.evaluation.proofs.Held.{holds_length}
use Rattle.evaluation.proofs.Consistent.{become_same, still_right, now_right, consistent_settles, settled_consistent}
use Rattle.evaluation.proofs.Whole.{read_length, is_sound}

-- e needs only what is in S: so do S and e
closed_more : (m : Model) (S : ℕ → Type 0) → ((e d : ℕ) → S e → Mem d (needs m e) → S d) → (e : ℕ) → ((d : ℕ) → Mem d (needs m e) → S d) → (x d : ℕ) → (x ≡ e) ⊎ S x → Mem d (needs m x) → S d
closed_more m S c e f x d (inl y) k = f d (subst (λ (i : ℕ). Mem d (needs m i)) y k)
closed_more m S c e f x d (inr z) k = c x d z k

-- and where S is right, so is e by its new value, and S as before
module _ (m : Model) (old vs : List Bits) (S : ℕ → Type 0) (closed : (e d : ℕ) → S e → Mem d (needs m e) → S d) (right : (e : ℕ) → e < length m.exprs → S e → Right m old vs e) where
  right_more : (e : ℕ) → e < length m.exprs → e < length vs → ((d : ℕ) → Mem d (needs m e) → S d) → Dec (S e) → (x : ℕ) → x < length m.exprs → (x ≡ e) ⊎ S x → Right m old (set vs e (computed m old vs e)) x
  right_more e p q f (yes s) x h t = subst (λ (l : List Bits). Right m old l x) (sym same) (go t)
    where
      same : set vs e (computed m old vs e) ≡ vs
      same = ap (set vs e) (right e p s) ∙ set-get_or vs e []

      go : (x ≡ e) ⊎ S x → Right m old vs x
      go (inl y) = subst (λ (i : ℕ). Right m old vs i) (sym y) (right e p s)
      go (inr z) = right x h z
  right_more e p q f (no n) x h (inl y) = subst (λ (i : ℕ). Right m old (set vs e (computed m old vs e)) i) (sym y) (now_right m old vs e q (λ k. n (f e k)))
  right_more e p q f (no n) x h (inr z) = still_right m old vs e (computed m old vs e) x (λ y. n (subst S y z)) (λ k. n (closed x e z k)) (right x h z)

mem_decided : (x : ℕ) (l : List ℕ) → Dec (Mem x l)
mem_decided x [] = no not-nil
mem_decided x (y ∷ l) = go (ℕ_discrete x y) (mem_decided x l)
  where
    go : Dec (x ≡ y) → Dec (Mem x l) → Dec (Mem x (y ∷ l))
    go (yes p) d = yes (here p)
    go (no n) (yes k) = yes (there k)
    go (no n) (no k) = no (λ z. out (cases_cons z))
      where
        out : (x ≡ y) ⊎ Mem x l → ⊥
        out (inl p) = n p
        out (inr q) = k q

-- number j of an order is e: the first j + 1 are the first j and e
module _ (m : Model) {n : ℕ} {order : List ℕ} (hl : n ≤ length order) (ho : Ordered m n order) {j e : ℕ} (hj : j < n) (he : e ≡ get_or order j 0) where
  grown : take (j + 1) order ≡ take j order ++ (e ∷ [])
  grown =
      let s : j + 1 ≡ suc j = omega arith in
      ap (λ (i : ℕ). take i order) s ∙ take-suc order j 0 (omega (arith, hj, hl)) ∙ ap (λ (i : ℕ). take j order ++ (i ∷ [])) (sym he)

  before : (d : ℕ) → Mem d (needs m e) → InOrder order j d
  before d k = ho.behind hl j hj d (subst (λ (i : ℕ). Mem d (needs m i)) he k)

  up : (x : ℕ) → InOrder order j x → InOrder order (j + 1) x
  up x k = subst (λ (l : List ℕ). Mem x l) (sym grown) (mem-left (e ∷ []) k)

  down : (x : ℕ) → InOrder order (j + 1) x → (x ≡ e) ⊎ InOrder order j x
  down x k = go (append_cases (take j order) (subst (λ (l : List ℕ). Mem x l) grown k))
    where
      go : Mem x (take j order) ⊎ Mem x (e ∷ []) → (x ≡ e) ⊎ InOrder order j x
      go (inl z) = inr z
      go (inr z) = inl (singleton z)

-- values of the same length have room
pub same_room : {signals exprs bytes values values' : List ℕ} → Room signals exprs bytes values → length values' ≡ length values → Room signals exprs bytes values'
same_room r l = record { bytes_room = r.bytes_room; values_room = omega (arith, r.values_room, l) }

-- WHAT A LOOP KEEPS

module _ (signals exprs stmts : List ℕ) where
  -- along an order: its first j are right
  pub record Along (n : ℕ) (order bytes values₀ values : List ℕ) (j : ℕ) : Type 0 where
    pub right : RightOn signals exprs stmts (InOrder order j) bytes values
    pub within : j ≤ n
    pub values_long : length values ≡ length values₀

  -- in a pass: up to expression e; `any` says that one was added
  pub record Passing (n : ℕ) (bytes values₀ marks₀ values marks : List ℕ) (any : Bool) (e : ℕ) : Type 0 where
    pub right : RightOn signals exprs stmts (InMarks marks) bytes values
    pub within : e ≤ n
    pub fewer : any ≡ true → left marks n < left marks₀ n
    pub no_more : left marks n ≤ left marks₀ n
    pub quiet : any ≡ false → Quiet (model_in signals exprs stmts) marks e
    pub values_long : length values ≡ length values₀
    pub marks_long : length marks ≡ length marks₀

  -- pass after pass
  pub record Passed (bytes values₀ marks₀ values marks : List ℕ) : Type 0 where
    pub right : RightOn signals exprs stmts (InMarks marks) bytes values
    pub values_long : length values ≡ length values₀
    pub marks_long : length marks ≡ length marks₀

module _ {signals exprs stmts bytes : List ℕ} where
  pub passing_start : {n : ℕ} {values marks : List ℕ} → RightOn signals exprs stmts (InMarks marks) bytes values → Passing signals exprs stmts n bytes values marks values marks false 0
  passing_start {marks = marks} r = record { right = r; within = omega arith; fewer = λ z. absurd (false≢true z); no_more = omega arith; quiet = λ z. quiet_none (model_in signals exprs stmts) marks; values_long = refl; marks_long = refl }

  -- another pass
  pub passes_more : {n : ℕ} {values₀ marks₀ values marks values' marks' : List ℕ} {more : Bool} → Passed signals exprs stmts bytes values₀ marks₀ values marks → SettlesPass signals exprs stmts n bytes marks more values' marks' → length values' ≡ length values → length marks' ≡ length marks → Passed signals exprs stmts bytes values₀ marks₀ values' marks'
  passes_more t s l k = record { right = s.right; values_long = l ∙ t.values_long; marks_long = k ∙ t.marks_long }

  pub passes_less : {n : ℕ} {marks values' marks' : List ℕ} {more : Bool} → SettlesPass signals exprs stmts n bytes marks more values' marks' → not more ≡ false → left marks' n < left marks n
  passes_less {more = more} s h = s.fewer (sym (not-not more) ∙ ap not h)

-- ONE EXPRESSION: `ordering` says what adds it of the model without its signals

adds_same : (signals exprs stmts marks : List ℕ) (e : ℕ) → adds (exprs_model exprs stmts) marks e ≡ adds (model_in signals exprs stmts) marks e
unfolding model_of
adds_same signals exprs stmts marks e = refl

module _ {signals exprs stmts bytes : List ℕ} {e : ℕ} {values marks : List ℕ} {b : Bool} (q : b ≡ adds (exprs_model exprs stmts) marks e) where
  pub settles_none : not b ≡ true → SettlesOne signals exprs stmts bytes e values marks false values marks
  settles_none h = record { added = sym (sym (not-not b) ∙ ap not h) ∙ q ∙ adds_same signals exprs stmts marks e; marks_are = refl; computes = λ z. absurd (false≢true z); keeps = λ z. refl }

  pub settles_more : {values' : List ℕ} → not b ≡ false → Computed signals exprs stmts bytes e values values' → SettlesOne signals exprs stmts bytes e values marks true values' (set marks e 1)
  settles_more h c = record { added = sym (sym (not-not b) ∙ ap not h) ∙ q ∙ adds_same signals exprs stmts marks e; marks_are = refl; computes = λ z. c; keeps = λ z. absurd (false≢true (sym z)) }

-- what is assigned is named
assigned_named : (ss : List Stmt) (s d : ℕ) → given assigns ss s ≡ Some d → (k : ℕ) × (k < length ss) × (assigns (get_or ss k (assign 0 0)) ≡ Some d)
assigned_named [] s d h = absurd (none_ne_some d h)
assigned_named (x ∷ ss) s d h = go (eqb (target x) s) (assigns x) refl h (assigned_named ss s d)
  where
    later : (k : ℕ) × (k < length ss) × (assigns (get_or ss k (assign 0 0)) ≡ Some d) → (k : ℕ) × (k < length (x ∷ ss)) × (assigns (get_or (x ∷ ss) k (assign 0 0)) ≡ Some d)
    later t = (suc t.0, omega (arith, t.1), t.2)

    go : (b : Bool) (o : Option ℕ) → assigns x ≡ o → pick b (or_else o (given assigns ss s)) (given assigns ss s) ≡ Some d → (given assigns ss s ≡ Some d → (k : ℕ) × (k < length ss) × (assigns (get_or ss k (assign 0 0)) ≡ Some d)) → (k : ℕ) × (k < length (x ∷ ss)) × (assigns (get_or (x ∷ ss) k (assign 0 0)) ≡ Some d)
    go true (Some e) z k ih = (0, omega arith, z ∙ k)
    go true None z k ih = later (ih k)
    go false o z k ih = later (ih k)

-- THE EXPRESSIONS IN S

module _ {signals exprs stmts expr_table signal_table : List ℕ} (p : Prepared signals exprs stmts expr_table signal_table) where
  abbrev m : Model
  m = model_in signals exprs stmts

  exprs_count : length (model_in signals exprs stmts).exprs ≡ length (records_in exprs)
  exprs_count = Rattle.simulation.proofs.Found.exprs_count p.widest (lists signals exprs stmts) p.faultless

  signals_count : length (model_in signals exprs stmts).signals ≡ length (records_in signals)
  signals_count = Rattle.simulation.proofs.Found.signals_count p.widest (lists signals exprs stmts) p.faultless

  pub no_fault : NoFault signals exprs stmts
  no_fault = record { widest = p.widest; faultless = p.faultless }

  -- values that agree on what is named, stored, make the same state
  same_stored : (old a b : List Bits) → SameNamed stmts a b → stored (model_in signals exprs stmts) old a ≡ stored (model_in signals exprs stmts) old b
  unfolding model_of
  same_stored old a b z = ap (λ (f : ℕ → Bits). tab_from f 0 (length m.signals)) (fun_ext (λ s. become_same a b (given assigns (stmts_in stmts) s) (get_or old s []) (λ e k. z e (named s e (listed_some (given assigns (stmts_in stmts) s) e k)))))
    where
      listed_some : (o : Option ℕ) (e : ℕ) → Mem e (listed o) → o ≡ Some e
      listed_some None e k = absurd (not-nil k)
      listed_some (Some d) e k = ap Some (sym (singleton k))

      named : (s e : ℕ) → given assigns (stmts_in stmts) s ≡ Some e → Named stmts e
      named s e h = let t = assigned_named (stmts_in stmts) s e h in record { number = t.0; there = omega (arith, t.1, read_length read_stmt (records_in stmts) (stmts_read p.widest (raw_of (lists signals exprs stmts)) p.faultless)); names = inl t.2 }

  module _ {bytes : List ℕ} where
    -- nothing is in S
    none_on : {values : List ℕ} (S : ℕ → Type 0) → ((e : ℕ) → S e → ⊥) → Filled (widths_in exprs) values → RightOn signals exprs stmts S bytes values
    none_on S n f = record { closed = λ e d s k. absurd (n e s); right_on = λ old behind h. (f.values, f.rest, f.holds, λ e q s. absurd (n e s)) }

    -- S and e, evaluated
    more_on : {values values' : List ℕ} (S T : ℕ → Type 0) (e : ℕ) → RightOn signals exprs stmts S bytes values → Computed signals exprs stmts bytes e values values' → e < length (records_in exprs) → Dec (S e) → ((d : ℕ) → Mem d (needs (model_in signals exprs stmts) e) → S d) → ((x : ℕ) → S x → T x) → ((x : ℕ) → T x → (x ≡ e) ⊎ S x)
        → RightOn signals exprs stmts T bytes values'
    more_on {values} {values'} S T e o c q s f up down = record { closed = λ x d t k. up d (closed_more m S o.closed e f x d (down x t) k); right_on = λ old behind h. now old behind h (o.right_on old behind h) }
      where
        now : (old : List Bits) (behind : List ℕ) → Holds (widths_in signals) old behind bytes → (vs : List Bits) × (rest : List ℕ) × Holds (widths_in exprs) vs rest values × ((x : ℕ) → x < length (model_in signals exprs stmts).exprs → S x → Right (model_in signals exprs stmts) old vs x)
            → (vs : List Bits) × (rest : List ℕ) × Holds (widths_in exprs) vs rest values' × ((x : ℕ) → x < length (model_in signals exprs stmts).exprs → T x → Right (model_in signals exprs stmts) old vs x)
        now old behind h r = (
          set r.0 e (computed m old r.0 e),
          r.1,
          c.computed_holds old r.0 behind r.1 h r.2,
          λ x l t. right_more m old r.0 S o.closed r.3 e (omega (arith, exprs_count, q)) (omega (arith, holds_length r.2, length_widths exprs, q)) f s x l (down x t),
        )

    -- S and an e that is not there
    same_on : {values : List ℕ} (S T : ℕ → Type 0) (e : ℕ) → RightOn signals exprs stmts S bytes values → length (records_in exprs) ≤ e → ((d : ℕ) → Mem d (needs (model_in signals exprs stmts) e) → S d) → ((x : ℕ) → S x → T x) → ((x : ℕ) → T x → (x ≡ e) ⊎ S x) → RightOn signals exprs stmts T bytes values
    same_on {values} S T e o q f up down = record { closed = λ x d t k. up d (closed_more m S o.closed e f x d (down x t) k); right_on = λ old behind h. let r = o.right_on old behind h in (r.0, r.1, r.2, λ x l t. r.3 x l (there_is x l (down x t))) }
      where
        there_is : (x : ℕ) → x < length (model_in signals exprs stmts).exprs → (x ≡ e) ⊎ S x → S x
        there_is x l (inl y) = absurd (omega (arith, exprs_count, q, y, l))
        there_is x l (inr z) = z

    -- all are in S
    all_on : {values : List ℕ} (S : ℕ → Type 0) → RightOn signals exprs stmts S bytes values → ((e : ℕ) → e < length (records_in exprs) → S e) → Settles signals exprs stmts bytes values
    all_on S o a = record { settles = λ old behind h. let r = o.right_on old behind h in (r.0, r.1, r.2, record { each = holds_length r.2 ∙ length_widths exprs ∙ sym exprs_count; right = λ e l. r.3 e l (a e (omega (arith, exprs_count, l))) }) }

    -- ALONG AN ORDER

    pub along_start : {n : ℕ} {order values : List ℕ} → Filled (widths_in exprs) values → Along signals exprs stmts n order bytes values values 0
    along_start {n} {order} f = record { right = none_on (InOrder order 0) (λ e k. not-nil k) f; within = omega arith; values_long = refl }

    pub along_step : {n : ℕ} → n ≡ length (records_in exprs) → {order : List ℕ} → n ≤ length order → Ordered (model_in signals exprs stmts) n order → {values₀ values values' values'' : List ℕ} {j e : ℕ} → Along signals exprs stmts n order bytes values₀ values j → j < n → e ≡ get_or order j 0
        → e < n → Computed signals exprs stmts bytes e values values'' → length values'' ≡ length values → values' ≡ values'' → Along signals exprs stmts n order bytes values₀ values' (j + 1)
    along_step {n} hn {order} hl ho {values₀} {j = j} {e} t hj he q c l z =
        subst (λ (u : List ℕ). Along signals exprs stmts n order bytes values₀ u (j + 1)) (sym z)
        (record { right = more_on (InOrder order j) (InOrder order (j + 1)) e t.right c (omega (arith, hn, q)) (mem_decided e (take j order)) (before m hl ho hj he) (up m hl ho hj he) (down m hl ho hj he); within = omega arith; values_long = l ∙ t.values_long })

    pub along_skip : {n : ℕ} → n ≡ length (records_in exprs) → {order : List ℕ} → n ≤ length order → Ordered (model_in signals exprs stmts) n order → {values₀ values values' : List ℕ} {j e : ℕ} → Along signals exprs stmts n order bytes values₀ values j → j < n → e ≡ get_or order j 0
        → n ≤ e → values' ≡ values → Along signals exprs stmts n order bytes values₀ values' (j + 1)
    along_skip {n} hn {order} hl ho {values₀} {j = j} {e} t hj he q z =
        subst (λ (u : List ℕ). Along signals exprs stmts n order bytes values₀ u (j + 1)) (sym z)
        (record { right = same_on (InOrder order j) (InOrder order (j + 1)) e t.right (omega (arith, hn, q)) (before m hl ho hj he) (up m hl ho hj he) (down m hl ho hj he); within = omega arith; values_long = t.values_long })

    pub along_end : {n : ℕ} → n ≡ length (records_in exprs) → {order values₀ values : List ℕ} {j : ℕ} → n ≤ length order → Ordered (model_in signals exprs stmts) n order → Along signals exprs stmts n order bytes values₀ values j → n ≤ j → Settles signals exprs stmts bytes values
    along_end {n} hn {order} {values₀} {values} {j} hl ho t h =
        let e : n ≡ j = let w = t.within in omega (arith, w, h) in
        all_on (InOrder order j) t.right (λ x q. subst (λ (i : ℕ). InOrder order i x) e (ho.all hl x (omega (arith, hn, q))))

    -- IN PASSES

    -- expression e is marked
    marked_on : {values values' : List ℕ} (marks : List ℕ) {e : ℕ} → RightOn signals exprs stmts (InMarks marks) bytes values → e < length (records_in exprs) → e < length marks → ready (model_in signals exprs stmts) marks e ≡ true → Computed signals exprs stmts bytes e values values' → RightOn signals exprs stmts (InMarks (set marks e 1)) bytes values'
    marked_on marks {e} r q l h c =
        more_on (InMarks marks) (InMarks (set marks e 1)) e r c q (Bool-discrete (marked marks e) true) (all_out (marked marks) (needs m e) h) (λ x k. up x k (ℕ_discrete x e)) (λ x k. down x k (ℕ_discrete x e))
      where
        up : (x : ℕ) → InMarks marks x → Dec (x ≡ e) → InMarks (set marks e 1) x
        up x k (yes y) = ap (λ (i : ℕ). leb 1 i) (ap (λ (i : ℕ). get_or (set marks e 1) i 0) y ∙ get_or-set_same marks e 1 0 l)
        up x k (no n) = ap (λ (i : ℕ). leb 1 i) (get_or-set_other marks e x 1 0 n) ∙ k

        down : (x : ℕ) → InMarks (set marks e 1) x → Dec (x ≡ e) → (x ≡ e) ⊎ InMarks marks x
        down x k (yes y) = inl y
        down x k (no n) = inr (sym (ap (λ (i : ℕ). leb 1 i) (get_or-set_other marks e x 1 0 n)) ∙ k)

    pub passing_step : {n : ℕ} → n ≡ length (records_in exprs) → {values₀ marks₀ values marks values' marks' : List ℕ} {any found next : Bool} {e : ℕ} → n ≤ length marks₀ → Passing signals exprs stmts n bytes values₀ marks₀ values marks any e → e < n → SettlesOne signals exprs stmts bytes e values marks found values' marks'
        → length values' ≡ length values → next ≡ (any || found) → Passing signals exprs stmts n bytes values₀ marks₀ values' marks' next (e + 1)
    passing_step {n} hn {values₀} {marks₀} {values} {marks} {values'} {marks'} {any} {found} {next} {e} l t h s k o = go found s.added s.marks_are s.computes s.keeps o
      where
        go : (b : Bool) → b ≡ adds (model_in signals exprs stmts) marks e → marks' ≡ pick b (set marks e 1) marks → (b ≡ true → Computed signals exprs stmts bytes e values values') → (b ≡ false → values' ≡ values) → next ≡ (any || b) → Passing signals exprs stmts n bytes values₀ marks₀ values' marks' next (e + 1)
        go true q d c z x =
            let w = adds_new m marks e (sym q) in
            let there : e < length marks = let y = t.marks_long in omega (arith, y, l, h) in
            let less : left (set marks e 1) n < left marks n = let y = left_set marks e n h there w.0 in omega (arith, y) in
            let g = t.no_more in
            let yes : next ≡ true = x ∙ or-true any in
            subst (λ (u : List ℕ). Passing signals exprs stmts n bytes values₀ marks₀ values' u next (e + 1)) (sym d)
            (record {
              right = marked_on marks t.right (omega (arith, hn, h)) there w.1 (c refl);
              within = omega arith;
              fewer = λ y. omega (arith, less, g);
              no_more = omega (arith, less, g);
              quiet = λ y. absurd (false≢true (sym y ∙ yes));
              values_long = k ∙ t.values_long;
              marks_long = length-set marks e 1 ∙ t.marks_long;
            })
        go false q d c z x =
            let same : next ≡ any = x ∙ or-false any in
            subst (λ (u : List ℕ). Passing signals exprs stmts n bytes values₀ marks₀ values' u next (e + 1)) (sym d)
            (record {
              right = subst (λ (u : List ℕ). RightOn signals exprs stmts (InMarks marks) bytes u) (sym (z refl)) t.right;
              within = omega arith;
              fewer = λ y. t.fewer (sym same ∙ y);
              no_more = t.no_more;
              quiet = λ y. quiet_more m marks e (t.quiet (sym same ∙ y)) (sym q);
              values_long = k ∙ t.values_long;
              marks_long = t.marks_long;
            })

    pub passing_end : {n : ℕ} → n ≡ length (records_in exprs) → {values₀ marks₀ values marks : List ℕ} {any : Bool} {e : ℕ} → Passing signals exprs stmts n bytes values₀ marks₀ values marks any e → n ≤ e → SettlesPass signals exprs stmts n bytes marks₀ any values marks
    passing_end {n} hn {marks = marks} {e = e} t h =
        let y : e ≡ length (records_in exprs) = let w = t.within in omega (arith, w, h, hn) in
        record { right = t.right; fewer = t.fewer; stuck = λ z. quiet_stuck m marks (subst (λ (i : ℕ). Quiet m marks i) (y ∙ sym exprs_count) (t.quiet z)) }

    pub passed_start : (marks : List ℕ) {values marks' : List ℕ} → marks' ≡ replicate (length marks) 0 → Filled (widths_in exprs) values → Passed signals exprs stmts bytes values marks' values marks'
    passed_start marks {values} {marks'} z f =
        record { right = none_on (InMarks marks') (λ e k. false≢true (subst (λ (i : ℕ). leb 1 i ≡ true) (ap (λ (l : List ℕ). get_or l e 0) z ∙ get_d_zeros (length marks) e) k)) f; values_long = refl; marks_long = refl }

    pub passes_end : {n : ℕ} {marks values' marks' : List ℕ} {more : Bool} → looped (model_in signals exprs stmts) ≡ None → SettlesPass signals exprs stmts n bytes marks more values' marks' → not more ≡ true → Settles signals exprs stmts bytes values'
    passes_end {marks' = marks'} {more} h s z =
        all_on (InMarks marks') s.right (λ e q. unlooped_marked p.widest m (is_sound p) marks' (s.stuck (sym (not-not more) ∙ ap not z)) h e (omega (arith, exprs_count, q)))

    -- THE WHOLE

    -- consistent values are those of the settled model
    pub settles_all : {values' : List ℕ} → looped (model_in signals exprs stmts) ≡ None → Settles signals exprs stmts bytes values' → SettlesNamed signals exprs stmts bytes values'
    settles_all q s = record {
      settles_named = λ old behind h.
          let r = s.settles old behind h in
          let i = consistent_settles p.widest m old r.0 (is_sound p) (holds_length h ∙ length_widths signals ∙ sym signals_count) r.3 in
          (r.0, r.1, r.2, λ e k. ap (λ (l : List Bits). get_or l e []) (sym (ap (values_in m) (i.settling q) ∙ i.values)));
    }

    -- stored, they settle the model
    pub settles_stored : {bytes' values' : List ℕ} → looped (model_in signals exprs stmts) ≡ None → SettlesNamed signals exprs stmts bytes values' → Stores signals exprs stmts values' bytes bytes' → Settled signals exprs stmts bytes bytes' values'
    settles_stored {bytes'} {values'} q s t = record {
      signals_hold = λ old behind h.
          let r = s.settles_named old behind h in
          let long = holds_length h ∙ length_widths signals ∙ sym signals_count in
          subst (λ (u : List Bits). Holds (widths_in signals) u behind bytes')
          (same_stored old r.0 (values_in m (settle m old)) r.3 ∙ sym ((consistent_settles p.widest m old (values_in m (settle m old)) (is_sound p) long (settled_consistent p.widest m old (is_sound p) long q)).settling q))
          (t.stores old r.0 behind r.1 h r.2);
      values_hold = s;
    }
