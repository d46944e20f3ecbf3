-- Code words that are checked one by one are right code. Assumes nothing.
use Prim.Native.Nat.{ℕ, zero, suc, ◌+◌, ◌*◌, ◌≤◌, ◌<◌}
use mathlib.Core.Path.{◌≡◌, refl, sym, ◌∙◌, ap, subst}
use mathlib.Core.Logic.{◌⊎◌, inl, inr}
use mathlib.Core.Bool.{Bool, true, false, not, false≢true, not-not}
use mathlib.Core.List.{List, [], ◌∷◌, Memᴰ as Mem}
use Rattle.std.specs.Prelude.{Some, None}
use native.Mathlib.Omega.{arith}
use native.Mathlib.Decide.{ℕ_discrete}
use lib.Dec.{leb}
use lib.ListN.{length, get_or, take, drop, set, length-set}
use lib.Seq.{get_or-set_same, get_or-set_other, take-set-le, take-take, take-length, length-take-le, get_or-take, get_or-drop}
use Rattle.settle.specs.Tests.{all_out}
use Rattle.recorder.specs.Record.{Model}
use Rattle.recorder.specs.Read.{model_of}
use Rattle.simulation.specs.Run.{zeroed}
use Rattle.simulation.specs.Index.{records_in, widths_in, offset, start_of}
use Rattle.simulation.proofs.Tally.{get_d_zeros}
use Rattle.simulation.proofs.Offsets.{offset_next}
use Rattle.ordering.specs.Order.{needs}
use Rattle.ordering.specs.Marks.{marked, ready}
use Rattle.ordering.specs.Words.{model_in as exprs_model}
use Rattle.evaluation.specs.Ready.{model_in}
use Rattle.evaluation.specs.Loads.{stmt_in, Stated, Names}
use Rattle.evaluation.proofs.Committing.{names_word}
use Rattle.evaluation.specs.Ticks.{Ordered}
use Rattle.fusing.specs.Form.{Formed}
use Rattle.evaluation.specs.Late.{Among}
use Rattle.coding.specs.Coded.{bits_in, Within, Known, Computable, Coded}
use Rattle.coding.proofs.Frame.{word_kept, among_kept, formed_kept, computable_kept}
use Rattle.coding.specs.Emitting.{Unplaced, Placed, Places, Emitting, Emits, EmitsAll}

-- POSITIONS

pub unplaced_zeroed : {values : List ℕ} (l : List ℕ) → values ≡ zeroed l → Unplaced values
unplaced_zeroed l z = record { none_placed = λ p h. absurd (omega (arith, sym h ∙ ap (λ (v : List ℕ). get_or v p 0) z ∙ get_d_zeros (length l) p)) }

-- a byte that is set to another number
pub unplaced_set : {values : List ℕ} (i : ℕ) {b : ℕ} → (b ≡ 1 → ⊥) → Unplaced values → Unplaced (set values i b)
unplaced_set {values} i {b} n u = record { none_placed = λ p h. go p h (ℕ_discrete p i) }
  where
    at_own : (l : List ℕ) (j : ℕ) → (get_or (set l j b) j 0 ≡ b) ⊎ (get_or (set l j b) j 0 ≡ get_or l j 0)
    at_own [] zero = inr refl
    at_own [] (suc j) = inr refl
    at_own (a ∷ l) zero = inl refl
    at_own (a ∷ l) (suc j) = at_own l j

    go : (p : ℕ) → get_or (set values i b) p 0 ≡ 1 → Dec (p ≡ i) → ⊥
    go p h (no z) = u.none_placed p (sym (get_or-set_other values i p b 0 z) ∙ h)
    go p h (yes z) = own (at_own values i)
      where
        here : get_or (set values i b) i 0 ≡ 1
        here = ap (λ (j : ℕ). get_or (set values i b) j 0) (sym z) ∙ h

        own : (get_or (set values i b) i 0 ≡ b) ⊎ (get_or (set values i b) i 0 ≡ get_or values i 0) → ⊥
        own (inl y) = n (sym y ∙ here)
        own (inr y) = u.none_placed i (sym y ∙ here)

pub places_none : (from : ℕ) (values : List ℕ) → Places from from values values
places_none from values = record { places = λ p h. inr h }

pub places_more : {from end : ℕ} {values₀ values : List ℕ} → Places from end values₀ values → from ≤ end → Places from (end + 1) values₀ (set values end 1)
places_more {from} {end} {values₀} {values} g l = record { places = λ p h. go p h (ℕ_discrete p end) }
  where
    wider : (p : ℕ) → ((from ≤ p) × (p < end)) ⊎ (get_or values₀ p 0 ≡ 1) → ((from ≤ p) × (p < end + 1)) ⊎ (get_or values₀ p 0 ≡ 1)
    wider p (inl h) = inl (h.0, omega (arith, h.1))
    wider p (inr h) = inr h

    go : (p : ℕ) → get_or (set values end 1) p 0 ≡ 1 → Dec (p ≡ end) → ((from ≤ p) × (p < end + 1)) ⊎ (get_or values₀ p 0 ≡ 1)
    go p h (yes z) = inl (omega arith, omega arith)
    go p h (no z) = wider p (g.places p (sym (get_or-set_other values end p 1 0 z) ∙ h))

-- ONE CODE WORD

module _ {signals exprs stmts : List ℕ} where
  module _ {n from k : ℕ} {order values marks : List ℕ} (g : Emitting signals exprs stmts n from k order values marks) where
    -- a position that is placed is known
    placed_known : {base top p : ℕ} → base ≡ bits_in exprs → top ≡ bits_in exprs + bits_in signals → Placed values base top p → Known signals exprs (Among order from k) p
    placed_known {base} {top} {p} hb ht w = go w.placed
      where
        go : ((base ≤ p) × (p < top)) ⊎ ((p < base) × (get_or values p 0 ≡ 1)) → Known signals exprs (Among order from k) p
        go (inl h) = inl (omega (arith, hb, h.0), omega (arith, ht, h.1))
        go (inr h) = inr (g.in_values p (omega (arith, hb, h.0)) h.1)

    module _ {e at : ℕ} (he : e < length (records_in exprs)) (ha : at ≡ n + 6 * e) where
      word : (i : ℕ) → get_or order (at + i) 0 ≡ get_or (drop n order) (6 * e + i) 0
      word i =
          let z : at + i ≡ n + (6 * e + i) = omega arith in
          ap (λ (j : ℕ). get_or order j 0) z ∙ sym (get_or-drop n order (6 * e + i) 0)

      table_is : get_or order at 0 ≡ get_or (drop n order) (6 * e) 0
      table_is = ap (λ (j : ℕ). get_or order j 0) ha ∙ sym (get_or-drop n order (6 * e) 0)

      pub computable_needs : {r : Bool} → 65536 ≤ get_or order at 0 → r ≡ ready (exprs_model exprs stmts) marks e → r ≡ true → Computable signals exprs stmts (Among order from k) (drop n order) e
      unfolding model_of
      computable_needs h z t = record {
        there = he;
        by_form = λ l. absurd (omega (arith, table_is, h, l));
        by_needs = λ l d i. g.in_marks d (all_out (marked marks) (needs (model_in signals exprs stmts) e) (sym z ∙ t) d i);
      }

      pub computable_form : {base top : ℕ} → base ≡ bits_in exprs → top ≡ bits_in exprs + bits_in signals → get_or order at 0 < 65536 → Placed values base top (get_or order (at + 2) 0) → Placed values base top (get_or order (at + 3) 0) → Placed values base top (get_or order (at + 4) 0) → Placed values base top (get_or order (at + 5) 0) → Computable signals exprs stmts (Among order from k) (drop n order) e
      computable_form hb ht h a b c d = record {
        there = he;
        by_form = λ l. (subst (Known signals exprs (Among order from k)) (word 2) (placed_known hb ht a), subst (Known signals exprs (Among order from k)) (word 3) (placed_known hb ht b), subst (Known signals exprs (Among order from k)) (word 4) (placed_known hb ht c), subst (Known signals exprs (Among order from k)) (word 5) (placed_known hb ht d));
        by_needs = λ l. absurd (omega (arith, table_is, h, l));
      }

    -- e is the next
    module _ {e : ℕ} (hn : n ≡ length (records_in exprs)) (hk : k < n) (c : Computable signals exprs stmts (Among order from k) (drop n order) e) where
      order' : List ℕ
      order' = set order (from + k) e

      pub order_kept : take from (set order (from + k) e) ≡ take from order
      order_kept = take-set-le from order (from + k) e (omega arith)

      code_kept : take (from + k) (set order (from + k) e) ≡ take (from + k) order
      code_kept = take-set-le (from + k) order (from + k) e (omega arith)

      still : (j : ℕ) → j ≤ k → (x : ℕ) → Among order from j x → Among (set order (from + k) e) from j x
      still j h x i = among_kept (from + k) order (set order (from + k) e) code_kept (omega arith) i

      computable_still : (j : ℕ) → j ≤ k → {x : ℕ} → Computable signals exprs stmts (Among order from j) (drop n order) x → Computable signals exprs stmts (Among (set order (from + k) e) from j) (drop n (set order (from + k) e)) x
      computable_still j h d = computable_kept from order (set order (from + k) e) order_kept g.forms_before hn (still j h) d

      inside : from + k < length order
      inside = omega (arith, g.room)

      own : Among (set order (from + k) e) from (k + 1) e
      own = record { place = k; before = omega arith; stands = get_or-set_same order (from + k) e 0 inside }

      up : (x : ℕ) → Among order from k x → Among (set order (from + k) e) from (k + 1) x
      up x i = let s = still k (omega arith) x i in record { place = s.place; before = omega (arith, s.before); stands = s.stands }

      pub emitted : {values' : List ℕ} → Places (offset (widths_in exprs) e) (offset (widths_in exprs) (e + 1)) values values' → Emitting signals exprs stmts n from (k + 1) (set order (from + k) e) values' (set marks e 1)
      emitted {values'} w = record {
        forms_before = g.forms_before;
        room = omega (arith, g.room, length-set order (from + k) e);
        few = omega arith;
        formed = formed_kept from order (set order (from + k) e) order_kept g.forms_before g.formed;
        each = λ j h. word_at j h (ℕ_discrete j k);
        in_marks = λ x h. mark_at x h (ℕ_discrete x e);
        in_values = λ p h b. value_at p h (w.places p b);
      }
        where
          word_at : (j : ℕ) → j < k + 1 → Dec (j ≡ k) → Computable signals exprs stmts (Among (set order (from + k) e) from j) (drop n (set order (from + k) e)) (get_or (set order (from + k) e) (from + j) 0)
          word_at j h (yes z) =
              subst (λ (i : ℕ). Computable signals exprs stmts (Among (set order (from + k) e) from i) (drop n (set order (from + k) e)) (get_or (set order (from + k) e) (from + i) 0)) (sym z)
              (subst (Computable signals exprs stmts (Among (set order (from + k) e) from k) (drop n (set order (from + k) e))) (sym (get_or-set_same order (from + k) e 0 inside))
              (computable_still k (omega arith) c))
          word_at j h (no z) =
              subst (Computable signals exprs stmts (Among (set order (from + k) e) from j) (drop n (set order (from + k) e))) (sym (word_kept (from + k) order (set order (from + k) e) code_kept (from + j) (omega (arith, z))))
              (computable_still j (omega arith) (g.each j (omega (arith, z))))

          mark_at : (x : ℕ) → marked (set marks e 1) x ≡ true → Dec (x ≡ e) → Among (set order (from + k) e) from (k + 1) x
          mark_at x h (yes z) = subst (Among (set order (from + k) e) from (k + 1)) (sym z) own
          mark_at x h (no z) = up x (g.in_marks x (ap (λ (i : ℕ). leb 1 i) (sym (get_or-set_other marks e x 1 0 z)) ∙ h))

          value_at : (p : ℕ) → p < bits_in exprs → ((offset (widths_in exprs) e ≤ p) × (p < offset (widths_in exprs) (e + 1))) ⊎ (get_or values p 0 ≡ 1) → (d : ℕ) × Among (set order (from + k) e) from (k + 1) d × Within exprs d p
          value_at p h (inl y) = (e, own, (c.there, y.0, omega (arith, y.1, offset_next (widths_in exprs) e)))
          value_at p h (inr y) = let t = g.in_values p h y in (t.0, up t.0 t.1, t.2)

      -- the same by what the code reads
      pub put_emitted : {x begin end : ℕ} {values' : List ℕ} → x ≡ e → begin ≡ offset (widths_in exprs) x → end ≡ offset (widths_in exprs) (x + 1) → Places begin end values values' → Emitting signals exprs stmts n from (k + 1) (set order (from + k) e) values' (set marks x 1)
      put_emitted {x} {begin} {end} {values'} hx hf he w =
          subst (λ (i : ℕ). Emitting signals exprs stmts n from (k + 1) (set order (from + k) e) values' (set marks i 1)) (sym hx)
          (emitted (subst (λ (i : ℕ). Places i (offset (widths_in exprs) (e + 1)) values values') (hf ∙ ap (offset (widths_in exprs)) hx) (subst (λ (i : ℕ). Places begin i values values') (he ∙ ap (λ (i : ℕ). offset (widths_in exprs) (i + 1)) hx) w)))

    pub emitted_coded : Coded signals exprs stmts n from k order
    emitted_coded = record { forms_before = g.forms_before; room = omega (arith, g.room, g.few); formed = g.formed; each = g.each }

  -- before the first
  pub emitting_start : {n from : ℕ} {order values marks : List ℕ} (l : List ℕ) → 7 * n ≤ from → from + n ≤ length order → Formed signals exprs stmts (drop n order) n → Unplaced values → marks ≡ zeroed l → Emitting signals exprs stmts n from 0 order values marks
  emitting_start l b r f u z = record {
    forms_before = b;
    room = r;
    few = omega arith;
    formed = f;
    each = λ j h. absurd (omega arith);
    in_marks = λ e h. absurd (false≢true (subst (λ (i : ℕ). leb 1 i ≡ true) (ap (λ (m : List ℕ). get_or m e 0) z ∙ get_d_zeros (length l) e) h));
    in_values = λ p h b. absurd (u.none_placed p b);
  }

-- WHAT STATEMENTS NAME

pub is_marked : (marks : List ℕ) {r : Bool} {e x : ℕ} → r ≡ marked marks e → e ≡ x → r ≡ true → marked marks x ≡ true
is_marked marks {r} {e} {x} h z t = ap (marked marks) (sym z) ∙ sym h ∙ t

pub indeed : {b : Bool} → not b ≡ false → b ≡ true
indeed {b} h = sym (not-not b) ∙ ap not h

-- the words that name: the fourth, and a register's tenth if it has a reset
module _ {signals stmts : List ℕ} (s : Stated signals stmts) (marks : List ℕ) {word : ℕ} where
  module _ (a : marked marks (get_or stmts (word + 3) 0) ≡ true) {k : ℕ} (q : k < length (records_in stmts)) (b : word ≡ start_of stmts k) (x : ℕ) (h : Names (stmt_in stmts k) x) where
    first : get_or stmts (word + 3) 0 ≡ x → marked marks x ≡ true
    first z = subst (λ (i : ℕ). marked marks i ≡ true) z a

    pub named_other : (get_or stmts (word + 1) 0 ≡ 1 → ⊥) → marked marks x ≡ true
    named_other n = go (names_word s q b x h)
      where
        go : (get_or stmts (word + 3) 0 ≡ x) ⊎ ((get_or stmts (word + 1) 0 ≡ 1) × (get_or stmts (word + 6) 0 ≡ 0 → ⊥) × (get_or stmts (word + 9) 0 ≡ x)) → marked marks x ≡ true
        go (inl z) = first z
        go (inr z) = absurd (n z.0)

    pub named_plain : get_or stmts (word + 6) 0 ≡ 0 → marked marks x ≡ true
    named_plain n = go (names_word s q b x h)
      where
        go : (get_or stmts (word + 3) 0 ≡ x) ⊎ ((get_or stmts (word + 1) 0 ≡ 1) × (get_or stmts (word + 6) 0 ≡ 0 → ⊥) × (get_or stmts (word + 9) 0 ≡ x)) → marked marks x ≡ true
        go (inl z) = first z
        go (inr z) = absurd (z.1 n)

    pub named_reset : marked marks (get_or stmts (word + 9) 0) ≡ true → marked marks x ≡ true
    named_reset n = go (names_word s q b x h)
      where
        go : (get_or stmts (word + 3) 0 ≡ x) ⊎ ((get_or stmts (word + 1) 0 ≡ 1) × (get_or stmts (word + 6) 0 ≡ 0 → ⊥) × (get_or stmts (word + 9) 0 ≡ x)) → marked marks x ≡ true
        go (inl z) = first z
        go (inr z) = subst (λ (i : ℕ). marked marks i ≡ true) z.2 n

-- THE WHOLE

-- the order is still one
pub ordered_kept : {m : Model} {n ordered : ℕ} (order : List ℕ) {order' : List ℕ} → ordered ≡ n → take n order' ≡ take n order → Ordered m n (take ordered order) → length order' ≡ length order → n ≤ length order → Ordered m n order'
ordered_kept {m} {n} {ordered} order {order'} z k o l h = record {
  all = λ p e q. subst (Mem e) (take-take n n order (omega arith) ∙ sym k) (was.all long e q);
  behind = λ p j q d i. subst (Mem d) (take-take j n order (omega arith) ∙ sym (firsts j q)) (was.behind long j q d (subst (λ (x : ℕ). Mem d (needs m x)) (word_at j q) i));
}
  where
    was : Ordered m n (take n order)
    was = subst (λ (i : ℕ). Ordered m n (take i order)) z o

    long : n ≤ length (take n order)
    long = omega (arith, length-take-le n order h)

    firsts : (j : ℕ) → j < n → take j order' ≡ take j order
    firsts j q = sym (take-take j n order' (omega arith)) ∙ ap (take j) k ∙ take-take j n order (omega arith)

    word_at : (j : ℕ) → j < n → get_or order' j 0 ≡ get_or (take n order) j 0
    word_at j q = sym (get_or-take n order' j 0 q) ∙ ap (λ (x : List ℕ). get_or x j 0) k

-- ONE STEP

module _ {signals exprs stmts : List ℕ} where
  -- nothing is wanted
  pub emits_none : {n from k : ℕ} {order values marks : List ℕ} → Emitting signals exprs stmts n from k order values marks → Emits signals exprs stmts n from k (Some k) order order values marks
  emits_none g = record { kept = refl; made = (g, omega arith) }

  -- the code can't be made
  pub emits_stuck : {n from k : ℕ} (order values marks : List ℕ) → Emits signals exprs stmts n from k None order order values marks
  emits_stuck order values marks = record { kept = refl; made = tt }

  pub emits_one : {n from k : ℕ} {order order' values' marks' : List ℕ} → Emitting signals exprs stmts n from (k + 1) order' values' marks' → take from order' ≡ take from order → Emits signals exprs stmts n from k (Some (k + 1)) order order' values' marks'
  emits_one g z = record { kept = z; made = (g, omega arith) }

  pub emits_computable : {S : ℕ → Type 0} {forms : List ℕ} {e x : ℕ} → e ≡ x → Computable signals exprs stmts S forms e → Computable signals exprs stmts S forms x
  emits_computable {S} {forms} z c = subst (Computable signals exprs stmts S forms) z c

-- number i is next
pub record EmittingAll (signals exprs stmts : List ℕ) (n from : ℕ) (order₀ values₀ marks₀ order values marks : List ℕ) (k i : ℕ) : Type 0 where
  pub so_far : Emitting signals exprs stmts n from k order values marks
  pub behind : k ≤ i
  pub within : i ≤ n
  pub kept : take from order ≡ take from order₀
  pub order_long : length order ≡ length order₀
  pub values_long : length values ≡ length values₀
  pub marks_long : length marks ≡ length marks₀

module _ {signals exprs stmts : List ℕ} {n from : ℕ} where
  pub all_start : {order values marks : List ℕ} → Emitting signals exprs stmts n from 0 order values marks → EmittingAll signals exprs stmts n from order values marks order values marks 0 0
  all_start g = record { so_far = g; behind = omega arith; within = omega arith; kept = refl; order_long = refl; values_long = refl; marks_long = refl }

  module _ {order₀ values₀ marks₀ order values marks : List ℕ} {k i : ℕ} (g : EmittingAll signals exprs stmts n from order₀ values₀ marks₀ order values marks k i) where
    pub all_next : {order' values' marks' : List ℕ} {r : ℕ} → Emits signals exprs stmts n from k (Some r) order order' values' marks' → i < n → length order' ≡ length order → length values' ≡ length values → length marks' ≡ length marks → EmittingAll signals exprs stmts n from order₀ values₀ marks₀ order' values' marks' r (i + 1)
    all_next e hi o v m = record { so_far = e.made.0; behind = omega (arith, g.behind, e.made.1); within = omega arith; kept = e.kept ∙ g.kept; order_long = o ∙ g.order_long; values_long = v ∙ g.values_long; marks_long = m ∙ g.marks_long }

    pub all_stuck : {order' values' marks' : List ℕ} → Emits signals exprs stmts n from k None order order' values' marks' → EmitsAll signals exprs stmts n from None order₀ order' values' marks'
    all_stuck e = record { kept = e.kept ∙ g.kept; made = tt }

    pub all_end : EmitsAll signals exprs stmts n from (Some k) order₀ order values marks
    all_end = record { kept = g.kept; made = g.so_far }

-- a table that is lent whole
pub ordered_whole : {n : ℕ} (order' : List ℕ) {m : Model} {used ordered : ℕ} (order : List ℕ) → used ≡ length order' → ordered ≡ n → take n order' ≡ take n order → Ordered m n (take ordered order) → length order' ≡ length order → ordered ≤ length order → Ordered m n (take used order')
ordered_whole {n} order' {m} {used} order z e k o l h = subst (Ordered m n) (sym (ap (λ (i : ℕ). take i order') z ∙ take-length order')) (ordered_kept order e k o l (omega arith))
