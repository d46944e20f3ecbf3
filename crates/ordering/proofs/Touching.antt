-- A pass that marks what leads to a signal.
use Prim.Native.Nat.{ℕ, ◌+◌, ◌≤◌, ◌<◌}
use mathlib.Core.Path.{◌≡◌, refl, sym, ◌∙◌, ap, subst}
use mathlib.Core.Bool.{Bool, true, false, not, ◌||◌, false≢true}
use mathlib.Core.List.Memᴰ.{eq_of_singleton as singleton}
use mathlib.Core.List.Memᴰ.{head as here}
use mathlib.Core.List.Memᴰ.{not-nil}
use mathlib.Core.List.{List, Memᴰ as Mem}
use Rattle.std.specs.Prelude.{Option, None, Some}
use native.Mathlib.Omega.{arith}
use native.Mathlib.Nat.{not-suc-le-zero}
use native.Mathlib.Decide.{ℕ_discrete}
use lib.ListN.{length, set, replicate, length-set}
use Rattle.bits.specs.Bits.{pick}
use Rattle.recorder.specs.Record.{Model}
use Rattle.settle.specs.Walk.{Way}
use Rattle.settle.specs.Loop.{Reads}
use Rattle.settle.proofs.Loop.{lowest_on_loop_only}
use Rattle.simulation.specs.Tick.{given, assigns, depends, looped}
use Rattle.simulation.specs.Sound.{Sound}
use Rattle.simulation.proofs.Bounds.{reads_under}
use Rattle.ordering.specs.Marks.{marked, touched, Backed, left}
use Rattle.ordering.specs.Order.{listed}
use Rattle.ordering.specs.Words.{mark_of}
use Rattle.ordering.specs.Loops.{finds, Touch, Touches, Found, OnLoop}
use Rattle.ordering.proofs.Sorted.{left_set}
use Rattle.ordering.proofs.Looping.{backed_none, backed_more, marked_loop, loop_marked}

finds_new : (m : Model) (s : ℕ) (marks : List ℕ) (e : ℕ) → finds m s marks e ≡ true → (marked marks e ≡ false) × (touched m marks s e ≡ true)
finds_new m s marks e h = go (marked marks e) refl h
  where
    go : (b : Bool) → marked marks e ≡ b → pick b false (touched m marks s e) ≡ true → (marked marks e ≡ false) × (touched m marks s e ≡ true)
    go true q z = absurd (false≢true z)
    go false q z = (q, z)

-- up to expression e; `any` says that one was added
pub record Touching (m : Model) (n s : ℕ) (marks₀ marks : List ℕ) (any : Bool) (e : ℕ) : Type 0 where
  pub backed : Backed m s marks
  pub within : e ≤ n
  pub fewer : any ≡ true → left marks n < left marks₀ n
  pub no_more : left marks n ≤ left marks₀ n
  pub quiet : any ≡ false → (d : ℕ) → d < e → finds m s marks d ≡ false
  pub marks_long : length marks ≡ length marks₀

pub touching_start : {m : Model} {n s : ℕ} {marks : List ℕ} → Backed m s marks → Touching m n s marks marks false 0
touching_start b = record { backed = b; within = omega arith; fewer = λ z. absurd (false≢true z); no_more = omega arith; quiet = λ z d h. absurd (not-suc-le-zero h); marks_long = refl }

pub touching_step : (widest : ℕ) {m : Model} (sound : Sound widest m) {n s : ℕ} {marks₀ marks marks' : List ℕ} {any found next : Bool} {e : ℕ} → n ≡ length m.exprs → n ≤ length marks₀ → Touching m n s marks₀ marks any e → e < n
    → found ≡ finds m s marks e → marks' ≡ pick found (set marks e 1) marks → next ≡ (any || found) → Touching m n s marks₀ marks' next (e + 1)
touching_step widest {m} sound {n} {s} {marks₀} {marks} {marks'} {any} {found} {next} {e} p l t h f c o = go found f c o
  where
    go : (b : Bool) → b ≡ finds m s marks e → marks' ≡ pick b (set marks e 1) marks → next ≡ (any || b) → Touching m n s marks₀ marks' next (e + 1)
    go true q d x =
        let w = finds_new m s marks e (sym q) in
        let k : left (set marks e 1) n < left marks n = let z = left_set marks e n h (let y = t.marks_long in omega (arith, y, l, h)) w.0 in omega (arith, z) in
        let g = t.no_more in
        let yes : next ≡ true = x ∙ or_any any in
        subst (λ (u : List ℕ). Touching m n s marks₀ u next (e + 1)) (sym d)
        (record {
          backed = backed_more widest m sound s marks e (omega (arith, p, h)) t.backed w.1;
          within = omega arith;
          fewer = λ z. omega (arith, k, g);
          no_more = omega (arith, k, g);
          quiet = λ z. absurd (false≢true (sym z ∙ yes));
          marks_long = length-set marks e 1 ∙ t.marks_long;
        })
      where
        or_any : (a : Bool) → (a || true) ≡ true
        or_any true = refl
        or_any false = refl
    go false q d x =
        let same : next ≡ any = x ∙ or_none any in
        subst (λ (u : List ℕ). Touching m n s marks₀ u next (e + 1)) (sym d)
        (record {
          backed = t.backed;
          within = omega arith;
          fewer = λ z. t.fewer (sym same ∙ z);
          no_more = t.no_more;
          quiet = λ z i r. each i r (sym same ∙ z) (ℕ_discrete i e);
          marks_long = t.marks_long;
        })
      where
        or_none : (a : Bool) → (a || false) ≡ a
        or_none true = refl
        or_none false = refl

        each : (i : ℕ) → i < e + 1 → any ≡ false → Dec (i ≡ e) → finds m s marks i ≡ false
        each i r z (yes y) = ap (finds m s marks) y ∙ sym q
        each i r z (no y) = t.quiet z i (omega (arith, r, y))

pub touching_end : {m : Model} {n s : ℕ} {marks₀ marks : List ℕ} {any : Bool} {e : ℕ} → Touching m n s marks₀ marks any e → n ≡ length m.exprs → n ≤ e → Touches m n s marks₀ any marks
touching_end {m} {n} {s} {marks₀} {marks} {any} {e} t p h =
    record { backed = t.backed; fewer = t.fewer; full = λ z. record { none_touched = λ d q u. sym (ap (λ (b : Bool). pick b false (touched m marks s d)) u) ∙ t.quiet z d (omega (arith, q, p, h)) } }

pub touch_none : {m : Model} {s : ℕ} {marks : List ℕ} {e : ℕ} {b : Bool} → b ≡ finds m s marks e → not b ≡ true → Touch m s marks e false marks
touch_none {b = b} q h = record { found = sym (no b h) ∙ q; marks_are = refl }
  where
    no : (c : Bool) → not c ≡ true → c ≡ false
    no true z = sym z
    no false z = refl

pub touch_more : {m : Model} {s : ℕ} {marks : List ℕ} {e : ℕ} {b : Bool} → b ≡ finds m s marks e → not b ≡ false → Touch m s marks e true (set marks e 1)
touch_more {b = b} q h = record { found = sym (yes b h) ∙ q; marks_are = refl }
  where
    yes : (c : Bool) → not c ≡ false → c ≡ true
    yes true z = refl
    yes false z = sym z

-- ON A LOOP

by_mark : (marks : List ℕ) (o : Option ℕ) → mark_of marks false o ≡ true → (d : ℕ) × Mem d (listed o) × (marked marks d ≡ true)
by_mark marks None h = absurd (false≢true h)
by_mark marks (Some d) h = (d, here refl, h)

not_by_mark : (marks : List ℕ) (o : Option ℕ) → mark_of marks false o ≡ false → (d : ℕ) → Mem d (listed o) → marked marks d ≡ true → ⊥
not_by_mark marks None h d k t = not-nil k
not_by_mark marks (Some e) h d k t = false≢true (sym h ∙ sym (ap (marked marks) (singleton k)) ∙ t)

pub on_loop_by : (widest : ℕ) {m : Model} (sound : Sound widest m) {s : ℕ} {marks : List ℕ} {r : Bool} → Found m s marks → r ≡ mark_of marks false (given assigns m.stmts s) → OnLoop m s r
on_loop_by widest {m} sound {s} {marks} {r} f q =
    record {
      is = λ h. let t = by_mark marks (given assigns m.stmts s) (sym q ∙ h) in marked_loop widest m sound s marks f.backed t.0 t.1 t.2;
      not = λ h w. let t = loop_marked widest m sound s marks f.full w in not_by_mark marks (given assigns m.stmts s) (sym q ∙ h) t.0 t.1 t.2;
    }

-- none of the first s
pub record Unlooped (m : Model) (s : ℕ) : Type 0 where
  pub none_below : (y : ℕ) → y < s → Way (Reads (depends m)) y y → ⊥

pub unlooped_none : (m : Model) → Unlooped m 0
unlooped_none m = record { none_below = λ y h. absurd (not-suc-le-zero h) }

pub unlooped_more : {m : Model} {s : ℕ} {r : Bool} → Unlooped m s → OnLoop m s r → r ≡ false → Unlooped m (s + 1)
unlooped_more {m} {s} u o h = record { none_below = λ y p w. go y p w (ℕ_discrete y s) }
  where
    go : (y : ℕ) → y < s + 1 → Way (Reads (depends m)) y y → Dec (y ≡ s) → ⊥
    go y p w (yes q) = o.not h (subst (λ (z : ℕ). Way (Reads (depends m)) z z) q w)
    go y p w (no q) = u.none_below y (omega (arith, p, q)) w

pub lowest_found : (widest : ℕ) {m : Model} (sound : Sound widest m) {s : ℕ} {r : Bool} → Unlooped m s → s < length m.signals → OnLoop m s r → r ≡ true → Some s ≡ looped m
unfolding looped
lowest_found widest {m} sound {s} u h o t = sym (lowest_on_loop_only (depends m) (length m.signals) (reads_under widest m sound) (Some s) (h, o.is t, u.none_below))

pub none_found : (widest : ℕ) {m : Model} (sound : Sound widest m) {s : ℕ} → Unlooped m s → length m.signals ≤ s → None ≡ looped m
unfolding looped
none_found widest {m} sound {s} u h = sym (lowest_on_loop_only (depends m) (length m.signals) (reads_under widest m sound) None (λ y p w. u.none_below y (omega (arith, p, h)) w))

-- PASS AFTER PASS

pub backed_zeroed : {m : Model} {s : ℕ} (marks : List ℕ) {marks' : List ℕ} → marks' ≡ replicate (length marks) 0 → Backed m s marks'
backed_zeroed {m} {s} marks e = subst (λ (l : List ℕ). Backed m s l) (sym e) (backed_none m s (length marks))

pub found_end : {m : Model} {n s : ℕ} {marks marks' : List ℕ} {r : Bool} → Touches m n s marks r marks' → not r ≡ true → Found m s marks'
found_end {r = r} t h = record { backed = t.backed; full = t.full (no r h) }
  where
    no : (c : Bool) → not c ≡ true → c ≡ false
    no true z = sym z
    no false z = refl

pub found_less : {m : Model} {n s : ℕ} {marks marks' : List ℕ} {r : Bool} → Touches m n s marks r marks' → not r ≡ false → left marks' n < left marks n
found_less {r = r} t h = t.fewer (yes r h)
  where
    yes : (c : Bool) → not c ≡ false → c ≡ true
    yes true z = refl
    yes false z = sym z
