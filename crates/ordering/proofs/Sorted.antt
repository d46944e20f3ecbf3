-- Marks and order, expression by expression.
use Prim.Native.Nat.{ℕ, zero, suc, ◌+◌, ◌≤◌, ◌<◌}
use mathlib.Core.Path.{◌≡◌, refl, sym, ◌∙◌, ap, subst}
use mathlib.Core.Bool.{Bool, true, false, not, false≢true}
use mathlib.Core.List.Memᴰ.{append_left as mem-left}
use mathlib.Core.List.Memᴰ.{append_right as mem-right}
use mathlib.Core.List.Memᴰ.{head as here}
use mathlib.Core.List.{List, [], ◌∷◌, ◌++◌, Memᴰ as Mem}
use native.Mathlib.Omega.{arith}
use native.Mathlib.Nat.{not-suc-le-zero}
use native.Mathlib.Decide.{ℕ_discrete}
use lib.Dec.{leb}
use lib.ListN.{length, get_or, set, take, replicate, length-set}
use lib.Seq.{get_or-set_same, get_or-set_other, take-set-le, take-suc}
use Rattle.bits.specs.Bits.{pick}
use Rattle.recorder.specs.Record.{Model}
use Rattle.settle.specs.Tests.{all_out}
use Rattle.simulation.proofs.Tally.{get_d_zeros}
use Rattle.ordering.specs.Order.{needs}
use Rattle.ordering.specs.Marks.{marked, ready, Stuck, left, adds, Noted, Sorting}
use Rattle.ordering.specs.Sorts.{Step, Sorts, SortsAll}
use Rattle.ordering.proofs.Marking.{reached_none, reached_more}

-- HOW MANY ARE LEFT

left_zeros : (k n : ℕ) → left (replicate k 0) n ≡ n
left_zeros k zero = refl
left_zeros k (suc n) = ap (λ (x : ℕ). pick (leb 1 x) 0 1 + left (replicate k 0) n) (get_d_zeros k n) ∙ (let z = left_zeros k n in omega (arith, z))

left_other : (marks : List ℕ) (e n : ℕ) → n ≤ e → left (set marks e 1) n ≡ left marks n
left_other marks e zero h = refl
left_other marks e (suc n) h =
    let d : n ≡ e → ⊥ = λ p. omega (arith, p, h) in
    ap (λ (x : ℕ). pick (leb 1 x) 0 1 + left (set marks e 1) n) (get_or-set_other marks e n 1 0 d) ∙ ap (λ (x : ℕ). pick (marked marks n) 0 1 + x) (left_other marks e n (omega (arith, h)))

pub left_set : (marks : List ℕ) (e n : ℕ) → e < n → e < length marks → marked marks e ≡ false → suc (left (set marks e 1) n) ≡ left marks n
left_set marks e zero h q f = absurd (not-suc-le-zero h)
left_set marks e (suc n) h q f = go (ℕ_discrete n e) (λ (p : e < n). left_set marks e n p q f)
  where
    go : Dec (n ≡ e) → (e < n → suc (left (set marks e 1) n) ≡ left marks n) → suc (pick (marked (set marks e 1) n) 0 1 + left (set marks e 1) n) ≡ pick (marked marks n) 0 1 + left marks n
    go (yes p) ih =
        let a : get_or (set marks e 1) n 0 ≡ 1 = ap (λ (j : ℕ). get_or (set marks e 1) j 0) p ∙ get_or-set_same marks e 1 0 q in
        let b : marked marks n ≡ false = ap (marked marks) p ∙ f in
        ap (λ (x : ℕ). suc (pick (leb 1 x) 0 1 + left (set marks e 1) n)) a
        ∙ ap (λ (x : ℕ). suc (0 + x)) (left_other marks e n (omega (arith, p)))
        ∙ (let z : suc (0 + left marks n) ≡ 1 + left marks n = omega arith in z)
        ∙ ap (λ (x : Bool). pick x 0 1 + left marks n) (sym b)
    go (no d) ih =
        let a : get_or (set marks e 1) n 0 ≡ get_or marks n 0 = get_or-set_other marks e n 1 0 d in
        let i = ih (omega (arith, h, d)) in
        ap (λ (x : ℕ). suc (pick (leb 1 x) 0 1 + left (set marks e 1) n)) a ∙ (let z : suc (pick (marked marks n) 0 1 + left (set marks e 1) n) ≡ pick (marked marks n) 0 1 + left marks n = omega (arith, i) in z)

pub left_all : (marks : List ℕ) (n : ℕ) → left marks n ≡ 0 → (e : ℕ) → e < n → marked marks e ≡ true
left_all marks zero h e p = absurd (not-suc-le-zero p)
left_all marks (suc n) h e p = go (marked marks n) refl (ℕ_discrete e n) (λ (z : left marks n ≡ 0). left_all marks n z e)
  where
    go : (b : Bool) → marked marks n ≡ b → Dec (e ≡ n) → (left marks n ≡ 0 → e < n → marked marks e ≡ true) → marked marks e ≡ true
    go true q (yes r) f = ap (marked marks) r ∙ q
    go true q (no r) f = f (omega (arith, h)) (omega (arith, p, r))
    go false q r f = absurd (let z : ◌≡◌ {A = ℕ} (pick (marked marks n) 0 1) 1 = ap (λ (b : Bool). pick b 0 1) q in omega (arith, z, h))

-- IN ORDER

noted_none : (m : Model) (k : ℕ) (order : List ℕ) → Noted m (replicate k 0) order 0
noted_none m k order = record { each = λ e h. absurd (false≢true (subst (λ (x : ℕ). leb 1 x ≡ true) (get_d_zeros k e) h)); behind = λ j h. absurd (not-suc-le-zero h) }

noted_more : (m : Model) (marks order : List ℕ) (k e : ℕ) → k < length order → Noted m marks order k → ready m marks e ≡ true → Noted m (set marks e 1) (set order k e) (suc k)
noted_more m marks order k e r s h = record { each = λ d q. one d q (ℕ_discrete d e); behind = λ j q d z. two j q d z (ℕ_discrete j k) }
  where
    order' : List ℕ
    order' = set order k e

    grown : take (suc k) (set order k e) ≡ take k order ++ (e ∷ [])
    grown =
        take-suc (set order k e) k 0 (subst (λ (n : ℕ). k < n) (sym (length-set order k e)) r)
        ∙ ap (λ (l : List ℕ). l ++ (get_or (set order k e) k 0 ∷ [])) (take-set-le k order k e (omega arith))
        ∙ ap (λ (x : ℕ). take k order ++ (x ∷ [])) (get_or-set_same order k e 0 r)

    one : (d : ℕ) → marked (set marks e 1) d ≡ true → Dec (d ≡ e) → Mem d (take (suc k) (set order k e))
    one d q (yes p) = subst (λ (l : List ℕ). Mem d l) (sym grown) (mem-right (take k order) (here p))
    one d q (no p) = subst (λ (l : List ℕ). Mem d l) (sym grown) (mem-left (e ∷ []) (s.each d (subst (λ (x : ℕ). leb 1 x ≡ true) (get_or-set_other marks e d 1 0 p) q)))

    two : (j : ℕ) → j < suc k → (d : ℕ) → Mem d (needs m (get_or (set order k e) j 0)) → Dec (j ≡ k) → Mem d (take j (set order k e))
    two j q d z (yes p) =
        let a : get_or (set order k e) j 0 ≡ e = ap (λ (i : ℕ). get_or (set order k e) i 0) p ∙ get_or-set_same order k e 0 r in
        let y : Mem d (needs m e) = subst (λ (x : ℕ). Mem d (needs m x)) a z in
        subst (λ (l : List ℕ). Mem d l) (sym (take-set-le j order k e (omega (arith, p)))) (subst (λ (i : ℕ). Mem d (take i order)) (sym p) (s.each d (all_out (marked marks) (needs m e) h d y)))
    two j q d z (no p) =
        let a : get_or (set order k e) j 0 ≡ get_or order j 0 = get_or-set_other order k j e 0 p in
        subst (λ (l : List ℕ). Mem d l) (sym (take-set-le j order k e (omega (arith, q)))) (s.behind j (omega (arith, q, p)) d (subst (λ (x : ℕ). Mem d (needs m x)) a z))

-- ALL TOGETHER

pub sorting_none : (m : Model) (n k : ℕ) (order : List ℕ) → Sorting m n (replicate k 0) order 0
sorting_none m n k order = record { reached = reached_none m k; counted = let z = left_zeros k n in omega (arith, z); noted = λ h. noted_none m k order }

pub adds_new : (m : Model) (marks : List ℕ) (e : ℕ) → adds m marks e ≡ true → (marked marks e ≡ false) × (ready m marks e ≡ true)
adds_new m marks e h = go (marked marks e) refl h
  where
    go : (b : Bool) → marked marks e ≡ b → pick b false (ready m marks e) ≡ true → (marked marks e ≡ false) × (ready m marks e ≡ true)
    go true q z = absurd (false≢true z)
    go false q z = (q, z)

pub sorting_more : (m : Model) (n : ℕ) (marks order : List ℕ) (k e : ℕ) → e < n → n ≤ length marks → adds m marks e ≡ true → Sorting m n marks order k → Sorting m n (set marks e 1) (set order k e) (k + 1)
sorting_more m n marks order k e p q a s =
    let b = adds_new m marks e a in
    let l = left_set marks e n p (omega (arith, p, q)) b.0 in
    let g : suc k ≡ k + 1 = omega arith in
    record {
      reached = reached_more m marks e s.reached b.1;
      counted = let c = s.counted in omega (arith, c, l);
      noted = λ h. subst (λ (i : ℕ). Noted m (set marks e 1) (set order k e) i) g
          (let h' : n ≤ length order = subst (λ (i : ℕ). n ≤ i) (length-set order k e) h in
          let c = s.counted in
          noted_more m marks order k e (omega (arith, c, l, h')) (s.noted h') b.1);
    }

pub sorting_bound : {m : Model} {n : ℕ} {marks order : List ℕ} {k : ℕ} → Sorting m n marks order k → k ≤ n
sorting_bound s = let c = s.counted in omega (arith, c)

-- nothing added up to e, and nothing to add there
pub record Quiet (m : Model) (marks : List ℕ) (e : ℕ) : Type 0 where
  pub nothing : (d : ℕ) → d < e → adds m marks d ≡ false

pub quiet_none : (m : Model) (marks : List ℕ) → Quiet m marks 0
quiet_none m marks = record { nothing = λ d h. absurd (not-suc-le-zero h) }

pub quiet_more : (m : Model) (marks : List ℕ) (e : ℕ) → Quiet m marks e → adds m marks e ≡ false → Quiet m marks (e + 1)
quiet_more m marks e s h = record { nothing = λ d p. go d p (ℕ_discrete d e) }
  where
    go : (d : ℕ) → d < e + 1 → Dec (d ≡ e) → adds m marks d ≡ false
    go d p (yes q) = ap (adds m marks) q ∙ h
    go d p (no q) = s.nothing d (omega (arith, p, q))

pub quiet_stuck : (m : Model) (marks : List ℕ) → Quiet m marks (length m.exprs) → Stuck m marks
quiet_stuck m marks s = record { none_ready = λ e p u. sym (ap (λ (b : Bool). pick b false (ready m marks e)) u) ∙ s.nothing e p }

-- A PASS up to expression e

pub record Passing (m : Model) (n k : ℕ) (marks₀ order₀ marks order : List ℕ) (count e : ℕ) : Type 0 where
  pub sorting : Sorting m n marks order count
  pub grows : k ≤ count
  pub within : e ≤ n
  pub quiet : count ≡ k → Quiet m marks e
  pub marks_long : length marks ≡ length marks₀
  pub order_long : length order ≡ length order₀

pub passing_start : (m : Model) (n k : ℕ) (marks order : List ℕ) → Sorting m n marks order k → Passing m n k marks order marks order k 0
passing_start m n k marks order s = record { sorting = s; grows = omega arith; within = omega arith; quiet = λ h. quiet_none m marks; marks_long = refl; order_long = refl }

passing_same : {m : Model} {n k : ℕ} {marks₀ order₀ marks order : List ℕ} {count e : ℕ} → Passing m n k marks₀ order₀ marks order count e → e < n → {b : Bool} → b ≡ adds m marks e → b ≡ false → Passing m n k marks₀ order₀ marks order count (e + 1)
passing_same {m} {marks = marks} {e = e} s h q f = record { sorting = s.sorting; grows = s.grows; within = omega arith; quiet = λ z. quiet_more m marks e (s.quiet z) (sym q ∙ f); marks_long = s.marks_long; order_long = s.order_long }

passing_more : {m : Model} {n k : ℕ} {marks₀ order₀ marks order order' : List ℕ} {count e : ℕ} → Passing m n k marks₀ order₀ marks order count e → e < n → n ≤ length marks₀ → {b : Bool} → b ≡ adds m marks e → b ≡ true → order' ≡ set order count e → Passing m n k marks₀ order₀ (set marks e 1) order' (count + 1) (e + 1)
passing_more {m} {n} {k} {marks₀} {order₀} {marks} {order} {order'} {count} {e} s h l q f o =
    subst (λ (u : List ℕ). Passing m n k marks₀ order₀ (set marks e 1) u (count + 1) (e + 1)) (sym o)
    (record {
      sorting = sorting_more m n marks order count e h (let w = s.marks_long in omega (arith, w, l)) (sym q ∙ f) s.sorting;
      grows = let g = s.grows in omega (arith, g);
      within = omega arith;
      quiet = λ z. absurd (let g = s.grows in omega (arith, g, z));
      marks_long = length-set marks e 1 ∙ s.marks_long;
      order_long = length-set order count e ∙ s.order_long;
    })

pub passing_end : {m : Model} {n k : ℕ} {marks₀ order₀ marks order : List ℕ} {count e : ℕ} → Passing m n k marks₀ order₀ marks order count e → n ≡ length m.exprs → n ≤ e → Sorts m n k count marks order
passing_end {m} {n} {marks = marks} {e = e} s p h =
    record { grows = s.grows; sorting = s.sorting; done = λ z. quiet_stuck m marks (subst (λ (i : ℕ). Quiet m marks i) (let w = s.within in let y : e ≡ n = omega (arith, w, h) in y ∙ p) (s.quiet z)) }

pub passing_count : {m : Model} {n k : ℕ} {marks₀ order₀ marks order : List ℕ} {count e : ℕ} → Passing m n k marks₀ order₀ marks order count e → count ≤ n
passing_count s = sorting_bound s.sorting

pub passing_step : {m : Model} {n k : ℕ} {marks₀ order₀ marks order marks' order' : List ℕ} {count r e : ℕ} → Passing m n k marks₀ order₀ marks order count e → e < n → n ≤ length marks₀ → Step m marks order count e r marks' order' → Passing m n k marks₀ order₀ marks' order' r (e + 1)
passing_step {m} {n} {k} {marks₀} {order₀} {marks} {order} {marks'} {order'} {count} {r} {e} s h l t = go (adds m marks e) refl t.count t.marks_are t.order_is
  where
    go : (b : Bool) → adds m marks e ≡ b → r ≡ pick b (count + 1) count → marks' ≡ pick b (set marks e 1) marks → order' ≡ pick b (set order count e) order → Passing m n k marks₀ order₀ marks' order' r (e + 1)
    go true q a c d = subst (λ (i : ℕ). Passing m n k marks₀ order₀ marks' order' i (e + 1)) (sym a) (subst (λ (u : List ℕ). Passing m n k marks₀ order₀ u order' (count + 1) (e + 1)) (sym c) (passing_more s h l refl q d))
    go false q a c d =
        subst (λ (i : ℕ). Passing m n k marks₀ order₀ marks' order' i (e + 1)) (sym a) (subst (λ (u : List ℕ). Passing m n k marks₀ order₀ u order' count (e + 1)) (sym c) (subst (λ (u : List ℕ). Passing m n k marks₀ order₀ marks u count (e + 1)) (sym d) (passing_same s h refl q)))

step_none : {m : Model} {marks order : List ℕ} {k e : ℕ} → adds m marks e ≡ false → Step m marks order k e k marks order
step_none {marks = marks} {order} {k} {e} h = record { count = sym (ap (λ (b : Bool). pick b (k + 1) k) h); marks_are = sym (ap (λ (b : Bool). pick b (set marks e 1) marks) h); order_is = sym (ap (λ (b : Bool). pick b (set order k e) order) h) }

pub step_same : {m : Model} {marks order : List ℕ} {k e : ℕ} {b : Bool} → b ≡ adds m marks e → not b ≡ true → Step m marks order k e k marks order
step_same {b = b} q h = step_none (sym q ∙ no b h)
  where
    no : (c : Bool) → not c ≡ true → c ≡ false
    no true z = sym z
    no false z = refl

pub step_more : {m : Model} {marks order order' : List ℕ} {k e : ℕ} {b : Bool} → b ≡ adds m marks e → not b ≡ false → order' ≡ set order k e → Step m marks order k e (k + 1) (set marks e 1) order'
step_more {m} {marks} {order} {order'} {k} {e} {b} q h o =
    let a : adds m marks e ≡ true = sym q ∙ yes b h in
    record { count = sym (ap (λ (c : Bool). pick c (k + 1) k) a); marks_are = sym (ap (λ (c : Bool). pick c (set marks e 1) marks) a); order_is = o ∙ sym (ap (λ (c : Bool). pick c (set order k e) order) a) }
  where
    yes : (c : Bool) → not c ≡ false → c ≡ true
    yes true z = refl
    yes false z = sym z

-- PASS AFTER PASS

pub record SortingOn (m : Model) (n : ℕ) (marks₀ order₀ marks order : List ℕ) (k : ℕ) : Type 0 where
  pub sorting : Sorting m n marks order k
  pub marks_long : length marks ≡ length marks₀
  pub order_long : length order ≡ length order₀

pub sorting_end : {m : Model} {n k r : ℕ} {marks order : List ℕ} → Sorts m n k r marks order → r ≡ k → SortsAll m n k marks order
sorting_end {m} {n} {k} {r} {marks} {order} s e = record { sorted = subst (λ (i : ℕ). Sorting m n marks order i) e s.sorting; stuck = s.done e }
