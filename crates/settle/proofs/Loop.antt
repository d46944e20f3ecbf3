-- The tests of loops say what they should: marking in rounds, and the lowest node on a loop.
-- Assumes nothing.
use Rattle.std.specs.Prelude.{ℕ, zero, suc, ◌<◌, ◌≡◌, refl, ◌⊎◌, true, ◌||◌, eqb}
use Rattle.std.proofs.Common.{subst, inl, inr, not-suc-le-zero, le_refl, arith, eqb-true, eq-eqb}
use Rattle.std.proofs.lemmas.Bool.{false≢true}
use Rattle.std.specs.Prelude.{Option, None, Some}
use mathlib.Core.List.{List, Memᴰ as Mem}
use Rattle.std.proofs.Math.Decide.{ℕ_discrete}
use Rattle.settle.specs.Walk.{Way, edge, more, Walk, way→walk}
use Rattle.settle.specs.Ground.{Lists, Ends, below, length_below, mem_below, below_mem, nodes_count, no_loop→ends, ends→grounded, grounded_no_loop}
use Rattle.settle.specs.Shorten.{shorten}
use Rattle.settle.specs.Tests.{all_in, all_out, any_in, any_out, clash, or_true, or_left, or_right, Lowest, lowest_is, lowest_unique, not_true→false}
use Rattle.settle.specs.Loop.{Reads, mark, Under, DepsUnder, NoLoops, loopless, reach, on_loop, lowest_on_loop, LowestOnLoop}

module _ {A : Type 0} (deps : A → List A) where
  pub mark→ends : (k : ℕ) (x : A) → mark deps k x ≡ true → Ends (Reads deps) k x
  mark→ends zero x h y w = absurd (false≢true h)
  mark→ends (suc k) x h y w = mark→ends k w.0 (all_out (mark deps k) (deps x) h w.0 w.1) y w.2

  pub ends→mark : (k : ℕ) (x : A) → Ends (Reads deps) k x → mark deps k x ≡ true
  ends→mark zero x h = absurd (h x refl)
  ends→mark (suc k) x h = all_in (mark deps k) (deps x) (λ y m. ends→mark k y (λ z w. h z (y, m, w)))

module _ (deps : ℕ → List ℕ) where
  pub reach→way : (k x y : ℕ) → reach deps k x y ≡ true → Way (Reads deps) x y
  reach→way zero x y h = absurd (false≢true h)
  reach→way (suc k) x y h =
      let r = any_out (λ z. eqb z y || reach deps k z y) (deps x) h in
      go r.0 r.1 (reach→way k r.0 y) (or_true (eqb r.0 y) (reach deps k r.0 y) r.2)
    where
      go : (z : ℕ) → Mem z (deps x) → (reach deps k z y ≡ true → Way (Reads deps) z y) → (eqb z y ≡ true) ⊎ (reach deps k z y ≡ true) → Way (Reads deps) x y
      go z m f (inl e) = edge (subst (λ (a : ℕ). Mem a (deps x)) (eqb-true z y e) m)
      go z m f (inr q) = more m (f q)

  pub walk→reach : (k n x y : ℕ) → n < k → Walk (Reads deps) (suc n) x y → reach deps k x y ≡ true
  walk→reach zero n x y h w = absurd (not-suc-le-zero h)
  walk→reach (suc k) zero x y h w = any_in (λ z. eqb z y || reach deps k z y) (deps x) w.0 w.1 (or_left (eqb w.0 y) (reach deps k w.0 y) (eq-eqb w.0 y w.2))
  walk→reach (suc k) (suc n) x y h w = any_in (λ z. eqb z y || reach deps k z y) (deps x) w.0 w.1 (or_right (eqb w.0 y) (reach deps k w.0 y) (walk→reach k n w.0 y (omega arith) w.2))

  module _ (n : ℕ) (under : DepsUnder n deps) where
    under_lists : Lists (Under n) (below n)
    under_lists x h = mem_below n x h

    -- (4) the test passes exactly where there is no loop
    pub loopless→no_loops : loopless n deps ≡ true → NoLoops n deps
    loopless→no_loops h x p w = grounded_no_loop (Reads deps) (ends→grounded (Reads deps) n x (mark→ends deps n x (all_out (mark deps n) (below n) h x (mem_below n x p)))) w

    pub no_loops→loopless : NoLoops n deps → loopless n deps ≡ true
    no_loops→loopless h =
        all_in (mark deps n) (below n) (λ x m. ends→mark deps n x (no_loop→ends (Reads deps) (Under n) under ℕ_discrete (below n) under_lists h n (omega (arith, length_below n)) x (below_mem n x m)))

    -- a way is no longer than it need be
    pub way→reach : (x y : ℕ) → x < n → Way (Reads deps) x y → reach deps n x y ≡ true
    way→reach x y p w = go (way→walk (Reads deps) w)
      where
        go : (k : ℕ) × Walk (Reads deps) (suc k) x y → reach deps n x y ≡ true
        go (k, (z, m, v)) =
            let s = shorten (Reads deps) ℕ_discrete k k (le_refl k) (below n) z y v (λ a b. mem_below n a (nodes_count (Reads deps) (Under n) under k z y v (under x z p m) a b)) in
            let h = s.1 in
            walk→reach n s.0 x y (omega (arith, length_below n)) (z, m, s.2)

    tests→loops : (o : Option ℕ) → Lowest (on_loop n deps) n o → LowestOnLoop n deps o
    tests→loops None h = λ x p w. clash (on_loop n deps x) (way→reach x x p w) (h x p)
    tests→loops (Some x) h = (h.0, reach→way n x x h.1, λ y q w. clash (on_loop n deps y) (way→reach y y (omega (arith, h.0)) w) (h.2 y q))

    loops→tests : (o : Option ℕ) → LowestOnLoop n deps o → Lowest (on_loop n deps) n o
    loops→tests None h = λ x p. not_true→false (on_loop n deps x) (λ e. h x p (reach→way n x x e))
    loops→tests (Some x) h = (h.0, way→reach x x h.0 h.1, λ y q. not_true→false (on_loop n deps y) (λ e. h.2 y q (reach→way n y y e)))

    -- (4) the lowest node on a loop, both ways
    pub lowest_on_loop_lem : LowestOnLoop n deps (lowest_on_loop n deps)
    lowest_on_loop_lem = tests→loops (lowest_on_loop n deps) (lowest_is (on_loop n deps) n)

    pub lowest_on_loop_only : (o : Option ℕ) → LowestOnLoop n deps o → lowest_on_loop n deps ≡ o
    lowest_on_loop_only o h = lowest_unique (on_loop n deps) n (lowest_on_loop n deps) o (lowest_is (on_loop n deps) n) (loops→tests o h)
