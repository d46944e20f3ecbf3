-- Marking in passes: what is marked can be reached at last, and where nothing can be added the unmarked are on or behind a loop.
use Prim.Native.Nat.{ℕ, suc, ◌<◌}
use mathlib.Core.Path.{◌≡◌, refl, sym, ◌∙◌, subst}
use mathlib.Core.Logic.{◌⊎◌, inl, inr}
use mathlib.Core.Bool.{Bool, true, false, false≢true}
use mathlib.Core.List.Memᴰ.{eq_of_singleton as singleton}
use mathlib.Core.List.Memᴰ.{not-nil}
use mathlib.Core.List.{List, [], ◌∷◌, Memᴰ as Mem}
use Rattle.std.specs.Prelude.{Option, None, Some}
use native.Mathlib.Omega.{arith}
use native.Mathlib.Decide.{ℕ_discrete}
use lib.Dec.{eqb, leb, ltb}
use lib.ListN.{length, get_or, set, replicate, length-map}
use lib.Seq.{get_or-set_other}
use borrow.Author.Tests.{ltb-true}
use Rattle.bits.specs.Bits.{pick}
use Rattle.recorder.specs.Record.{Expr, Stmt, Model}
use Rattle.recorder.specs.Record.{const, read, concat, not, and, or, xor, mux, eq, mul, assign, reg}
use Rattle.settle.specs.Ground.{Grounded, ground}
use Rattle.settle.specs.Tests.{all, all_in, all_out, clash, and_left, and_right, answer}
use Rattle.simulation.specs.Wellformed.{wide, or_else, stmt_fits}
use Rattle.simulation.specs.Tick.{target, given, assigns, looped}
use Rattle.simulation.specs.Run.{expr_width}
use Rattle.simulation.specs.Sound.{AllFrom, Sound, signal_widths, expr_widths}
use Rattle.simulation.proofs.Tally.{get_d_zeros}
use Rattle.ordering.specs.Order.{listed, needs_of, needs, Needs}
use Rattle.ordering.specs.Marks.{marked, ready, Reached, Stuck}
use Rattle.ordering.proofs.Grounds.{operands, needs_below, grounded→unlooped, unlooped→grounded}

pub reached_none : (m : Model) (n : ℕ) → Reached m (replicate n 0)
reached_none m n = record { ends = λ e h. absurd (false≢true (subst (λ (k : ℕ). leb 1 k ≡ true) (get_d_zeros n e) h)) }

pub reached_more : (m : Model) (marks : List ℕ) (e : ℕ) → Reached m marks → ready m marks e ≡ true → Reached m (set marks e 1)
reached_more m marks e r h = record { ends = λ d k. go d k (ℕ_discrete d e) }
  where
    go : (d : ℕ) → marked (set marks e 1) d ≡ true → Dec (d ≡ e) → Grounded (Needs m) d
    go d k (yes p) = subst (λ (x : ℕ). Grounded (Needs m) x) (sym p) (ground (λ y q. r.ends y (all_out (marked marks) (needs m e) h y q)))
    go d k (no p) = r.ends d (subst (λ (x : ℕ). leb 1 x ≡ true) (get_or-set_other marks e d 1 0 p) k)

-- DRIVERS ARE THERE

module _ (sw ew : List ℕ) where
  stmt_value : (t : Stmt) (e : ℕ) → stmt_fits sw ew t ≡ true → assigns t ≡ Some e → e < length ew
  stmt_value (assign t e') e h p =
      let q : e' ≡ e = cc in
      let w = and_right (ltb t (length sw)) (wide ew (length ew) e' (get_or sw t 0)) h in
      let z = ltb-true e' (length ew) (and_left (ltb e' (length ew)) (eqb (get_or ew e' 0) (get_or sw t 0)) w) in
      omega (arith, q)
  stmt_value (reg t n c d r en) e h p = let z : ◌≡◌ {A = ℕ} 0 1 = cc in omega arith

  given_there : (n : ℕ) (ts : List Stmt) (s e : ℕ) → AllFrom (λ (i : ℕ). stmt_fits sw ew) n ts → given assigns ts s ≡ Some e → e < length ew
  given_there n [] s e h p = let z : ◌≡◌ {A = ℕ} 0 1 = cc in omega arith
  given_there n (t ∷ ts) s e h p = go (eqb (target t) s) (assigns t) refl p (given_there (suc n) ts s e h.1)
    where
      go : (b : Bool) (o : Option ℕ) → assigns t ≡ o → pick b (or_else o (given assigns ts s)) (given assigns ts s) ≡ Some e → (given assigns ts s ≡ Some e → e < length ew) → e < length ew
      go false o q z f = f z
      go true None q z f = f z
      go true (Some d) q z f = stmt_value t e h.0 (q ∙ z)

module _ (widest : ℕ) (m : Model) (sound : Sound widest m) where
  pub driver_there : (s e : ℕ) → given assigns m.stmts s ≡ Some e → e < length m.exprs
  driver_there s e p = let q = given_there (signal_widths m) (expr_widths m) 0 m.stmts s e sound.stmts_fit p in omega (arith, length-map m.exprs expr_width)

  listed_there : (s d : ℕ) → Mem d (listed (given assigns m.stmts s)) → d < length m.exprs
  listed_there s d k = go (given assigns m.stmts s) refl k
    where
      go : (o : Option ℕ) → given assigns m.stmts s ≡ o → Mem d (listed o) → d < length m.exprs
      go None q z = absurd (not-nil z)
      go (Some e) q z = let w = driver_there s e q in omega (arith, singleton z)

  kinds_there : (x : Expr) (e : ℕ) → e < length m.exprs → ((d : ℕ) → Mem d (operands x) → d < e) → (d : ℕ) → Mem d (needs_of m.stmts x) → d < length m.exprs
  kinds_there (const w v) e h f d k = absurd (not-nil k)
  kinds_there (read w s l) e h f d k = listed_there s d k
  kinds_there (concat w ps) e h f d k = let z = f d k in omega arith
  kinds_there (not a) e h f d k = let z = f d k in omega arith
  kinds_there (and a b) e h f d k = let z = f d k in omega arith
  kinds_there (or a b) e h f d k = let z = f d k in omega arith
  kinds_there (xor a b) e h f d k = let z = f d k in omega arith
  kinds_there (mux w a b c) e h f d k = let z = f d k in omega arith
  kinds_there (eq a b) e h f d k = let z = f d k in omega arith
  kinds_there (mul a b) e h f d k = let z = f d k in omega arith

  -- what an expression needs is there
  pub needs_there : (e : ℕ) → e < length m.exprs → (d : ℕ) → Mem d (needs m e) → d < length m.exprs
  needs_there e h d k = kinds_there (get_or m.exprs e (const 0 0)) e h (needs_below widest m sound e h) d k

  -- where nothing can be added, what can be reached is marked
  module _ (marks : List ℕ) (stuck : Stuck m marks) where
    reachable_marked : {e : ℕ} → Grounded (Needs m) e → e < length m.exprs → marked marks e ≡ true
    reachable_marked {e} (ground h) p = go (answer (marked marks e)) (λ d q. reachable_marked (h d q) (needs_there e p d q))
      where
        go : (marked marks e ≡ true) ⊎ (marked marks e ≡ false) → ((d : ℕ) → Mem d (needs m e) → marked marks d ≡ true) → marked marks e ≡ true
        go (inl y) f = y
        go (inr n) f = clash (ready m marks e) (all_in (marked marks) (needs m e) f) (stuck.none_ready e p n)

    pub unlooped_marked : looped m ≡ None → (e : ℕ) → e < length m.exprs → marked marks e ≡ true
    unlooped_marked h e p = reachable_marked (unlooped→grounded widest m sound h e p) p

  pub marked_unlooped : (marks : List ℕ) → Reached m marks → ((e : ℕ) → e < length m.exprs → marked marks e ≡ true) → looped m ≡ None
  marked_unlooped marks r all = grounded→unlooped widest m sound (λ e h. r.ends e (all e h))
