-- Which expressions lead to a signal, by marks; a signal whose own expression leads to it is on a loop.
use Prim.Native.Nat.{ℕ, zero, suc, ◌<◌}
use mathlib.Core.Path.{◌≡◌, refl, sym, ◌∙◌, subst}
use mathlib.Core.Logic.{◌⊎◌, inl, inr}
use mathlib.Core.Bool.{true, false, ◌||◌, false≢true}
use mathlib.Core.List.Memᴰ.{eq_of_singleton as singleton}
use mathlib.Core.List.Memᴰ.{head as here}
use mathlib.Core.List.Memᴰ.{not-nil}
use mathlib.Core.List.{List, [], ◌∷◌, Memᴰ as Mem}
use Rattle.std.specs.Prelude.{Option, None, Some}
use native.Mathlib.Omega.{arith}
use native.Mathlib.Nat.{not-suc-le-zero}
use native.Mathlib.Decide.{dec_lt, ℕ_discrete}
use lib.Dec.{eqb, leb}
use lib.ListN.{length, get_or, set, replicate, get_or-eq_default}
use lib.Seq.{get_or-set_other}
use borrow.Author.Tests.{eqb-true, eq-eqb}
use Rattle.recorder.specs.Record.{Expr, Model}
use Rattle.recorder.specs.Record.{const, read, concat, not, and, or, xor, mux, eq, mul}
use Rattle.settle.specs.Walk.{Way, edge, more}
use Rattle.settle.specs.Loop.{Reads}
use Rattle.settle.specs.Tests.{any, any_in, any_out, clash, or_true, or_left, or_right, answer}
use Rattle.simulation.specs.Tick.{given, assigns, reads_expr, reads_all, reads_by, depends}
use Rattle.simulation.specs.Sound.{Sound}
use Rattle.simulation.proofs.Settles.{length_reads}
use Rattle.simulation.proofs.Tally.{get_d_zeros}
use Rattle.ordering.specs.Order.{listed, needs_of}
use Rattle.ordering.specs.Marks.{marked, reads_it, touched, Leads, Backed, Full}
use Rattle.ordering.proofs.Grounds.{operands, reads_at, needs_below, operand_reads, through_kind}

pub backed_none : (m : Model) (s n : ℕ) → Backed m s (replicate n 0)
backed_none m s n = record { leads = λ e h. absurd (false≢true (subst (λ (k : ℕ). leb 1 k ≡ true) (get_d_zeros n e) h)) }

-- the kind of an expression: a read, or one that needs its operands
pub data Shape (m : Model) : Expr → Type 0 where
  reads : (w s l : ℕ) → Shape m (read w s l)
  other : {x : Expr} → needs_of m.stmts x ≡ operands x → ((s : ℕ) → reads_it s x ≡ false) → Shape m x

shape : (m : Model) (x : Expr) → Shape m x
shape m (const w v) = other refl (λ s. refl)
shape m (read w s l) = reads w s l
shape m (concat w ps) = other refl (λ s. refl)
shape m (not a) = other refl (λ s. refl)
shape m (and a b) = other refl (λ s. refl)
shape m (or a b) = other refl (λ s. refl)
shape m (xor a b) = other refl (λ s. refl)
shape m (mux w a b c) = other refl (λ s. refl)
shape m (eq a b) = other refl (λ s. refl)
shape m (mul a b) = other refl (λ s. refl)

module _ (widest : ℕ) (m : Model) (sound : Sound widest m) (s : ℕ) where
  abbrev rs : List (List ℕ)
  rs = reads_all [] m.exprs

  abbrev x : ℕ → Expr
  x e = get_or m.exprs e (const 0 0)

  -- a signal whose expression leads to s has a way to s
  way_by : (y d : ℕ) → Mem d (listed (given assigns m.stmts y)) → Leads m s d → Way (Reads (depends m)) y s
  way_by y d k l = go (given assigns m.stmts y) refl k l
    where
      go : (o : Option ℕ) → given assigns m.stmts y ≡ o → Mem d (listed o) → Leads m s d → Way (Reads (depends m)) y s
      go None p z q = absurd (not-nil z)
      go (Some a) p z (inl q) = edge (subst (λ (t : Option ℕ). Mem s (reads_by rs t)) (sym p) (subst (λ (b : ℕ). Mem s (get_or rs b [])) (singleton z) q))
      go (Some a) p z (inr t) = more (subst (λ (u : Option ℕ). Mem t.0 (reads_by rs u)) (sym p) (subst (λ (b : ℕ). Mem t.0 (get_or rs b [])) (singleton z) t.1)) t.2

  leads_kind : (v : Expr) → Shape m v → (marks : List ℕ) → Backed m s marks → (reads_it s v || any (marked marks) (needs_of m.stmts v)) ≡ true → Mem s (reads_expr rs v) ⊎ ((y : ℕ) × Mem y (reads_expr rs v) × Way (Reads (depends m)) y s)
  leads_kind v (reads w y l) marks b h = go (or_true (eqb y s) (any (marked marks) (listed (given assigns m.stmts y))) h)
    where
      go : (eqb y s ≡ true) ⊎ (any (marked marks) (listed (given assigns m.stmts y)) ≡ true) → Mem s (y ∷ []) ⊎ ((z : ℕ) × Mem z (y ∷ []) × Way (Reads (depends m)) z s)
      go (inl p) = inl (here (sym (eqb-true y s p)))
      go (inr q) = let r = any_out (marked marks) (listed (given assigns m.stmts y)) q in inr (y, here refl, way_by y r.0 r.1 (b.leads r.0 r.2))
  leads_kind v (other n p) marks b h = go (or_true (reads_it s v) (any (marked marks) (needs_of m.stmts v)) h)
    where
      through : (a : ℕ) → Mem a (operands v) → Leads m s a → Mem s (reads_expr rs v) ⊎ ((y : ℕ) × Mem y (reads_expr rs v) × Way (Reads (depends m)) y s)
      through a k (inl q) = inl (operand_reads rs s v a k q)
      through a k (inr t) = inr (t.0, operand_reads rs t.0 v a k t.1, t.2)

      go : (reads_it s v ≡ true) ⊎ (any (marked marks) (needs_of m.stmts v) ≡ true) → Mem s (reads_expr rs v) ⊎ ((y : ℕ) × Mem y (reads_expr rs v) × Way (Reads (depends m)) y s)
      go (inl q) = clash (reads_it s v) q (p s)
      go (inr q) = let r = any_out (marked marks) (needs_of m.stmts v) q in through r.0 (subst (λ (l : List ℕ). Mem r.0 l) n r.1) (b.leads r.0 r.2)

  leads_at : (marks : List ℕ) (e : ℕ) → e < length m.exprs → Backed m s marks → touched m marks s e ≡ true → Leads m s e
  leads_at marks e h b t = go (leads_kind (x e) (shape m (x e)) marks b t)
    where
      back : (y : ℕ) → Mem y (reads_expr rs (x e)) → Mem y (get_or rs e [])
      back y k = subst (λ (l : List ℕ). Mem y l) (sym (reads_at widest m sound e h)) k

      go : Mem s (reads_expr rs (x e)) ⊎ ((y : ℕ) × Mem y (reads_expr rs (x e)) × Way (Reads (depends m)) y s) → Leads m s e
      go (inl q) = inl (back s q)
      go (inr r) = inr (r.0, back r.0 r.1, r.2)

  pub backed_more : (marks : List ℕ) (e : ℕ) → e < length m.exprs → Backed m s marks → touched m marks s e ≡ true → Backed m s (set marks e 1)
  backed_more marks e h b t = record { leads = λ d k. go d k (ℕ_discrete d e) }
    where
      go : (d : ℕ) → marked (set marks e 1) d ≡ true → Dec (d ≡ e) → Leads m s d
      go d k (yes p) = subst (λ (a : ℕ). Leads m s a) (sym p) (leads_at marks e h b t)
      go d k (no p) = b.leads d (subst (λ (a : ℕ). leb 1 a ≡ true) (get_or-set_other marks e d 1 0 p) k)

  module _ (marks : List ℕ) (full : Full m s marks) where
    -- s itself, or a signal whose expression is marked
    abbrev Hit : ℕ → Type 0
    Hit y = (y ≡ s) ⊎ ((d : ℕ) × Mem d (listed (given assigns m.stmts y)) × (marked marks d ≡ true))

    marked_by : (e : ℕ) → e < length m.exprs → touched m marks s e ≡ true → marked marks e ≡ true
    marked_by e h t = go (answer (marked marks e))
      where
        go : (marked marks e ≡ true) ⊎ (marked marks e ≡ false) → marked marks e ≡ true
        go (inl y) = y
        go (inr n) = clash (touched m marks s e) t (full.none_touched e h n)

    hit_kind : (v : Expr) → Shape m v → (y : ℕ) → Mem y (reads_expr rs v) → Hit y → ((a : ℕ) → Mem a (operands v) → Mem y (get_or rs a []) → marked marks a ≡ true) → (reads_it s v || any (marked marks) (needs_of m.stmts v)) ≡ true
    hit_kind v (reads w z l) y k (inl p) f = or_left (eqb z s) (any (marked marks) (listed (given assigns m.stmts z))) (eq-eqb z s (sym (singleton k) ∙ p))
    hit_kind v (reads w z l) y k (inr t) f =
        or_right (eqb z s) (any (marked marks) (listed (given assigns m.stmts z))) (any_in (marked marks) (listed (given assigns m.stmts z)) t.0 (subst (λ (a : ℕ). Mem t.0 (listed (given assigns m.stmts a))) (singleton k) t.1) t.2)
    hit_kind v (other n p) y k h f = go (through_kind rs y v k)
      where
        go : (reads_it y v ≡ true) ⊎ ((a : ℕ) × Mem a (operands v) × Mem y (get_or rs a [])) → (reads_it s v || any (marked marks) (needs_of m.stmts v)) ≡ true
        go (inl q) = clash (reads_it y v) q (p y)
        go (inr r) = or_right (reads_it s v) (any (marked marks) (needs_of m.stmts v)) (any_in (marked marks) (needs_of m.stmts v) r.0 (subst (λ (l : List ℕ). Mem r.0 l) (sym n) r.1) (f r.0 r.1 r.2))

    -- an expression that reads such a signal is marked
    hit_marked : (k e y : ℕ) → e < k → Mem y (get_or rs e []) → Hit y → marked marks e ≡ true
    hit_marked zero e y h q t = absurd (not-suc-le-zero h)
    hit_marked (suc k) e y h q t = go (dec_lt e (length m.exprs)) (λ a p z. hit_marked k a y (omega (arith, p, h)) z t)
      where
        go : Dec (e < length m.exprs) → ((a : ℕ) → a < e → Mem y (get_or rs a []) → marked marks a ≡ true) → marked marks e ≡ true
        go (no n) f = absurd (not-nil (subst (λ (l : List ℕ). Mem y l) (get_or-eq_default rs [] (omega (arith, length_reads m.exprs []))) q))
        go (yes p) f = marked_by e p (hit_kind (x e) (shape m (x e)) y (subst (λ (l : List ℕ). Mem y l) (reads_at widest m sound e p) q) t (λ a z w. f a (needs_below widest m sound e p a z) w))

    first_edge : (y z : ℕ) → Mem z (depends m y) → Hit z → (d : ℕ) × Mem d (listed (given assigns m.stmts y)) × (marked marks d ≡ true)
    first_edge y z k t = go (given assigns m.stmts y) k
      where
        go : (o : Option ℕ) → Mem z (reads_by rs o) → (d : ℕ) × Mem d (listed o) × (marked marks d ≡ true)
        go None q = absurd (not-nil q)
        go (Some d) q = (d, here refl, hit_marked (suc d) d z (omega arith) q t)

    way_hits : {y z : ℕ} → Way (Reads (depends m)) y z → z ≡ s → (d : ℕ) × Mem d (listed (given assigns m.stmts y)) × (marked marks d ≡ true)
    way_hits {y} {z} (edge e) p = first_edge y z e (inl p)
    way_hits {y} (more {y = u} e w) p = first_edge y u e (inr (way_hits w p))

    -- s is on a loop: its expression is marked
    pub loop_marked : Way (Reads (depends m)) s s → (d : ℕ) × Mem d (listed (given assigns m.stmts s)) × (marked marks d ≡ true)
    loop_marked w = way_hits w refl

  -- and the other way
  pub marked_loop : (marks : List ℕ) → Backed m s marks → (d : ℕ) → Mem d (listed (given assigns m.stmts s)) → marked marks d ≡ true → Way (Reads (depends m)) s s
  marked_loop marks b d k h = way_by s d k (b.leads d h)
