-- A value depends only on what its expression needs; consistent values settle the model. Assumes nothing.
use Prim.Native.Nat.{ℕ, zero, suc, ◌+◌, ◌*◌, ◌<◌}
use mathlib.Core.Path.{◌≡◌, refl, sym, ◌∙◌, ap, ap₂, subst}
use mathlib.Core.Logic.{◌⊎◌, inl, inr, ◌≢◌}
use mathlib.Core.Bool.{true, ◌&&◌, ◌||◌}
use mathlib.Core.Bool.{not as flip}
use mathlib.Core.List.Memᴰ.{cases_cons}
use mathlib.Core.List.Memᴰ.{eq_of_singleton as singleton}
use mathlib.Core.List.Memᴰ.{head as here}
use mathlib.Core.List.Memᴰ.{not-nil}
use mathlib.Core.List.Memᴰ.{tail as there}
use mathlib.Core.List.{List, [], ◌∷◌, ◌++◌, append-nil, Memᴰ as Mem}
use Rattle.std.specs.Prelude.{Option, None, Some}
use native.Mathlib.Omega.{arith}
use native.Mathlib.Nat.{not-suc-le-zero, zero-add}
use lib.Dec.{eqb, leb, ltb}
use lib.ListN.{length, get_or, set, length-append, length-map, get_or-append}
use lib.Seq.{get_or-set_same, get_or-set_other, append_snoc, get_or-append-add}
use borrow.Author.Tests.{ltb-true}
use Rattle.bits.specs.Bits.{pick, Bits, binary, number, lowest, window, differ, same_bits}
use Rattle.settle.specs.Table.{at, length_tab, get_d_tab}
use Rattle.settle.specs.Tests.{and_left, and_right}
use Rattle.settle.specs.Loop.{LowestOnLoop, DepsUnder}
use Rattle.recorder.specs.Record.{Signal, Expr, Stmt, Model}
use Rattle.recorder.specs.Record.{const, read, concat, not, and, or, xor, mux, eq, mul}
use Rattle.recorder.specs.Evaluate.{Signals, joined_parts, eval_expr, eval_all}
use Rattle.simulation.specs.Wellformed.{wide, in_range, earlier, width_sum, expr_fits}
use Rattle.simulation.specs.Tick.{given, assigns, become, values_in, settle, depends, looped}
use Rattle.simulation.specs.Settled.{IsSettled}
use Rattle.simulation.specs.Sound.{AllFrom, Sound, signal_widths, expr_widths}
use Rattle.recorder.proofs.Makes.{keeps_all, length_all}
use Rattle.simulation.proofs.Settles.{settled_is_settle, settle_settled, looped_says}
use Rattle.simulation.proofs.Bounds.{reads_under}
use Rattle.ordering.specs.Order.{listed, needs_of, needs}
use Rattle.evaluation.specs.Consistent.{assigned, stored, expr_at, computed, Right, Consistent, ConsistentSettles, operands, signals_of}

-- WHAT A VALUE DEPENDS ON

module _ (v w : Signals) (a b : List Bits) where
  abbrev Agree : List ℕ → Type 0
  Agree l = (y : ℕ) → Mem y l → get_or a y [] ≡ get_or b y []

  joined_same : (ps : List ℕ) → Agree ps → joined_parts a ps ≡ joined_parts b ps
  joined_same [] g = refl
  joined_same (p ∷ ps) g = ap₂ ◌++◌ (joined_same ps (λ y k. g y (there k))) (g p (here refl))

  two_same : {T : Type 0} (f : Bits → Bits → T) (i j : ℕ) → Agree (i ∷ j ∷ []) → f (get_or a i []) (get_or a j []) ≡ f (get_or b i []) (get_or b j [])
  two_same f i j g = ap₂ f (g i (here refl)) (g j (there (here refl)))

  pub same_value : (x : Expr) → Agree (operands x) → ((s : ℕ) → Mem s (signals_of x) → v s ≡ w s) → eval_expr v a x ≡ eval_expr w b x
  same_value (const n x) g q = refl
  same_value (read n s l) g q = ap (λ (x : Bits). window x l n) (q s (here refl))
  same_value (concat n ps) g q = joined_same ps g
  same_value (not i) g q = ap (λ (x : Bits). flip (lowest x) ∷ []) (g i (here refl))
  same_value (and i j) g q = two_same (λ x y. (lowest x && lowest y) ∷ []) i j g
  same_value (or i j) g q = two_same (λ x y. (lowest x || lowest y) ∷ []) i j g
  same_value (xor i j) g q = two_same (λ x y. differ (lowest x) (lowest y) ∷ []) i j g
  same_value (mux n s i j) g q =
      ap₂ (λ (x y : Bits). pick (lowest x) y (get_or a j [])) (g s (here refl)) (g i (there (here refl)))
      ∙ ap (λ (z : Bits). pick (lowest (get_or b s [])) (get_or b i []) z) (g j (there (there (here refl))))
  same_value (eq i j) g q = two_same (λ x y. same_bits x y ∷ []) i j g
  same_value (mul i j) g q = two_same (λ x y. binary 36 (number x * number y)) i j g

-- what an assigned signal has depends on its expression's value
pub become_same : (a b : List Bits) (o : Option ℕ) (old : Bits) → ((e : ℕ) → Mem e (listed o) → get_or a e [] ≡ get_or b e []) → become a o old ≡ become b o old
become_same a b None old g = refl
become_same a b (Some e) old g = g e (here refl)

-- an expression needs its operands
operand_needed : (ts : List Stmt) (x : Expr) (y : ℕ) → Mem y (operands x) → Mem y (needs_of ts x)
operand_needed ts (const w v) y p = p
operand_needed ts (read w s l) y p = absurd (not-nil p)
operand_needed ts (concat w ps) y p = p
operand_needed ts (not a) y p = p
operand_needed ts (and a b) y p = p
operand_needed ts (or a b) y p = p
operand_needed ts (xor a b) y p = p
operand_needed ts (mux w s t f) y p = p
operand_needed ts (eq a b) y p = p
operand_needed ts (mul a b) y p = p

-- and what is assigned to the signal that it reads
driver_needed : (ts : List Stmt) (x : Expr) (s y : ℕ) → Mem s (signals_of x) → Mem y (listed (given assigns ts s)) → Mem y (needs_of ts x)
driver_needed ts (const w v) s y p q = absurd (not-nil p)
driver_needed ts (read w r l) s y p q = subst (λ (t : ℕ). Mem y (listed (given assigns ts t))) (singleton p) q
driver_needed ts (concat w ps) s y p q = absurd (not-nil p)
driver_needed ts (not a) s y p q = absurd (not-nil p)
driver_needed ts (and a b) s y p q = absurd (not-nil p)
driver_needed ts (or a b) s y p q = absurd (not-nil p)
driver_needed ts (xor a b) s y p q = absurd (not-nil p)
driver_needed ts (mux w a b c) s y p q = absurd (not-nil p)
driver_needed ts (eq a b) s y p q = absurd (not-nil p)
driver_needed ts (mul a b) s y p q = absurd (not-nil p)

-- values that agree on what an expression needs give it the same value
pub same_computed : (m : Model) (old a b : List Bits) (e : ℕ) → ((y : ℕ) → Mem y (needs m e) → get_or a y [] ≡ get_or b y []) → computed m old a e ≡ computed m old b e
same_computed m old a b e g =
    same_value (assigned m old a) (assigned m old b) a b x (λ y k. g y (operand_needed m.stmts x y k))
    (λ s k. become_same a b (choice s) (get_or old s []) (λ y q. g y (driver_needed m.stmts x s y k q)))
  where
    x : Expr
    x = expr_at m e

    choice : ℕ → Option ℕ
    choice = given assigns m.stmts

-- a new value of expression k changes nothing for those that do not need it
pub still_right : (m : Model) (old vs : List Bits) (k : ℕ) (v : Bits) (e : ℕ) → e ≢ k → (Mem k (needs m e) → ⊥) → Right m old vs e → Right m old (set vs k v) e
still_right m old vs k v e d n h =
    same_computed m old (set vs k v) vs e (λ y q. get_or-set_other vs k y v [] (λ p. n (subst (λ (j : ℕ). Mem j (needs m e)) p q)))
    ∙ h
    ∙ sym (get_or-set_other vs k e v [] d)

-- and makes it right, if it does not need itself
pub now_right : (m : Model) (old vs : List Bits) (k : ℕ) → k < length vs → (Mem k (needs m k) → ⊥) → Right m old (set vs k (computed m old vs k)) k
now_right m old vs k h n =
    same_computed m old (set vs k v) vs k (λ y q. get_or-set_other vs k y v [] (λ p. n (subst (λ (j : ℕ). Mem j (needs m k)) p q)))
    ∙ sym (get_or-set_same vs k v [] h)
  where
    v : Bits
    v = computed m old vs k

-- OPERANDS COME EARLIER

module _ (widest : ℕ) (sw ew : List ℕ) (n : ℕ) where
  abbrev Under : ℕ → List ℕ → Type 0
  Under k l = (y : ℕ) → Mem y l → y < k

  under_nil : (k : ℕ) → Under k []
  under_nil k y q = absurd (not-nil q)

  under_cons : (k a : ℕ) (l : List ℕ) → a < k → Under k l → Under k (a ∷ l)
  under_cons k a l h g y q = go (cases_cons q)
    where
      go : (y ≡ a) ⊎ Mem y l → y < k
      go (inl p) = omega arith
      go (inr p) = g y p

  wide_under : (a w : ℕ) → wide ew n a w ≡ true → a < n
  wide_under a w h = ltb-true a n (and_left (ltb a n) (eqb (get_or ew a 0) w) h)

  earlier_under : (ps : List ℕ) → earlier n ps ≡ true → Under n ps
  earlier_under [] h = under_nil n
  earlier_under (p ∷ ps) h = under_cons n p ps (ltb-true p n (and_left (ltb p n) (earlier n ps) h)) (earlier_under ps (and_right (ltb p n) (earlier n ps) h))

  two_under : (a b w u : ℕ) → (wide ew n a w && wide ew n b u) ≡ true → Under n (a ∷ b ∷ [])
  two_under a b w u h = under_cons n a (b ∷ []) (wide_under a w (and_left (wide ew n a w) (wide ew n b u) h)) (under_cons n b [] (wide_under b u (and_right (wide ew n a w) (wide ew n b u) h)) (under_nil n))

  pub operands_under : (x : Expr) → expr_fits widest sw ew n x ≡ true → (y : ℕ) → Mem y (operands x) → y < n
  operands_under (const w v) h = under_nil n
  operands_under (read w s l) h = under_nil n
  operands_under (concat w ps) h = earlier_under ps (and_right (in_range widest w) (earlier n ps) (and_left (in_range widest w && earlier n ps) (eqb (width_sum ew ps) w) h))
  operands_under (not a) h = under_cons n a [] (wide_under a 1 h) (under_nil n)
  operands_under (and a b) h = two_under a b 1 1 h
  operands_under (or a b) h = two_under a b 1 1 h
  operands_under (xor a b) h = two_under a b 1 1 h
  operands_under (mux w s t f) h =
      let hf = and_right (in_range widest w && wide ew n s 1 && wide ew n t w) (wide ew n f w) h in
      let h3 = and_left (in_range widest w && wide ew n s 1 && wide ew n t w) (wide ew n f w) h in
      let ht = and_right (in_range widest w && wide ew n s 1) (wide ew n t w) h3 in
      let hs = and_right (in_range widest w) (wide ew n s 1) (and_left (in_range widest w && wide ew n s 1) (wide ew n t w) h3) in
      under_cons n s (t ∷ f ∷ []) (wide_under s 1 hs) (under_cons n t (f ∷ []) (wide_under t w ht) (under_cons n f [] (wide_under f w hf) (under_nil n)))
  operands_under (eq a b) h =
      under_cons n a (b ∷ []) (ltb-true a n (and_left (ltb a n) (wide ew n b (get_or ew a 0)) h)) (under_cons n b [] (wide_under b (get_or ew a 0) (and_right (ltb a n) (wide ew n b (get_or ew a 0)) h)) (under_nil n))
  operands_under (mul a b) h = two_under a b 36 36 h

  pub signals_under : (x : Expr) → expr_fits widest sw ew n x ≡ true → (y : ℕ) → Mem y (signals_of x) → y < length sw
  signals_under (const w v) h = under_nil (length sw)
  signals_under (read w s l) h = under_cons (length sw) s [] (ltb-true s (length sw) (and_right (in_range widest w) (ltb s (length sw)) (and_left (in_range widest w && ltb s (length sw)) (leb (l + w) (get_or sw s 0)) h))) (under_nil (length sw))
  signals_under (concat w ps) h = under_nil (length sw)
  signals_under (not a) h = under_nil (length sw)
  signals_under (and a b) h = under_nil (length sw)
  signals_under (or a b) h = under_nil (length sw)
  signals_under (xor a b) h = under_nil (length sw)
  signals_under (mux w s t f) h = under_nil (length sw)
  signals_under (eq a b) h = under_nil (length sw)
  signals_under (mul a b) h = under_nil (length sw)

-- CONSISTENT VALUES, in the order of the records

module _ (widest : ℕ) (sw ew : List ℕ) (v w : Signals) (agree : (s : ℕ) → s < length sw → v s ≡ w s) (vs : List Bits) where
  in_order : (es : List Expr) (d r : List Bits) → vs ≡ d ++ r → length r ≡ length es → AllFrom (expr_fits widest sw ew) (length d) es → ((i : ℕ) → i < length es → eval_expr w vs (get_or es i (const 0 0)) ≡ get_or r i []) → eval_all v d es ≡ vs
  unfolding eval_all
  in_order [] d [] p l h g = sym (p ∙ append-nil d)
  in_order [] d (x ∷ r) p l h g = absurd (omega arith)
  in_order (e ∷ es) d [] p l h g = absurd (omega arith)
  in_order (e ∷ es) d (x ∷ r) p l h g =
      in_order es (d ++ (eval_expr v d e ∷ [])) r (p ∙ sym (append_snoc d x r) ∙ ap (λ (y : Bits). d ++ (y ∷ []) ++ r) (sym now)) (omega arith)
      (subst (λ (n : ℕ). AllFrom (expr_fits widest sw ew) n es) (sym longer) h.1)
      (λ i q. g (suc i) (omega arith))
    where
      longer : length (d ++ (eval_expr v d e ∷ [])) ≡ suc (length d)
      longer = length-append d (eval_expr v d e ∷ []) ∙ omega arith

      early : (y : ℕ) → Mem y (operands e) → get_or d y [] ≡ get_or vs y []
      early y q = sym (ap (λ (l : List Bits). get_or l y []) p ∙ get_or-append d (x ∷ r) [] y (operands_under widest sw ew (length d) e h.0 y q))

      now : eval_expr v d e ≡ x
      now = same_value v w d vs e early (λ s q. agree s (signals_under widest sw ew (length d) e h.0 s q)) ∙ g 0 (omega arith)

pub consistent_settles : ConsistentSettles
consistent_settles widest m old vs h lo c = record {
  values = are;
  settled = holds;
  settling = λ q. sym (settled_is_settle m old under (subst (LowestOnLoop n (depends m)) q (looped_says m old under)) lo t (length_tab σ 0 n) holds);
}
  where
    n : ℕ
    n = length m.signals

    σ : Signals
    σ = assigned m old vs

    t : List Bits
    t = stored m old vs

    under : DepsUnder (length m.signals) (depends m)
    under = reads_under widest m h

    stored_at : (s : ℕ) → s < length m.signals → at [] (stored m old vs) s ≡ assigned m old vs s
    stored_at s q = get_d_tab (assigned m old vs) [] 0 (length m.signals) s q ∙ ap (assigned m old vs) (zero-add s)

    are : values_in m (stored m old vs) ≡ vs
    are = in_order widest (signal_widths m) (expr_widths m) (at [] (stored m old vs)) (assigned m old vs) (λ s q. stored_at s (omega (arith, length-map m.signals (λ (x : Signal). x.width)))) vs m.exprs [] vs refl c.each h.exprs_fit c.right

    holds : IsSettled m old (stored m old vs)
    holds s q = ap (λ (l : List Bits). become l (given assigns m.stmts s) (get_or old s [])) are ∙ sym (stored_at s q)

-- THE VALUES OF A SETTLED MODEL

module _ (widest : ℕ) (sw ew : List ℕ) (v w : Signals) (agree : (s : ℕ) → s < length sw → v s ≡ w s) where
  -- each means what its expression says over all of them
  each_means : (es : List Expr) (d : List Bits) → AllFrom (expr_fits widest sw ew) (length d) es → (i : ℕ) → i < length es → eval_expr w (eval_all v d es) (get_or es i (const 0 0)) ≡ get_or (eval_all v d es) (length d + i) []
  unfolding eval_all
  each_means [] d h i q = absurd (not-suc-le-zero q)
  each_means (e ∷ es) d h zero q = sym (same_value v w d all e early (λ s k. agree s (signals_under widest sw ew (length d) e h.0 s k))) ∙ sym now
    where
      all : List Bits
      all = eval_all v (d ++ (eval_expr v d e ∷ [])) es

      long : length (d ++ (eval_expr v d e ∷ [])) ≡ length d + 1
      long = length-append d (eval_expr v d e ∷ [])

      kept : (y : ℕ) → y < length d + 1 → get_or (eval_all v (d ++ (eval_expr v d e ∷ [])) es) y [] ≡ get_or (d ++ (eval_expr v d e ∷ [])) y []
      kept y k = (keeps_all v es (d ++ (eval_expr v d e ∷ [])) y (get_or (d ++ (eval_expr v d e ∷ [])) y []) (record { there = omega (arith, long); value = refl })).value

      early : (y : ℕ) → Mem y (operands e) → get_or d y [] ≡ get_or (eval_all v (d ++ (eval_expr v d e ∷ [])) es) y []
      early y k =
          let u = operands_under widest sw ew (length d) e h.0 y k in
          sym (kept y (omega (arith, u)) ∙ get_or-append d (eval_expr v d e ∷ []) [] y u)

      now : get_or (eval_all v (d ++ (eval_expr v d e ∷ [])) es) (length d + 0) [] ≡ eval_expr v d e
      now = kept (length d + 0) (omega arith) ∙ get_or-append-add d (eval_expr v d e ∷ []) 0 []
  each_means (e ∷ es) d h (suc i) q =
      each_means es (d ++ (eval_expr v d e ∷ [])) (subst (λ (n : ℕ). AllFrom (expr_fits widest sw ew) n es) (sym longer) h.1) i (omega arith)
      ∙ ap (λ (n : ℕ). get_or (eval_all v (d ++ (eval_expr v d e ∷ [])) es) n []) (omega (arith, longer))
    where
      longer : length (d ++ (eval_expr v d e ∷ [])) ≡ suc (length d)
      longer = length-append d (eval_expr v d e ∷ []) ∙ omega arith

-- they agree with one another
pub settled_consistent : (widest : ℕ) (m : Model) (old : List Bits) → Sound widest m → length old ≡ length m.signals → looped m ≡ None → Consistent m old (values_in m (settle m old))
settled_consistent widest m old h lo q = record {
  each = length_all (at [] (settle m old)) m.exprs [] ∙ zero-add (length m.exprs);
  right = λ e k. each_means widest (signal_widths m) (expr_widths m) (at [] (settle m old)) (assigned m old (values_in m (settle m old))) agrees m.exprs [] h.exprs_fit e k ∙ ap (λ (n : ℕ). get_or (values_in m (settle m old)) n []) (zero-add e);
}
  where
    under : DepsUnder (length m.signals) (depends m)
    under = reads_under widest m h

    agrees : (s : ℕ) → s < length (signal_widths m) → at [] (settle m old) s ≡ assigned m old (values_in m (settle m old)) s
    agrees s k = sym (settle_settled m old under (subst (LowestOnLoop (length m.signals) (depends m)) q (looped_says m old under)) s (omega (arith, length-map m.signals (λ (x : Signal). x.width))))
