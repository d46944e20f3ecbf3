-- A model has no loop among its signals exactly if from no expression one can go on for ever to what it needs.
use Prim.Native.Nat.{ℕ, zero, suc, ◌+◌, ◌≤◌, ◌<◌}
use mathlib.Core.Path.{◌≡◌, refl, sym, ◌∙◌, ap, subst}
use mathlib.Core.Logic.{◌⊎◌, inl, inr}
use mathlib.Core.Bool.{Bool, true, ◌&&◌}
use mathlib.Core.List.Memᴰ.{append_cases}
use mathlib.Core.List.Memᴰ.{append_left as mem-left}
use mathlib.Core.List.Memᴰ.{append_right as mem-right}
use mathlib.Core.List.Memᴰ.{cases_cons}
use mathlib.Core.List.Memᴰ.{eq_of_singleton as singleton}
use mathlib.Core.List.Memᴰ.{head as here}
use mathlib.Core.List.Memᴰ.{not-nil}
use mathlib.Core.List.Memᴰ.{tail as there}
use mathlib.Core.List.{List, [], ◌∷◌, ◌++◌, Memᴰ as Mem}
use Rattle.std.specs.Prelude.{Option, None, Some}
use native.Mathlib.Omega.{arith}
use native.Mathlib.Nat.{not-suc-le-zero}
use native.Mathlib.Decide.{dec_lt, ℕ_discrete}
use lib.Dec.{eqb, ltb}
use lib.ListN.{length, get_or, length-append, get_or-eq_default}
use borrow.Author.Tests.{ltb-true, eq-eqb}
use Rattle.recorder.specs.Record.{Expr, Model}
use Rattle.recorder.specs.Record.{const, read, concat, not, and, or, xor, mux, eq, mul}
use Rattle.settle.specs.Ground.{Grounded, ground, no_loop→grounded, grounded→no_loop, below, mem_below}
use Rattle.settle.specs.Loop.{Reads, Under, NoLoops, LowestOnLoop}
use Rattle.settle.proofs.Loop.{lowest_on_loop_lem, lowest_on_loop_only}
use Rattle.settle.specs.Tests.{and_left, and_right}
use Rattle.simulation.specs.Wellformed.{wide, earlier, width_sum, in_range, expr_fits}
use Rattle.simulation.specs.Tick.{given, assigns, joined_reads, reads_expr, reads_all, reads_by, depends, looped}
use Rattle.simulation.specs.Sound.{AllFrom, Sound, signal_widths, expr_widths}
use Rattle.simulation.proofs.Settles.{get_d_last, length_reads}
use Rattle.simulation.proofs.Bounds.{reads_there, reads_under}
use Rattle.ordering.specs.Order.{listed, needs_of, needs, Needs}
use Rattle.ordering.specs.Marks.{reads_it}

-- OPERANDS COME EARLIER

-- the operands of an expression, whatever reads of signals need
abbrev pub operands : Expr → List ℕ
operands (const w v) = []
operands (read w s l) = []
operands (concat w ps) = ps
operands (not a) = a ∷ []
operands (and a b) = a ∷ b ∷ []
operands (or a b) = a ∷ b ∷ []
operands (xor a b) = a ∷ b ∷ []
operands (mux w s t f) = s ∷ t ∷ f ∷ []
operands (eq a b) = a ∷ b ∷ []
operands (mul a b) = a ∷ b ∷ []

abbrev AllBelow : ℕ → List ℕ → Type 0
AllBelow n l = (d : ℕ) → Mem d l → d < n

below_none : (n : ℕ) → AllBelow n []
below_none n d k = absurd (not-nil k)

below_more : (n a : ℕ) (l : List ℕ) → a < n → AllBelow n l → AllBelow n (a ∷ l)
below_more n a l h g d k = go (cases_cons k)
  where
    go : (d ≡ a) ⊎ Mem d l → d < n
    go (inl e) = omega (arith, h)
    go (inr q) = g d q

earlier_below : (n : ℕ) (ps : List ℕ) → earlier n ps ≡ true → AllBelow n ps
earlier_below n [] h = below_none n
earlier_below n (p ∷ ps) h = below_more n p ps (ltb-true p n (and_left (ltb p n) (earlier n ps) h)) (earlier_below n ps (and_right (ltb p n) (earlier n ps) h))

module _ (widest : ℕ) (sw ew : List ℕ) (n : ℕ) where
  wide_below : (a w : ℕ) → wide ew n a w ≡ true → a < n
  wide_below a w h = ltb-true a n (and_left (ltb a n) (eqb (get_or ew a 0) w) h)

  below_two : (a b w v : ℕ) → (wide ew n a w && wide ew n b v) ≡ true → AllBelow n (a ∷ b ∷ [])
  below_two a b w v h =
      below_more n a (b ∷ []) (wide_below a w (and_left (wide ew n a w) (wide ew n b v) h)) (below_more n b [] (wide_below b v (and_right (wide ew n a w) (wide ew n b v) h)) (below_none n))

  pub operands_below : (x : Expr) → expr_fits widest sw ew n x ≡ true → AllBelow n (operands x)
  operands_below (const w v) h = below_none n
  operands_below (read w s l) h = below_none n
  operands_below (concat w ps) h = earlier_below n ps (and_right (in_range widest w) (earlier n ps) (and_left (in_range widest w && earlier n ps) (eqb (width_sum ew ps) w) h))
  operands_below (not a) h = below_more n a [] (wide_below a 1 h) (below_none n)
  operands_below (and a b) h = below_two a b 1 1 h
  operands_below (or a b) h = below_two a b 1 1 h
  operands_below (xor a b) h = below_two a b 1 1 h
  operands_below (mux w s t f) h =
      let h₃ = and_left (in_range widest w && wide ew n s 1 && wide ew n t w) (wide ew n f w) h in
      let h₂ = and_left (in_range widest w && wide ew n s 1) (wide ew n t w) h₃ in
      below_more n s (t ∷ f ∷ []) (wide_below s 1 (and_right (in_range widest w) (wide ew n s 1) h₂))
      (below_more n t (f ∷ []) (wide_below t w (and_right (in_range widest w && wide ew n s 1) (wide ew n t w) h₃))
      (below_more n f [] (wide_below f w (and_right (in_range widest w && wide ew n s 1 && wide ew n t w) (wide ew n f w) h)) (below_none n)))
  operands_below (eq a b) h =
      below_more n a (b ∷ []) (ltb-true a n (and_left (ltb a n) (wide ew n b (get_or ew a 0)) h)) (below_more n b [] (wide_below b (get_or ew a 0) (and_right (ltb a n) (wide ew n b (get_or ew a 0)) h)) (below_none n))
  operands_below (mul a b) h = below_two a b 36 36 h

-- WHAT IS READ, BY THE WHOLE LIST

-- a test that holds from n on holds of number i
pub all_at : {A : Type 0} (p : ℕ → A → Bool) (n : ℕ) (l : List A) (d : A) → AllFrom p n l → (i : ℕ) → i < length l → p (n + i) (get_or l i d) ≡ true
all_at p n [] d h i k = absurd (not-suc-le-zero k)
all_at p n (a ∷ l) d h zero k = subst (λ (j : ℕ). p j a ≡ true) (omega arith) h.0
all_at p n (a ∷ l) d h (suc i) k = subst (λ (j : ℕ). p j (get_or l i d) ≡ true) (omega arith) (all_at p (suc n) l d h.1 i (omega arith))

-- two tables agree below n
abbrev AgreeBelow : ℕ → List (List ℕ) → List (List ℕ) → Type 0
AgreeBelow n a b = (i : ℕ) → i < n → get_or a i [] ≡ get_or b i []

module _ (n : ℕ) (a b : List (List ℕ)) (same : AgreeBelow n a b) where
  joined_agree : (ps : List ℕ) → AllBelow n ps → joined_reads a ps ≡ joined_reads b ps
  joined_agree [] h = refl
  joined_agree (p ∷ ps) h = ap (λ (l : List ℕ). l ++ get_or a p []) (joined_agree ps (λ d k. h d (there k))) ∙ ap (λ (l : List ℕ). joined_reads b ps ++ l) (same p (h p (here refl)))

  two_agree : (i j : ℕ) → AllBelow n (i ∷ j ∷ []) → get_or a i [] ++ get_or a j [] ≡ get_or b i [] ++ get_or b j []
  two_agree i j h = ap (λ (l : List ℕ). l ++ get_or a j []) (same i (h i (here refl))) ∙ ap (λ (l : List ℕ). get_or b i [] ++ l) (same j (h j (there (here refl))))

  reads_agree : (x : Expr) → AllBelow n (operands x) → reads_expr a x ≡ reads_expr b x
  reads_agree (const w v) h = refl
  reads_agree (read w s l) h = refl
  reads_agree (concat w ps) h = joined_agree ps h
  reads_agree (not i) h = same i (h i (here refl))
  reads_agree (and i j) h = two_agree i j h
  reads_agree (or i j) h = two_agree i j h
  reads_agree (xor i j) h = two_agree i j h
  reads_agree (mux w s i j) h =
      ap (λ (l : List ℕ). l ++ get_or a i [] ++ get_or a j []) (same s (h s (here refl)))
      ∙ ap (λ (l : List ℕ). get_or b s [] ++ l ++ get_or a j []) (same i (h i (there (here refl))))
      ∙ ap (λ (l : List ℕ). get_or b s [] ++ get_or b i [] ++ l) (same j (h j (there (there (here refl)))))
  reads_agree (eq i j) h = two_agree i j h
  reads_agree (mul i j) h = two_agree i j h

last_before : (d : List (List ℕ)) (x : List ℕ) (i : ℕ) → i < length d → get_or (d ++ (x ∷ [])) i [] ≡ get_or d i []
last_before d x i h = (get_d_last d x [] i).0 h

last_here : (d : List (List ℕ)) (x : List ℕ) (i : ℕ) → i ≡ length d → get_or (d ++ (x ∷ [])) i [] ≡ x
last_here d x i h = (get_d_last d x [] i).1 h

reads_keep : (es : List Expr) (d : List (List ℕ)) (i : ℕ) → i < length d → get_or (reads_all d es) i [] ≡ get_or d i []
unfolding reads_all
reads_keep [] d i h = refl
reads_keep (x ∷ xs) d i h = reads_keep xs (d ++ (reads_expr d x ∷ [])) i (omega (arith, length-append d (reads_expr d x ∷ []))) ∙ last_before d (reads_expr d x) i h

module _ (widest : ℕ) (sw ew : List ℕ) where
  reads_from : (es : List Expr) (d : List (List ℕ)) → AllFrom (expr_fits widest sw ew) (length d) es → (i : ℕ) → i < length es → get_or (reads_all d es) (length d + i) [] ≡ reads_expr (reads_all d es) (get_or es i (const 0 0))
  unfolding reads_all
  reads_from [] d h i k = absurd (not-suc-le-zero k)
  reads_from (x ∷ xs) d h zero k =
      let d' : List (List ℕ) = d ++ (reads_expr d x ∷ []) in
      let long : length d' ≡ length d + 1 = length-append d (reads_expr d x ∷ []) in
      let place : length d + 0 ≡ length d = omega arith in
      ap (λ (j : ℕ). get_or (reads_all d' xs) j []) place
      ∙ reads_keep xs d' (length d) (omega (arith, long))
      ∙ last_here d (reads_expr d x) (length d) refl
      ∙ reads_agree (length d) d (reads_all d' xs) (λ j q. sym (reads_keep xs d' j (omega (arith, long)) ∙ last_before d (reads_expr d x) j q)) x (operands_below widest sw ew (length d) x h.0)
  reads_from (x ∷ xs) d h (suc i) k =
      let d' : List (List ℕ) = d ++ (reads_expr d x ∷ []) in
      let long : length d' ≡ suc (length d) = length-append d (reads_expr d x ∷ []) ∙ omega arith in
      let place : length d + suc i ≡ length d' + i = omega (arith, long) in
      ap (λ (j : ℕ). get_or (reads_all d' xs) j []) place ∙ reads_from xs d' (subst (λ (j : ℕ). AllFrom (expr_fits widest sw ew) j xs) (sym long) h.1) i (omega arith)

-- THE MODEL

module _ (widest : ℕ) (m : Model) (sound : Sound widest m) where
  pub reads_at : (e : ℕ) → e < length m.exprs → get_or (reads_all [] m.exprs) e [] ≡ reads_expr (reads_all [] m.exprs) (get_or m.exprs e (const 0 0))
  reads_at e h = ap (λ (j : ℕ). get_or (reads_all [] m.exprs) j []) (omega arith) ∙ reads_from widest (signal_widths m) (expr_widths m) m.exprs [] sound.exprs_fit e h

  pub needs_below : (e : ℕ) → e < length m.exprs → (d : ℕ) → Mem d (operands (get_or m.exprs e (const 0 0))) → d < e
  needs_below e h d k =
      let fit : expr_fits widest (signal_widths m) (expr_widths m) e (get_or m.exprs e (const 0 0)) ≡ true
      = subst (λ (j : ℕ). expr_fits widest (signal_widths m) (expr_widths m) j (get_or m.exprs e (const 0 0)) ≡ true) (omega arith) (all_at (expr_fits widest (signal_widths m) (expr_widths m)) 0 m.exprs (const 0 0) sound.exprs_fit e h) in
      operands_below widest (signal_widths m) (expr_widths m) e (get_or m.exprs e (const 0 0)) fit d k

-- FROM EXPRESSIONS TO SIGNALS

module _ (rs : List (List ℕ)) (y : ℕ) where
  -- an operand through which signal y is read
  abbrev Through : List ℕ → Type 0
  Through l = (a : ℕ) × Mem a l × Mem y (get_or rs a [])

  through_later : (p : ℕ) (ps : List ℕ) → Through ps → Through (p ∷ ps)
  through_later p ps t = (t.0, there t.1, t.2)

  through_joined : (ps : List ℕ) → Mem y (joined_reads rs ps) → Through ps
  through_joined [] k = absurd (not-nil k)
  through_joined (p ∷ ps) k = go (append_cases (joined_reads rs ps) k) (through_joined ps)
    where
      go : Mem y (joined_reads rs ps) ⊎ Mem y (get_or rs p []) → (Mem y (joined_reads rs ps) → Through ps) → Through (p ∷ ps)
      go (inl q) f = through_later p ps (f q)
      go (inr q) f = (p, here refl, q)

  through_two : (a b : ℕ) → Mem y (get_or rs a [] ++ get_or rs b []) → Through (a ∷ b ∷ [])
  through_two a b k = go (append_cases (get_or rs a []) k)
    where
      go : Mem y (get_or rs a []) ⊎ Mem y (get_or rs b []) → Through (a ∷ b ∷ [])
      go (inl q) = (a, here refl, q)
      go (inr q) = (b, there (here refl), q)

  through_three : (s a b : ℕ) → Mem y (get_or rs s [] ++ get_or rs a [] ++ get_or rs b []) → Through (s ∷ a ∷ b ∷ [])
  through_three s a b k = go (append_cases (get_or rs s [] ++ get_or rs a []) k)
    where
      go : Mem y (get_or rs s [] ++ get_or rs a []) ⊎ Mem y (get_or rs b []) → Through (s ∷ a ∷ b ∷ [])
      go (inr q) = (b, there (there (here refl)), q)
      go (inl q) = first (append_cases (get_or rs s []) q)
        where
          first : Mem y (get_or rs s []) ⊎ Mem y (get_or rs a []) → Through (s ∷ a ∷ b ∷ [])
          first (inl z) = (s, here refl, z)
          first (inr z) = (a, there (here refl), z)

  joined_has : (ps : List ℕ) (a : ℕ) → Mem a ps → Mem y (get_or rs a []) → Mem y (joined_reads rs ps)
  joined_has [] a k q = absurd (not-nil k)
  joined_has (p ∷ ps) a k q = go (cases_cons k) (λ (z : Mem a ps). joined_has ps a z q)
    where
      go : (a ≡ p) ⊎ Mem a ps → (Mem a ps → Mem y (joined_reads rs ps)) → Mem y (joined_reads rs ps ++ get_or rs p [])
      go (inl e) f = mem-right (joined_reads rs ps) (subst (λ (b : ℕ). Mem y (get_or rs b [])) e q)
      go (inr z) f = mem-left (get_or rs p []) (f z)

  two_has : (i j a : ℕ) → Mem a (i ∷ j ∷ []) → Mem y (get_or rs a []) → Mem y (get_or rs i [] ++ get_or rs j [])
  two_has i j a k q = go (cases_cons k)
    where
      go : (a ≡ i) ⊎ Mem a (j ∷ []) → Mem y (get_or rs i [] ++ get_or rs j [])
      go (inl e) = mem-left (get_or rs j []) (subst (λ (b : ℕ). Mem y (get_or rs b [])) e q)
      go (inr z) = mem-right (get_or rs i []) (subst (λ (b : ℕ). Mem y (get_or rs b [])) (singleton z) q)

  three_has : (s i j a : ℕ) → Mem a (s ∷ i ∷ j ∷ []) → Mem y (get_or rs a []) → Mem y (get_or rs s [] ++ get_or rs i [] ++ get_or rs j [])
  three_has s i j a k q = go (cases_cons k)
    where
      go : (a ≡ s) ⊎ Mem a (i ∷ j ∷ []) → Mem y (get_or rs s [] ++ get_or rs i [] ++ get_or rs j [])
      go (inl e) = mem-left (get_or rs j []) (mem-left (get_or rs i []) (subst (λ (b : ℕ). Mem y (get_or rs b [])) e q))
      go (inr z) = next (cases_cons z)
        where
          next : (a ≡ i) ⊎ Mem a (j ∷ []) → Mem y (get_or rs s [] ++ get_or rs i [] ++ get_or rs j [])
          next (inl e) = mem-left (get_or rs j []) (mem-right (get_or rs s []) (subst (λ (b : ℕ). Mem y (get_or rs b [])) e q))
          next (inr w) = mem-right (get_or rs s [] ++ get_or rs i []) (subst (λ (b : ℕ). Mem y (get_or rs b [])) (singleton w) q)

  pub operand_reads : (x : Expr) (a : ℕ) → Mem a (operands x) → Mem y (get_or rs a []) → Mem y (reads_expr rs x)
  operand_reads (const w v) a k q = absurd (not-nil k)
  operand_reads (read w s l) a k q = absurd (not-nil k)
  operand_reads (concat w ps) a k q = joined_has ps a k q
  operand_reads (not i) a k q = subst (λ (b : ℕ). Mem y (get_or rs b [])) (singleton k) q
  operand_reads (and i j) a k q = two_has i j a k q
  operand_reads (or i j) a k q = two_has i j a k q
  operand_reads (xor i j) a k q = two_has i j a k q
  operand_reads (mux w s i j) a k q = three_has s i j a k q
  operand_reads (eq i j) a k q = two_has i j a k q
  operand_reads (mul i j) a k q = two_has i j a k q

  -- a signal is read by the expression itself, or through an operand
  pub through_kind : (x : Expr) → Mem y (reads_expr rs x) → (reads_it y x ≡ true) ⊎ ((a : ℕ) × Mem a (operands x) × Mem y (get_or rs a []))
  through_kind (const w v) k = absurd (not-nil k)
  through_kind (read w s l) k = inl (eq-eqb s y (sym (singleton k)))
  through_kind (concat w ps) k = inr (through_joined ps k)
  through_kind (not i) k = inr (i, here refl, k)
  through_kind (and i j) k = inr (through_two i j k)
  through_kind (or i j) k = inr (through_two i j k)
  through_kind (xor i j) k = inr (through_two i j k)
  through_kind (mux w s i j) k = inr (through_three s i j k)
  through_kind (eq i j) k = inr (through_two i j k)
  through_kind (mul i j) k = inr (through_two i j k)

  -- what goes for the signals of what x needs goes for those that x reads
  pub by_needs : (m : Model) (G : ℕ → Type 0) (x : Expr) → ((d : ℕ) → Mem d (needs_of m.stmts x) → Mem y (get_or rs d []) → G y) → ((s : ℕ) → y ≡ s → ((d : ℕ) → Mem d (listed (given assigns m.stmts s)) → Mem d (needs_of m.stmts x)) → G y) → Mem y (reads_expr rs x) → G y
  by_needs m G (const w v) f g k = absurd (not-nil k)
  by_needs m G (read w s l) f g k = g s (singleton k) (λ d q. q)
  by_needs m G (concat w ps) f g k = let t = through_joined ps k in f t.0 t.1 t.2
  by_needs m G (not i) f g k = f i (here refl) k
  by_needs m G (and i j) f g k = let t = through_two i j k in f t.0 t.1 t.2
  by_needs m G (or i j) f g k = let t = through_two i j k in f t.0 t.1 t.2
  by_needs m G (xor i j) f g k = let t = through_two i j k in f t.0 t.1 t.2
  by_needs m G (mux w s i j) f g k = let t = through_three s i j k in f t.0 t.1 t.2
  by_needs m G (eq i j) f g k = let t = through_two i j k in f t.0 t.1 t.2
  by_needs m G (mul i j) f g k = let t = through_two i j k in f t.0 t.1 t.2

-- what is needed is an operand, or drives a signal that is read
needs_cases : (m : Model) (rs : List (List ℕ)) (x : Expr) (d : ℕ) → Mem d (needs_of m.stmts x) → Mem d (operands x) ⊎ ((s : ℕ) × Mem s (reads_expr rs x) × Mem d (listed (given assigns m.stmts s)))
needs_cases m rs (const w v) d k = inl k
needs_cases m rs (read w s l) d k = inr (s, here refl, k)
needs_cases m rs (concat w ps) d k = inl k
needs_cases m rs (not i) d k = inl k
needs_cases m rs (and i j) d k = inl k
needs_cases m rs (or i j) d k = inl k
needs_cases m rs (xor i j) d k = inl k
needs_cases m rs (mux w s i j) d k = inl k
needs_cases m rs (eq i j) d k = inl k
needs_cases m rs (mul i j) d k = inl k

past_none : (m : Model) (e : ℕ) → length m.exprs ≤ e → needs m e ≡ []
past_none m e h = ap (needs_of m.stmts) (get_or-eq_default m.exprs (const 0 0) h)

module _ (widest : ℕ) (m : Model) (sound : Sound widest m) where
  abbrev rs : List (List ℕ)
  rs = reads_all [] m.exprs

  abbrev Sig : ℕ → Type 0
  Sig s = Grounded (Reads (depends m)) s

  by_driver : (o : Option ℕ) → ((d : ℕ) → Mem d (listed o) → (z : ℕ) → Mem z (get_or rs d []) → Sig z) → (z : ℕ) → Mem z (reads_by rs o) → Sig z
  by_driver None f z q = absurd (not-nil q)
  by_driver (Some d) f z q = f d (here refl) z q

  reads_step : (e : ℕ) → ((d : ℕ) → Mem d (needs m e) → (z : ℕ) → Mem z (get_or rs d []) → Sig z) → (y : ℕ) → Mem y (get_or rs e []) → Sig y
  reads_step e ih y k = go (dec_lt e (length m.exprs))
    where
      go : Dec (e < length m.exprs) → Sig y
      go (yes h) =
          by_needs rs y m Sig (get_or m.exprs e (const 0 0)) (λ d q z. ih d q y z)
          (λ s p f. ground (by_driver (given assigns m.stmts y) (λ d q z. ih d (f d (subst (λ (t : ℕ). Mem d (listed (given assigns m.stmts t))) p q)) z)))
          (subst (λ (l : List ℕ). Mem y l) (reads_at widest m sound e h) k)
      go (no h) = absurd (not-nil (subst (λ (l : List ℕ). Mem y l) (get_or-eq_default rs [] (omega (arith, length_reads m.exprs []))) k))

  grounded_reads : {e : ℕ} → Grounded (Needs m) e → (y : ℕ) → Mem y (get_or rs e []) → Sig y
  grounded_reads {e} (ground h) y k = reads_step e (λ d q. grounded_reads (h d q)) y k

  -- all expressions can be reached at last: no signal is on a loop
  pub grounded→unlooped : ((e : ℕ) → e < length m.exprs → Grounded (Needs m) e) → looped m ≡ None
  unfolding looped
  grounded→unlooped all = lowest_on_loop_only (depends m) (length m.signals) (reads_under widest m sound) None (grounded→no_loop (Reads (depends m)) (Under (length m.signals)) (λ s p. ground (by_driver (given assigns m.stmts s) (λ d q. grounded_reads (any d)))))
    where
      any : (e : ℕ) → Grounded (Needs m) e
      any e = go (dec_lt e (length m.exprs))
        where
          go : Dec (e < length m.exprs) → Grounded (Needs m) e
          go (yes h) = all e h
          go (no h) = ground (λ d q. absurd (not-nil (subst (λ (l : List ℕ). Mem d l) (past_none m e (omega arith)) q)))

  abbrev Driven : ℕ → Type 0
  Driven s = (d : ℕ) → Mem d (listed (given assigns m.stmts s)) → Grounded (Needs m) d

  expr_grounded : (k e : ℕ) → e < k → ((y : ℕ) → Mem y (get_or rs e []) → Driven y) → Grounded (Needs m) e
  expr_grounded zero e h f = absurd (not-suc-le-zero h)
  expr_grounded (suc k) e h f = go (dec_lt e (length m.exprs)) (λ d p g. expr_grounded k d (omega arith) g)
    where
      go : Dec (e < length m.exprs) → ((d : ℕ) → d < e → ((y : ℕ) → Mem y (get_or rs d []) → Driven y) → Grounded (Needs m) d) → Grounded (Needs m) e
      go (no n) ih = ground (λ d q. absurd (not-nil (subst (λ (l : List ℕ). Mem d l) (past_none m e (omega arith)) q)))
      go (yes p) ih = ground (λ d q. each d (needs_cases m rs (get_or m.exprs e (const 0 0)) d q))
        where
          back : (y : ℕ) → Mem y (reads_expr rs (get_or m.exprs e (const 0 0))) → Mem y (get_or rs e [])
          back y z = subst (λ (l : List ℕ). Mem y l) (sym (reads_at widest m sound e p)) z

          each : (d : ℕ) → Mem d (operands (get_or m.exprs e (const 0 0))) ⊎ ((s : ℕ) × Mem s (reads_expr rs (get_or m.exprs e (const 0 0))) × Mem d (listed (given assigns m.stmts s))) → Grounded (Needs m) d
          each d (inl z) = ih d (needs_below widest m sound e p d z) (λ y w. f y (back y (operand_reads rs y (get_or m.exprs e (const 0 0)) d z w)))
          each d (inr t) = f t.0 (back t.0 t.1) d t.2

  driver_grounded : {s : ℕ} → Sig s → Driven s
  driver_grounded {s} (ground h) d k = expr_grounded (suc d) d (omega arith) (λ y q. driver_grounded (h y (to (given assigns m.stmts s) k y q)))
    where
      to : (o : Option ℕ) → Mem d (listed o) → (y : ℕ) → Mem y (get_or rs d []) → Mem y (reads_by rs o)
      to None z y q = absurd (not-nil z)
      to (Some a) z y q = subst (λ (b : ℕ). Mem y (get_or rs b [])) (singleton z) q

  -- no signal is on a loop: all expressions can be reached at last
  pub unlooped→grounded : looped m ≡ None → (e : ℕ) → e < length m.exprs → Grounded (Needs m) e
  unfolding looped
  unlooped→grounded h e p = expr_grounded (suc e) e (omega arith) (λ y q. driver_grounded (every y (under e y q)))
    where
      none_looped : NoLoops (length m.signals) (depends m)
      none_looped = subst (λ (o : Option ℕ). LowestOnLoop (length m.signals) (depends m) o) h (lowest_on_loop_lem (depends m) (length m.signals) (reads_under widest m sound))

      every : (s : ℕ) → s < length m.signals → Sig s
      every s q = no_loop→grounded (Reads (depends m)) (Under (length m.signals)) (reads_under widest m sound) ℕ_discrete (below (length m.signals)) (λ x k. mem_below (length m.signals) x k) none_looped s q

      under : (e' y : ℕ) → Mem y (get_or rs e' []) → y < length m.signals
      under e' y q = reads_there widest m sound e' y q
