-- Values depend only on what is read, and a model with no loop is settled after as many sweeps as it has signals; any settled
-- state is that one. Assumes nothing.
use Prim.Native.Nat.{ℕ, zero, suc, ◌+◌, ◌*◌, ◌<◌}
use mathlib.Core.Path.{◌≡◌, refl, sym, ◌∙◌, ap, ap₂}
use mathlib.Core.Bool.{◌&&◌, ◌||◌}
use mathlib.Core.Bool.{not as flip}
use mathlib.Core.List.Memᴰ.{append_left as mem-left}
use mathlib.Core.List.Memᴰ.{append_right as mem-right}
use mathlib.Core.List.Memᴰ.{head as here}
use mathlib.Core.List.{List, [], ◌∷◌, ◌++◌, Memᴰ as Mem}
use Rattle.std.specs.Prelude.{Option, None, Some}
use native.Mathlib.Omega.{arith}
use native.Mathlib.Decide.{dec_lt, ℕ_discrete}
use lib.ListN.{length, get_or, length-append, get_or-append, get_or-eq_default}
use lib.Seq.{ext_get_or, get_or-append_seam}
use Rattle.bits.specs.Bits.{pick, Bits, binary, number, lowest, window, differ, same_bits}
use Rattle.recorder.specs.Record.{Expr, Model}
use Rattle.recorder.specs.Record.{const, read, concat, not, and, or, xor, mux, eq, mul}
use Rattle.recorder.specs.Evaluate.{Signals, joined_parts, eval_expr, eval_all}
use Rattle.settle.specs.Settle.{Respects, iterate, settles, settled_unique}
use Rattle.settle.specs.Ground.{below, length_below, mem_below}
use Rattle.settle.specs.Loop.{Reads, DepsUnder, NoLoops, Under, LowestOnLoop}
use Rattle.settle.proofs.Loop.{lowest_on_loop_lem}
use Rattle.settle.specs.Table.{at, rounds_at, length_tab}
use Rattle.simulation.specs.Tick.{given, assigns, become, sweep, settle, joined_reads, reads_expr, reads_all, reads_by, depends, looped}
use Rattle.simulation.specs.Settled.{driven, IsSettled}

-- a cell of a list with one more at its end
abbrev pub AtLast : {T : Type 0} (l : List T) (a d : T) → ℕ → Type 0
AtLast l a d i = (i < length l → get_or (l ++ (a ∷ [])) i d ≡ get_or l i d) × (i ≡ length l → get_or (l ++ (a ∷ [])) i d ≡ a) × (length l < i → get_or (l ++ (a ∷ [])) i d ≡ d)

pub get_d_last : {T : Type 0} (l : List T) (a d : T) (i : ℕ) → AtLast l a d i
get_d_last l a d i = (
  λ h. get_or-append l (a ∷ []) d i h,
  λ e. ap (λ (k : ℕ). get_or (l ++ (a ∷ [])) k d) e ∙ get_or-append_seam l a [] d,
  λ h. get_or-eq_default (l ++ (a ∷ [])) d (simp length-append (omega arith)),
)

pub length_reads : (es : List Expr) (rs : List (List ℕ)) → length (reads_all rs es) ≡ length rs + length es
unfolding reads_all
length_reads [] rs = omega arith
length_reads (e ∷ es) rs = omega (arith, length_reads es (rs ++ (reads_expr rs e ∷ [])), length-append rs (reads_expr rs e ∷ []))

-- VALUES DEPEND ON WHAT IS READ

module _ (v w : Signals) where
  abbrev Agree : List ℕ → Type 0
  Agree l = (y : ℕ) → Mem y l → v y ≡ w y

  record Alike (a b : List Bits) (d : List (List ℕ)) : Type 0 where
    ab : length a ≡ length b
    ad : length a ≡ length d
    same_at : (i : ℕ) → Agree (get_or d i []) → get_or a i [] ≡ get_or b i []

  left : (s t : List ℕ) → Agree (s ++ t) → Agree s
  left s t g y m = g y (mem-left t m)

  right : (s t : List ℕ) → Agree (s ++ t) → Agree t
  right s t g y m = g y (mem-right s m)

  module _ (a b : List Bits) (d : List (List ℕ)) (h : Alike a b d) where
    alike_joined : (ps : List ℕ) → Agree (joined_reads d ps) → joined_parts a ps ≡ joined_parts b ps
    alike_joined [] g = refl
    alike_joined (p ∷ ps) g = ap₂ ◌++◌ (alike_joined ps (left (joined_reads d ps) (get_or d p []) g)) (h.same_at p (right (joined_reads d ps) (get_or d p []) g))

    alike_two : {T : Type 0} (f : Bits → Bits → T) (i j : ℕ) → Agree (get_or d i [] ++ get_or d j []) → f (get_or a i []) (get_or a j []) ≡ f (get_or b i []) (get_or b j [])
    alike_two f i j g = ap₂ f (h.same_at i (left (get_or d i []) (get_or d j []) g)) (h.same_at j (right (get_or d i []) (get_or d j []) g))

    alike_value : (e : Expr) → Agree (reads_expr d e) → eval_expr v a e ≡ eval_expr w b e
    alike_value (const n x) g = refl
    alike_value (read n s l) g = ap (λ (x : Bits). window x l n) (g s (here refl))
    alike_value (concat n ps) g = alike_joined ps g
    alike_value (not i) g = ap (λ (x : Bits). flip (lowest x) ∷ []) (h.same_at i g)
    alike_value (and i j) g = alike_two (λ x y. (lowest x && lowest y) ∷ []) i j g
    alike_value (or i j) g = alike_two (λ x y. (lowest x || lowest y) ∷ []) i j g
    alike_value (xor i j) g = alike_two (λ x y. differ (lowest x) (lowest y) ∷ []) i j g
    alike_value (mux n s i j) g =
        let dst : List ℕ = get_or d s [] ++ get_or d i [] in
        ap₂ (λ (f : Bits → Bits) (y : Bits). f y) (alike_two (λ (x y : Bits) (z : Bits). pick (lowest x) y z) s i (left dst (get_or d j []) g)) (h.same_at j (right dst (get_or d j []) g))
    alike_value (eq i j) g = alike_two (λ x y. same_bits x y ∷ []) i j g
    alike_value (mul i j) g = alike_two (λ x y. binary 36 (number x * number y)) i j g

  alike_more : (e : Expr) (a b : List Bits) (d : List (List ℕ)) → Alike a b d → Alike (a ++ (eval_expr v a e ∷ [])) (b ++ (eval_expr w b e ∷ [])) (d ++ (reads_expr d e ∷ []))
  alike_more e a b d h =
      record { ab = simp length-append (omega (arith, h.ab)); ad = simp length-append (omega (arith, h.ad)); same_at = λ i. go i (dec_lt i (length a)) (ℕ_discrete i (length a)) }
    where
      da : (i : ℕ) → AtLast a (eval_expr v a e) [] i
      da i = get_d_last a (eval_expr v a e) [] i

      db : (i : ℕ) → AtLast b (eval_expr w b e) [] i
      db i = get_d_last b (eval_expr w b e) [] i

      dd : (i : ℕ) → AtLast d (reads_expr d e) [] i
      dd i = get_d_last d (reads_expr d e) [] i

      go : (i : ℕ) → Dec (i < length a) → Dec (i ≡ length a) → Agree (get_or (d ++ (reads_expr d e ∷ [])) i []) → get_or (a ++ (eval_expr v a e ∷ [])) i [] ≡ get_or (b ++ (eval_expr w b e ∷ [])) i []
      go i (yes l) q g = (da i).0 l ∙ h.same_at i (rw ((dd i).0 (omega (arith, h.ad))) at g) ∙ sym ((db i).0 (omega (arith, h.ab)))
      go i (no n) (yes q) g = (da i).1 q ∙ alike_value a b d h e (rw ((dd i).1 (q ∙ h.ad)) at g) ∙ sym ((db i).1 (q ∙ h.ab))
      go i (no n) (no q) g = (da i).2 (omega arith) ∙ sym ((db i).2 (omega (arith, h.ab)))

  alike_all : (es : List Expr) (a b : List Bits) (d : List (List ℕ)) → Alike a b d → Alike (eval_all v a es) (eval_all w b es) (reads_all d es)
  unfolding eval_all reads_all
  alike_all [] a b d h = h
  alike_all (e ∷ es) a b d h = alike_all es (a ++ (eval_expr v a e ∷ [])) (b ++ (eval_expr w b e ∷ [])) (d ++ (reads_expr d e ∷ [])) (alike_more e a b d h)

  pub values_respect : (es : List Expr) (i : ℕ) → ((y : ℕ) → Mem y (get_or (reads_all [] es) i []) → v y ≡ w y) → get_or (eval_all v [] es) i [] ≡ get_or (eval_all w [] es) i []
  values_respect es i g = (alike_all es [] [] [] (record { ab = refl; ad = refl; same_at = λ k q. refl })).same_at i g

-- A SWEEP RESPECTS THE DEPENDENCIES

pub driven_respects : (m : Model) (old : List Bits) → Respects (Reads (depends m)) (driven m old)
driven_respects m old s v w h = go (given assigns m.stmts s) h
  where
    go : (o : Option ℕ) → ((y : ℕ) → Mem y (reads_by (reads_all [] m.exprs) o) → v y ≡ w y) → become (eval_all v [] m.exprs) o (get_or old s []) ≡ become (eval_all w [] m.exprs) o (get_or old s [])
    go None g = refl
    go (Some e) g = values_respect v w m.exprs e g

pub settle_length : (m : Model) (old : List Bits) → length old ≡ length m.signals → length (settle m old) ≡ length m.signals
unfolding settle
settle_length m old h = go (length m.signals)
  where
    go : (k : ℕ) → length (iterate k (sweep m old) old) ≡ length m.signals
    go zero = h
    go (suc k) = length_tab (λ s. driven m old s (at [] (iterate k (sweep m old) old))) 0 (length m.signals)

module _ (m : Model) (old : List Bits) (under : DepsUnder (length m.signals) (depends m)) where
  -- no loop: a fixpoint
  pub settle_settled : NoLoops (length m.signals) (depends m) → IsSettled m old (settle m old)
  unfolding settle
  settle_settled loopless s h =
      let n : ℕ = length m.signals in
      let t : List Bits = iterate n (sweep m old) old in
      let it : (x : ℕ) → x < n → at [] t x ≡ iterate n (Rattle.settle.specs.Settle.sweep (driven m old)) (at [] old) x = λ x q. rounds_at [] n (depends m) (driven m old) under (driven_respects m old) n old x q in
      driven_respects m old s (at [] t) (iterate n (Rattle.settle.specs.Settle.sweep (driven m old)) (at [] old)) (λ y r. it y (under s y h r))
      ∙ settles (Reads (depends m)) (driven m old) (driven_respects m old) (Under n) under ℕ_discrete (below n) (λ x q. mem_below n x q) loopless n (omega (arith, length_below n)) (at [] old) s h
      ∙ sym (it s h)

  -- refusal 13 does not come exactly where no signal is on a loop
  pub looped_says : LowestOnLoop (length m.signals) (depends m) (looped m)
  unfolding looped
  looped_says = lowest_on_loop_lem (depends m) (length m.signals) under

  -- whatever holds every assignment and has the other signals as before is what settling gives: the order of the work does not matter
  pub settled_is_settle : NoLoops (length m.signals) (depends m) → length old ≡ length m.signals → (t : List Bits) → length t ≡ length m.signals → IsSettled m old t → t ≡ settle m old
  settled_is_settle loopless lo t l h = ext_get_or [] t (settle m old) (l ∙ sym (settle_length m old lo)) (λ i q. settled_unique (Reads (depends m)) (driven m old) (driven_respects m old) (Under n) under ℕ_discrete (below n) (λ x k. mem_below n x k) loopless (at [] t) (at [] (settle m old)) h (settle_settled loopless) i (omega (arith, l)))
    where
      n : ℕ
      n = length m.signals
