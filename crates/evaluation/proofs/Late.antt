-- A late state stands for the one that is meant: without a loop settling reads only the signals to which nothing is assigned. Assumes nothing.
use Prim.Native.Nat.{ℕ, zero, suc, ◌≤◌, ◌<◌}
use mathlib.Core.Path.{◌≡◌, refl, sym, ◌∙◌, ap, ap₂, subst, fun_ext}
use mathlib.Core.Bool.{Bool, true, false, ◌&&◌}
use mathlib.Core.Logic.{◌⊎◌, inl, inr}
use mathlib.Core.List.{List, [], ◌∷◌}
use Rattle.std.specs.Prelude.{Option, None, Some}
use native.Mathlib.Omega.{arith}
use native.Mathlib.Nat.{zero-add, not-suc-le-zero}
use native.Mathlib.Decide.{dec_lt}
use lib.Dec.{eqb}
use lib.ListN.{length, get_or, take, drop}
use Rattle.bits.specs.Bits.{Bits, pick}
use Rattle.settle.specs.Table.{at as signals_at, tab_from, length_tab, get_d_tab}
use Rattle.recorder.specs.Record.{Signal, RegReset, RegEnable, Stmt, Model, assign, reg}
use Rattle.recorder.specs.Read.{only}
use Rattle.recorder.specs.Evaluate.{Signals, eval_expr}
use Rattle.simulation.specs.Wellformed.{or_else}
use Rattle.simulation.specs.Tick.{Firing, target, given, assigns, asserted, reset_loads, enabled, loads, become, values_in, settle, commit, set_inputs, tick, looped}
use Rattle.simulation.specs.Sound.{Sound}
use Rattle.evaluation.specs.Consistent.{assigned, stored, expr_at, Consistent}
use Rattle.evaluation.specs.Loads.{marked, reset_value}
use Rattle.evaluation.specs.Late.{SameFree, Output, Late, Asks, reset_signal, enable_signal}
use Rattle.evaluation.proofs.Consistent.{consistent_settles, settled_consistent}

-- behind the end of a list
beyond : (l : List Bits) (s : ℕ) → length l ≤ s → get_or l s [] ≡ []
beyond [] s h = refl
beyond (x ∷ l) zero h = absurd (not-suc-le-zero h)
beyond (x ∷ l) (suc s) h = beyond l s (omega arith)

pub free_sym : {m : Model} {a b : List Bits} → SameFree m a b → SameFree m b a
free_sym f = record { as_many = sym f.as_many; free = λ s q. sym (f.free s q) }

-- SETTLING

module _ (widest : ℕ) (m : Model) (h : Sound widest m) (q : looped m ≡ None) where
  module _ {a b : List Bits} (la : length a ≡ length m.signals) (f : SameFree m a b) where
    abbrev vs : List Bits
    vs = values_in m (settle m a)

    same_assigned : assigned m a (values_in m (settle m a)) ≡ assigned m b (values_in m (settle m a))
    same_assigned = fun_ext (λ s. go s (given assigns m.stmts s) refl)
      where
        go : (s : ℕ) (o : Option ℕ) → given assigns m.stmts s ≡ o → become vs o (get_or a s []) ≡ become vs o (get_or b s [])
        go s None z = f.free s z
        go s (Some e) z = refl

    agrees : Consistent m b (values_in m (settle m a))
    agrees =
        let c = settled_consistent widest m a h la q in
        record { each = c.each; right = λ e k. ap (λ (v : Signals). eval_expr v vs (expr_at m e)) (sym same_assigned) ∙ c.right e k }

    pub settle_free : settle m a ≡ settle m b
    settle_free =
        (consistent_settles widest m a vs h la (settled_consistent widest m a h la q)).settling q
        ∙ ap (λ (v : Signals). tab_from v 0 (length m.signals)) same_assigned
        ∙ sym ((consistent_settles widest m b vs h (sym f.as_many ∙ la) agrees).settling q)

  module _ (a : List Bits) (la : length a ≡ length m.signals) where
    settle_is : settle m a ≡ stored m a (values_in m (settle m a))
    settle_is = (consistent_settles widest m a (values_in m (settle m a)) h la (settled_consistent widest m a h la q)).settling q

    pub settle_long : length (settle m a) ≡ length m.signals
    settle_long = ap length settle_is ∙ length_tab (assigned m a (values_in m (settle m a))) 0 (length m.signals)

    -- each signal has what its expression says, or what it had
    pub settle_at : (s : ℕ) → s < length m.signals → get_or (settle m a) s [] ≡ become (values_in m (settle m a)) (given assigns m.stmts s) (get_or a s [])
    settle_at s k =
        ap (λ (l : List Bits). get_or l s []) settle_is
        ∙ get_d_tab (assigned m a (values_in m (settle m a))) [] 0 (length m.signals) s k
        ∙ ap (assigned m a (values_in m (settle m a))) (zero-add s)

    pub settle_keeps : SameFree m (settle m a) a
    settle_keeps = record { as_many = settle_long ∙ sym la; free = λ s z. go s z (dec_lt s (length m.signals)) }
      where
        go : (s : ℕ) → given assigns m.stmts s ≡ None → Dec (s < length m.signals) → get_or (settle m a) s [] ≡ get_or a s []
        go s z (yes k) = settle_at s k ∙ ap (λ (o : Option ℕ). become (values_in m (settle m a)) o (get_or a s [])) z
        go s z (no k) = beyond (settle m a) s (omega (arith, settle_long, k)) ∙ sym (beyond a s (omega (arith, la, k)))

    pub settle_again : settle m (settle m a) ≡ settle m a
    settle_again = sym (settle_free la (free_sym settle_keeps))

-- INPUTS

inputs_long : (ss : List Signal) (bs : List Bool) (a b : List Bits) → length a ≡ length b → length (set_inputs ss bs a) ≡ length (set_inputs ss bs b)
inputs_long [] bs a b l = refl
inputs_long (s ∷ ss) bs [] [] l = refl
inputs_long (s ∷ ss) bs [] (y ∷ b) l = absurd (omega arith)
inputs_long (s ∷ ss) bs (x ∷ a) [] l = absurd (omega arith)
inputs_long (s ∷ ss) bs (x ∷ a) (y ∷ b) l = go (eqb s.label 0) (inputs_long ss (drop s.width bs) a b (omega arith)) (inputs_long ss bs a b (omega arith))
  where
    go : (t : Bool) → length (set_inputs ss (drop s.width bs) a) ≡ length (set_inputs ss (drop s.width bs) b) → length (set_inputs ss bs a) ≡ length (set_inputs ss bs b) → length (pick t (take s.width bs ∷ set_inputs ss (drop s.width bs) a) (x ∷ set_inputs ss bs a)) ≡ length (pick t (take s.width bs ∷ set_inputs ss (drop s.width bs) b) (y ∷ set_inputs ss bs b))
    go true i j = ap suc i
    go false i j = ap suc j

inputs_at : (ss : List Signal) (bs : List Bool) (a b : List Bits) → length a ≡ length b → (i : ℕ) → get_or a i [] ≡ get_or b i [] → get_or (set_inputs ss bs a) i [] ≡ get_or (set_inputs ss bs b) i []
inputs_at [] bs a b l i e = refl
inputs_at (s ∷ ss) bs [] [] l i e = refl
inputs_at (s ∷ ss) bs [] (y ∷ b) l i e = absurd (omega arith)
inputs_at (s ∷ ss) bs (x ∷ a) [] l i e = absurd (omega arith)
inputs_at (s ∷ ss) bs (x ∷ a) (y ∷ b) l zero e = go (eqb s.label 0)
  where
    go : (t : Bool) → get_or (pick t (take s.width bs ∷ set_inputs ss (drop s.width bs) a) (x ∷ set_inputs ss bs a)) 0 [] ≡ get_or (pick t (take s.width bs ∷ set_inputs ss (drop s.width bs) b) (y ∷ set_inputs ss bs b)) 0 []
    go true = refl
    go false = e
inputs_at (s ∷ ss) bs (x ∷ a) (y ∷ b) l (suc i) e = go (eqb s.label 0) (inputs_at ss (drop s.width bs) a b (omega arith) i e) (inputs_at ss bs a b (omega arith) i e)
  where
    go : (t : Bool) → get_or (set_inputs ss (drop s.width bs) a) i [] ≡ get_or (set_inputs ss (drop s.width bs) b) i [] → get_or (set_inputs ss bs a) i [] ≡ get_or (set_inputs ss bs b) i [] → get_or (pick t (take s.width bs ∷ set_inputs ss (drop s.width bs) a) (x ∷ set_inputs ss bs a)) (suc i) [] ≡ get_or (pick t (take s.width bs ∷ set_inputs ss (drop s.width bs) b) (y ∷ set_inputs ss bs b)) (suc i) []
    go true j k = j
    go false j k = k

inputs_all : (ss : List Signal) (bs : List Bool) (a : List Bits) → length a ≡ length ss → length (set_inputs ss bs a) ≡ length ss
inputs_all [] bs a l = refl
inputs_all (s ∷ ss) bs [] l = absurd (omega arith)
inputs_all (s ∷ ss) bs (x ∷ a) l = go (eqb s.label 0) (inputs_all ss (drop s.width bs) a (omega arith)) (inputs_all ss bs a (omega arith))
  where
    go : (t : Bool) → length (set_inputs ss (drop s.width bs) a) ≡ length ss → length (set_inputs ss bs a) ≡ length ss → length (pick t (take s.width bs ∷ set_inputs ss (drop s.width bs) a) (x ∷ set_inputs ss bs a)) ≡ suc (length ss)
    go true i j = ap suc i
    go false i j = ap suc j

-- A TICK starts as well from a late state
pub tick_free : (widest : ℕ) (m : Model) → Sound widest m → looped m ≡ None → {a b : List Bits} → length a ≡ length m.signals → SameFree m a b → (bs : Bits) (f : Firing) → tick m bs f a ≡ tick m bs f b
unfolding tick
tick_free widest m h q {a} {b} la g bs f =
    ap (λ (t : List Bits). settle m (commit m f t))
    (settle_free widest m h q (inputs_all m.signals bs a la) (record { as_many = inputs_long m.signals bs a b g.as_many; free = λ s z. inputs_at m.signals bs a b g.as_many s (g.free s z) }))

-- REGISTERS

abbrev ThereIs : Option ℕ → Type 0
ThereIs None = ⊥
ThereIs (Some e) = Unit

none_some : {e : ℕ} → None ≡ Some e → ⊥
none_some z = subst ThereIs (sym z) tt

reset_marked : (v : Signals) (r : Option RegReset) (e : ℕ) → reset_loads v r ≡ Some e → reset_value r ≡ Some e
reset_marked v None e z = z
reset_marked v (Some r) e z = go (asserted v r.signal r.active) z
  where
    go : (b : Bool) → only b (Some r.value) ≡ Some e → Some r.value ≡ Some e
    go true y = y
    go false y = absurd (none_some y)

-- what a register loads is one of two
loads_marked : (f : Firing) (v : Signals) (x : Stmt) (e : ℕ) → loads f v x ≡ Some e → (marked 1 x ≡ Some e) ⊎ (marked 2 x ≡ Some e)
loads_marked f v (assign t d) e z = absurd (none_some z)
loads_marked f v (reg t n c d r k) e z = go (reset_loads v r) refl z
  where
    next : (b : Bool) → only b (Some n) ≡ Some e → Some n ≡ Some e
    next true y = y
    next false y = absurd (none_some y)

    go : (o : Option ℕ) → reset_loads v r ≡ o → or_else o (only (f c d && enabled v k) (Some n)) ≡ Some e → (Some n ≡ Some e) ⊎ (reset_value r ≡ Some e)
    go None w y = inl (next (f c d && enabled v k) y)
    go (Some i) w y = inr (reset_marked v r e (w ∙ y))

-- by the levels it asks for
same_loads : (f : Firing) (v w : Signals) (x : Stmt) → ((s : ℕ) → Asks x s → v s ≡ w s) → loads f v x ≡ loads f w x
same_loads f v w (assign t d) g = refl
same_loads f v w (reg t n c d r k) g = ap₂ (λ (o : Option ℕ) (b : Bool). or_else o (only (f c d && b) (Some n))) (resets r (λ s z. g s (inl z))) (enables k (λ s z. g s (inr z)))
  where
    resets : (r : Option RegReset) → ((s : ℕ) → reset_signal r ≡ Some s → v s ≡ w s) → reset_loads v r ≡ reset_loads w r
    resets None h = refl
    resets (Some y) h = ap (λ (u : Bits). only (asserted (λ i. u) y.signal y.active) (Some y.value)) (h y.signal refl)

    enables : (k : Option RegEnable) → ((s : ℕ) → enable_signal k ≡ Some s → v s ≡ w s) → enabled v k ≡ enabled w k
    enables None h = refl
    enables (Some y) h = ap (λ (u : Bits). asserted (λ i. u) y.signal y.active) (h y.signal refl)

pub given_same : (a b : Stmt → Option ℕ) (ts : List Stmt) → ((k : ℕ) → k < length ts → a (get_or ts k (assign 0 0)) ≡ b (get_or ts k (assign 0 0))) → (s : ℕ) → given a ts s ≡ given b ts s
given_same a b [] g s = refl
given_same a b (t ∷ ts) g s = ap₂ (λ (o p : Option ℕ). pick (eqb (target t) s) (or_else o p) p) (g 0 (omega arith)) (given_same a b ts (λ k h. g (suc k) (omega arith)) s)

pub given_by : (rule : Stmt → Option ℕ) (ts : List Stmt) (s e : ℕ) → given rule ts s ≡ Some e → (k : ℕ) × (k < length ts) × (rule (get_or ts k (assign 0 0)) ≡ Some e)
given_by rule [] s e z = absurd (none_some z)
given_by rule (t ∷ ts) s e z = go (λ y. given_by rule ts s e y) (eqb (target t) s) (rule t) refl z
  where
    more : ((k : ℕ) × (k < length ts) × (rule (get_or ts k (assign 0 0)) ≡ Some e)) → (k : ℕ) × (k < suc (length ts)) × (rule (get_or (t ∷ ts) k (assign 0 0)) ≡ Some e)
    more r = (suc r.0, omega (arith, r.1), r.2)

    go : (given rule ts s ≡ Some e → (k : ℕ) × (k < length ts) × (rule (get_or ts k (assign 0 0)) ≡ Some e)) → (b : Bool) (o : Option ℕ) → rule t ≡ o → pick b (or_else o (given rule ts s)) (given rule ts s) ≡ Some e → (k : ℕ) × (k < suc (length ts)) × (rule (get_or (t ∷ ts) k (assign 0 0)) ≡ Some e)
    go ih false o w y = more (ih y)
    go ih true None w y = more (ih y)
    go ih true (Some i) w y = (0, omega arith, w ∙ y)

module _ (widest : ℕ) (m : Model) (h : Sound widest m) (q : looped m ≡ None) (old : List Bits) (lo : length old ≡ length m.signals) where
  abbrev S : List Bits
  S = settle m old

  abbrev us : List Bits
  us = values_in m (settle m old)

  module _ (vs new : List Bits) (ln : length new ≡ length m.signals) (keep : (s : ℕ) → given assigns m.stmts s ≡ None → get_or new s [] ≡ get_or old s []) where
    -- a signal that has its expression's value, or to which nothing is assigned
    pub settled_so : (s : ℕ) → ((d : ℕ) → given assigns m.stmts s ≡ Some d → get_or new s [] ≡ get_or vs d []) → ((d : ℕ) → given assigns m.stmts s ≡ Some d → get_or vs d [] ≡ get_or (values_in m (settle m old)) d []) → get_or new s [] ≡ get_or (settle m old) s []
    settled_so s a b = go (dec_lt s (length m.signals)) (given assigns m.stmts s) refl
      where
        go : Dec (s < length m.signals) → (o : Option ℕ) → given assigns m.stmts s ≡ o → get_or new s [] ≡ get_or (settle m old) s []
        go (no k) o z = beyond new s (omega (arith, ln, k)) ∙ sym (beyond (settle m old) s (omega (arith, settle_long widest m h q old lo, k)))
        go (yes k) None z = keep s z ∙ sym (settle_at widest m h q old lo s k ∙ ap (λ (o : Option ℕ). become us o (get_or old s [])) z)
        go (yes k) (Some d) z = a d z ∙ b d z ∙ sym (settle_at widest m h q old lo s k ∙ ap (λ (o : Option ℕ). become us o (get_or old s [])) z)

    -- the registers load from it what they load from the settled state
    module _ (f : Firing) (asked : (k s : ℕ) → k < length m.stmts → Asks (get_or m.stmts k (assign 0 0)) s → get_or new s [] ≡ get_or (settle m old) s []) (loaded : (k e : ℕ) → k < length m.stmts → (marked 1 (get_or m.stmts k (assign 0 0)) ≡ Some e) ⊎ (marked 2 (get_or m.stmts k (assign 0 0)) ≡ Some e) → get_or vs e [] ≡ get_or (values_in m (settle m old)) e []) where
      same_given : (s : ℕ) → given (loads f (signals_at [] new)) m.stmts s ≡ given (loads f (signals_at [] (settle m old))) m.stmts s
      same_given = given_same (loads f (signals_at [] new)) (loads f (signals_at [] S)) m.stmts (λ k l. same_loads f (signals_at [] new) (signals_at [] S) (get_or m.stmts k (assign 0 0)) (λ s z. asked k s l z))

      pub loaded_late : {late : List Bits} → length late ≡ length m.signals → ((s : ℕ) → get_or late s [] ≡ become vs (given (loads f (signals_at [] new)) m.stmts s) (get_or new s [])) → SameFree m late (commit m f (settle m old))
      unfolding commit
      loaded_late {late} ll each = record { as_many = ll ∙ sym (length_tab committed 0 (length m.signals)); free = λ s z. go s z (dec_lt s (length m.signals)) }
        where
          committed : ℕ → Bits
          committed s = become (values_in m (settle m old)) (given (loads f (signals_at [] (settle m old))) m.stmts s) (get_or (settle m old) s [])

          same : (s : ℕ) → given assigns m.stmts s ≡ None → (o : Option ℕ) → given (loads f (signals_at [] (settle m old))) m.stmts s ≡ o → become vs o (get_or new s []) ≡ become (values_in m (settle m old)) o (get_or (settle m old) s [])
          same s z None w = keep s z ∙ sym ((settle_keeps widest m h q old lo).free s z)
          same s z (Some e) w =
              let r = given_by (loads f (signals_at [] S)) m.stmts s e w in
              loaded r.0 e r.1 (loads_marked f (signals_at [] S) (get_or m.stmts r.0 (assign 0 0)) e r.2)

          go : (s : ℕ) → given assigns m.stmts s ≡ None → Dec (s < length m.signals) → get_or late s [] ≡ get_or (tab_from committed 0 (length m.signals)) s []
          go s z (yes k) =
              each s
              ∙ ap (λ (o : Option ℕ). become vs o (get_or new s [])) (same_given s)
              ∙ same s z (given (loads f (signals_at [] S)) m.stmts s) refl
              ∙ sym (get_d_tab committed [] 0 (length m.signals) s k ∙ ap committed (zero-add s))
          go s z (no k) = beyond late s (omega (arith, ll, k)) ∙ sym (beyond (tab_from committed 0 (length m.signals)) s (omega (arith, length_tab committed 0 (length m.signals), k)))

    -- the outputs show the settled state
    pub shown_late : ((s d : ℕ) → Output m.signals s → given assigns m.stmts s ≡ Some d → get_or new s [] ≡ get_or vs d []) → ((s d : ℕ) → Output m.signals s → given assigns m.stmts s ≡ Some d → get_or vs d [] ≡ get_or (values_in m (settle m old)) d []) → Late m (settle m old) new
    shown_late a b = record {
      settles_to = settle_free widest m h q ln (record { as_many = ln ∙ sym lo; free = keep });
      outputs = λ s o. settled_so s (λ d z. a s d o z) (λ d z. b s d o z);
    }

-- a settled state is late to itself
pub late_itself : (widest : ℕ) (m : Model) → Sound widest m → looped m ≡ None → (a : List Bits) → length a ≡ length m.signals → Late m (settle m a) (settle m a)
late_itself widest m h q a la = record { settles_to = settle_again widest m h q a la; outputs = λ s o. refl }

-- what settles to a state agrees with it where nothing is assigned
pub late_free : (widest : ℕ) (m : Model) → Sound widest m → looped m ≡ None → {state late : List Bits} → length late ≡ length m.signals → Late m state late → SameFree m state late
late_free widest m h q {state} {late} ll l = subst (λ (t : List Bits). SameFree m t late) l.settles_to (settle_keeps widest m h q late ll)
