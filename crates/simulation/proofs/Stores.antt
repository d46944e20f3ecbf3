-- The sweep and the commit as code does them: all expressions first, then one statement after the other stores its value. And a
-- sweep that changes nothing ends the settling. Assumes nothing.
use Prim.Native.Nat.{ℕ, zero, suc, ◌+◌, ◌≤◌, ◌<◌}
use mathlib.Core.Path.{◌≡◌, refl, sym, ◌∙◌, ap, subst}
use mathlib.Core.Logic.{◌≢◌}
use mathlib.Core.Bool.{Bool, true, false, ◌&&◌}
use mathlib.Core.List.{List, [], ◌∷◌}
use Rattle.std.specs.Prelude.{Option, None, Some}
use native.Mathlib.Omega.{arith}
use native.Mathlib.Nat.{not-suc-le-zero, zero-add, add-zero}
use lib.Dec.{eqb, leb}
use lib.ListN.{length, get_or, set, length-set}
use lib.Seq.{ext_get_or, get_or-set_same, get_or-set_other}
use borrow.Author.Tests.{eqb-true, eqb-false}
use Rattle.recorder.specs.Record.{Signal, Stmt, Model}
use Rattle.settle.specs.Table.{at, length_tab, get_d_tab}
use Rattle.settle.specs.Tests.{and_right}
use Rattle.simulation.specs.Wellformed.{count_of, or_else, in_range, statements, signal_fits}
use Rattle.bits.specs.Bits.{pick, Bits}
use Rattle.simulation.specs.Tick.{values_in, target, given, Firing, loads, become, set_by, commit}
use Rattle.simulation.specs.Sound.{AllFrom, Sound, on, drivers}

abbrev pub store : List Bits → Option ℕ → ℕ → List Bits → List Bits
store vs None x t = t
store vs (Some e) x t = set t x (get_or vs e [])

-- one statement after the other, by a rule
abbrev pub stores : (Stmt → Option ℕ) → List Bits → List Stmt → List Bits → List Bits
stores rule vs [] t = t
stores rule vs (s ∷ ss) t = stores rule vs ss (store vs (rule s) (target s) t)

length_store : (vs : List Bits) (o : Option ℕ) (x : ℕ) (t : List Bits) → length (store vs o x t) ≡ length t
length_store vs None x t = refl
length_store vs (Some e) x t = length-set t x (get_or vs e [])

pub length_stores : (rule : Stmt → Option ℕ) (vs : List Bits) (ss : List Stmt) (t : List Bits) → length (stores rule vs ss t) ≡ length t
length_stores rule vs [] t = refl
length_stores rule vs (s ∷ ss) t = length_stores rule vs ss (store vs (rule s) (target s) t) ∙ length_store vs (rule s) (target s) t

-- no statement on a signal gives it nothing
given_none : (rule : Stmt → Option ℕ) (ss : List Stmt) (i : ℕ) → count_of (on i) ss ≤ 0 → given rule ss i ≡ None
given_none rule [] i h = refl
given_none rule (s ∷ ss) i h = go (eqb (target s) i) (given_none rule ss i) h
  where
    go : (b : Bool) → (count_of (on i) ss ≤ 0 → given rule ss i ≡ None) → (pick b (suc (count_of (on i) ss)) (count_of (on i) ss)) ≤ 0 → ◌≡◌ {A = Option ℕ} (pick b (or_else (rule s) (given rule ss i)) (given rule ss i)) None
    go true ih k = absurd (not-suc-le-zero k)
    go false ih k = ih k

store_at : (vs : List Bits) (o : Option ℕ) (x i : ℕ) (t : List Bits) → x ≡ i → i < length t → get_or (store vs o x t) i [] ≡ become vs o (get_or t i [])
store_at vs None x i t e h = refl
store_at vs (Some k) x i t e h = ap (λ (j : ℕ). get_or (set t j (get_or vs k [])) i []) e ∙ get_or-set_same t i (get_or vs k []) [] h

store_off : (vs : List Bits) (o : Option ℕ) (x i : ℕ) (t : List Bits) → i ≢ x → get_or (store vs o x t) i [] ≡ get_or t i []
store_off vs None x i t e = refl
store_off vs (Some k) x i t e = get_or-set_other t x i (get_or vs k []) [] e

-- with at most one statement on a signal the order does not matter
pub stores_at : (rule : Stmt → Option ℕ) (vs : List Bits) (ss : List Stmt) (t : List Bits) (i : ℕ) → i < length t → count_of (on i) ss ≤ 1 → get_or (stores rule vs ss t) i [] ≡ become vs (given rule ss i) (get_or t i [])
stores_at rule vs [] t i h c = refl
stores_at rule vs (s ∷ ss) t i h c = go (eqb (target s) i) refl (stores_at rule vs ss t' i (subst (λ (n : ℕ). i < n) (sym (length_store vs (rule s) (target s) t)) h)) c
  where
    t' : List Bits
    t' = store vs (rule s) (target s) t

    alone : (o : Option ℕ) → become vs o (get_or t i []) ≡ become vs (or_else o None) (get_or t i [])
    alone None = refl
    alone (Some e) = refl

    go : (b : Bool) → eqb (target s) i ≡ b → (count_of (on i) ss ≤ 1 → get_or (stores rule vs ss t') i [] ≡ become vs (given rule ss i) (get_or t' i [])) → (pick b (suc (count_of (on i) ss)) (count_of (on i) ss)) ≤ 1 → get_or (stores rule vs ss t') i [] ≡ become vs (pick b (or_else (rule s) (given rule ss i)) (given rule ss i)) (get_or t i [])
    go true e ih k =
        let rest : given rule ss i ≡ None = given_none rule ss i (omega arith) in
        ih (omega arith)
        ∙ ap (λ (o : Option ℕ). become vs o (get_or t' i [])) rest
        ∙ store_at vs (rule s) (target s) i t (eqb-true (target s) i e) h
        ∙ alone (rule s)
        ∙ ap (λ (o : Option ℕ). become vs (or_else (rule s) o) (get_or t i [])) (sym rest)
    go false e ih k = ih k ∙ ap (become vs (given rule ss i)) (store_off vs (rule s) (target s) i t (λ p. eqb-false (target s) i e (sym p)))

-- at most one statement on each signal
abbrev pub OneEach : Model → Type 0
OneEach m = (i : ℕ) → i < length m.signals → count_of (on i) m.stmts ≤ 1

pub stores_is_set : (m : Model) → OneEach m → (rule : Stmt → Option ℕ) (old now : List Bits) → length old ≡ length m.signals → stores rule (values_in m now) m.stmts old ≡ set_by m (given rule m.stmts) old now
stores_is_set m h rule old now l =
    ext_get_or [] (stores rule vs m.stmts old) (set_by m (given rule m.stmts) old now) (long ∙ sym (length_tab cell 0 (length m.signals))) (λ i q. same i (omega (arith, long)))
  where
    vs : List Bits
    vs = values_in m now

    cell : ℕ → Bits
    cell s = become (values_in m now) (given rule m.stmts s) (get_or old s [])

    long : length (stores rule (values_in m now) m.stmts old) ≡ length m.signals
    long = length_stores rule (values_in m now) m.stmts old ∙ l

    same : (i : ℕ) → i < length m.signals → get_or (stores rule (values_in m now) m.stmts old) i [] ≡ get_or (set_by m (given rule m.stmts) old now) i []
    same i q =
        stores_at rule (values_in m now) m.stmts old i (omega (arith, l)) (h i q)
        ∙ sym (get_d_tab (λ s. become (values_in m now) (given rule m.stmts s) (get_or old s [])) [] 0 (length m.signals) i q ∙ ap (λ (s : ℕ). become (values_in m now) (given rule m.stmts s) (get_or old s [])) (zero-add i))

-- the commit: decide by the settled signals, then store
pub stores_is_commit : (m : Model) → OneEach m → (f : Firing) (t : List Bits) → length t ≡ length m.signals → stores (loads f (at [] t)) (values_in m t) m.stmts t ≡ commit m f t
unfolding commit
stores_is_commit m h f t l = stores_is_set m h (loads f (at [] t)) t t l

-- FROM SOUNDNESS
all_at : (p : ℕ → Signal → Bool) (n : ℕ) (l : List Signal) (d : Signal) → AllFrom p n l → (i : ℕ) → i < length l → p (n + i) (get_or l i d) ≡ true
all_at p n [] d h i q = absurd (not-suc-le-zero q)
all_at p n (a ∷ l) d h zero q = ap (λ (k : ℕ). p k a) (add-zero n) ∙ h.0
all_at p n (a ∷ l) d h (suc i) q =
    let k : n + suc i ≡ suc n + i = omega arith in
    ap (λ (j : ℕ). p j (get_or l i d)) k ∙ all_at p (suc n) l d h.1 i (omega arith)

at_most_one : (label : ℕ) → statements label ≤ 1
at_most_one zero = omega arith
at_most_one (suc label) = omega arith

pub one_each : (widest : ℕ) (m : Model) → Sound widest m → OneEach m
one_each widest m h i q =
    let d : Signal = record { label = 0; width = 0; owner = 0 } in
    let s : Signal = get_or m.signals i d in
    let e = all_at (λ n. signal_fits widest (drivers m n)) 0 m.signals d h.signals_fit i q in
    let k = eqb-true (drivers m (0 + i)) (statements s.label) (and_right (leb s.label 15 && in_range widest s.width) (eqb (drivers m (0 + i)) (statements s.label)) e) in
    omega (arith, at_most_one s.label, ap (drivers m) (sym (zero-add i)) ∙ k)
