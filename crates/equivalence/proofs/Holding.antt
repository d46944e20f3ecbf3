-- In a settled state of a sound model, and in its commit, every statement holds.
-- Assumes nothing.
use mathlib.Core.Path.{◌≡◌, refl, ap, ap₂, sym, ◌∙◌, subst}
use mathlib.Core.Logic.{◌⊎◌, inl, inr}
use mathlib.Core.Bool.{Bool, true, false, ◌&&◌, false≢true}
use mathlib.Core.List.Memᴰ.{cases_cons}
use mathlib.Core.List.Memᴰ.{head as here}
use mathlib.Core.List.Memᴰ.{not-nil}
use mathlib.Core.List.Memᴰ.{tail as there}
use mathlib.Core.List.{List, [], ◌∷◌, Memᴰ as Mem}
use Rattle.std.specs.Prelude.{Option, None, Some}
use Prim.Native.Nat.{ℕ, zero, suc, ◌≤◌, ◌<◌}
use native.Mathlib.Nat.{zero-add}
use native.Mathlib.Omega.{arith}
use lib.Dec.{eqb, leb, ltb}
use lib.ListN.{length, get_or, length-map}
use borrow.Author.Tests.{eq-eqb, leb-true, ltb-true}
use Rattle.bits.specs.Bits.{pick, Bits, digit, lowest, same}
use Rattle.settle.specs.Table.{at, get_d_tab}
use Rattle.recorder.specs.Record.{Signal, Stmt, Stmt.assign, Stmt.reg, RegReset, RegEnable, Model}
use Rattle.recorder.specs.Read.{only}
use Rattle.recorder.specs.Evaluate.{Signals, Values, value_of, eval_all}
use Rattle.simulation.specs.Wellformed.{or_else, count_of, stmt_fits, suits, broad, reset_fits, enable_fits}
use Rattle.simulation.specs.Tick.{target, given, assigns, asserted, reset_loads, enabled, loads, become, commit, Firing}
use Rattle.simulation.specs.Sound.{AllFrom, on, drivers, signal_widths, expr_widths, Sound}
use Rattle.simulation.proofs.Stores.{one_each}
use Rattle.meaning.specs.Settles.{asserts, reset_now, reset_bits, enable_now, IsReg, Holds, AllHold}
use Rattle.equivalence.specs.Settled.{Settling, tick_of}

-- THE ONE STATEMENT ON A SIGNAL

-- a statement stands on its target
pub stands_on : (ts : List Stmt) (t : Stmt) → Mem t ts → 1 ≤ count_of (on (target t)) ts
stands_on [] t p = absurd (not-nil p)
stands_on (y ∷ ts) t p = here_or (cases_cons p) (stands_on ts t)
  where
    up : (b : Bool) (k : ℕ) → 1 ≤ k → 1 ≤ pick b (suc k) k
    up true k r = omega arith
    up false k r = r

    at_once : (b : Bool) (k : ℕ) → b ≡ true → 1 ≤ pick b (suc k) k
    at_once true k r = omega arith
    at_once false k r = absurd (false≢true r)

    here_or : (t ≡ y) ⊎ Mem t ts → (Mem t ts → 1 ≤ count_of (on (target t)) ts) → 1 ≤ pick (eqb (target y) (target t)) (suc (count_of (on (target t)) ts)) (count_of (on (target t)) ts)
    here_or (inl r) g = at_once (eqb (target y) (target t)) (count_of (on (target t)) ts) (eq-eqb (target y) (target t) (ap target (sym r)))
    here_or (inr r) g = up (eqb (target y) (target t)) (count_of (on (target t)) ts) (g r)

module _ (rule : Stmt → Option ℕ) where
  pub given_none : (ts : List Stmt) (s : ℕ) → count_of (on s) ts ≡ 0 → given rule ts s ≡ None
  given_none [] s h = refl
  given_none (t ∷ ts) s h = go (eqb (target t) s) (given_none ts s) h
    where
      go : (b : Bool) → (count_of (on s) ts ≡ 0 → given rule ts s ≡ None) → pick b (suc (count_of (on s) ts)) (count_of (on s) ts) ≡ 0 → pick b (or_else (rule t) (given rule ts s)) (given rule ts s) ≡ None
      go true f q = absurd (omega (arith, q))
      go false f q = f q

  or_none : (o : Option ℕ) → or_else o None ≡ o
  or_none None = refl
  or_none (Some x) = refl

  pub given_one : (ts : List Stmt) (t : Stmt) → Mem t ts → count_of (on (target t)) ts ≤ 1 → given rule ts (target t) ≡ rule t
  given_one [] t m h = absurd (not-nil m)
  given_one (x ∷ ts) t m h = go (cases_cons m) (eqb (target x) (target t)) refl (given_one ts t) h
    where
      go : (t ≡ x) ⊎ Mem t ts → (b : Bool) → eqb (target x) (target t) ≡ b → (Mem t ts → count_of (on (target t)) ts ≤ 1 → given rule ts (target t) ≡ rule t) → pick b (suc (count_of (on (target t)) ts)) (count_of (on (target t)) ts) ≤ 1
          → pick b (or_else (rule x) (given rule ts (target t))) (given rule ts (target t)) ≡ rule t
      go (inl e) true q f l = ap₂ (λ (a b : Option ℕ). or_else a b) (ap rule (sym e)) (given_none ts (target t) (omega (arith, l))) ∙ or_none (rule t)
      go (inl e) false q f l = absurd (false≢true (sym q ∙ eq-eqb (target x) (target t) (ap target (sym e))))
      go (inr p) true q f l = absurd (omega (arith, l, stands_on ts t p))
      go (inr p) false q f l = f p l

-- WHAT SOUNDNESS SAYS OF A STATEMENT

all_mem : {A : Type 0} (p : A → Bool) (j : ℕ) (l : List A) → AllFrom (λ (i : ℕ). p) j l → (x : A) → Mem x l → p x ≡ true
all_mem p j [] h x m = absurd (not-nil m)
all_mem {A} p j (y ∷ l) h x m = go (cases_cons m) (all_mem p (suc j) l h.1 x)
  where
    go : (x ≡ y) ⊎ Mem x l → (Mem x l → p x ≡ true) → p x ≡ true
    go (inl e) f = ap p e ∙ h.0
    go (inr q) f = f q

left : (a b : Bool) → a && b ≡ true → a ≡ true
left true b q = refl
left false b q = q

right : (a b : Bool) → a && b ≡ true → b ≡ true
right true b q = q
right false b q = absurd (false≢true q)

abbrev pub LowReset : Option RegReset → Type 0
LowReset None = Unit {0}
LowReset (Some r) = r.active ≤ 1

abbrev pub LowEnable : Option RegEnable → Type 0
LowEnable None = Unit {0}
LowEnable (Some e) = e.active ≤ 1

module _ {widest : ℕ} {M : Model} (sound : Sound widest M) where
  abbrev sw : List ℕ
  sw = signal_widths M

  abbrev ew : List ℕ
  ew = expr_widths M

  fits_stmt : (t : Stmt) → Mem t M.stmts → stmt_fits sw ew t ≡ true
  fits_stmt t m = all_mem (stmt_fits sw ew) 0 M.stmts sound.stmts_fit t m

  inside_of : (t e : ℕ) → suits sw ew t e ≡ true → t < length M.signals
  inside_of t e h = omega (arith, ltb-true t (length sw) (left (ltb t (length sw)) _ h), length-map M.signals (λ (s : Signal). s.width))

  pub stmt_inside : (t : Stmt) → Mem t M.stmts → target t < length M.signals
  stmt_inside (assign t e) m = inside_of t e (fits_stmt (assign t e) m)
  stmt_inside (reg t n c d r e) m =
      let h = fits_stmt (reg t n c d r e) m in
      inside_of t n (left (suits sw ew t n) (broad sw c 1) (left (suits sw ew t n && broad sw c 1) (leb d 1) (left (suits sw ew t n && broad sw c 1 && leb d 1) (reset_fits sw ew t r) (left (suits sw ew t n && broad sw c 1 && leb d 1 && reset_fits sw ew t r) (enable_fits sw e) h))))

  low_reset : (t : ℕ) (r : Option RegReset) → reset_fits sw ew t r ≡ true → LowReset r
  low_reset t None h = tt
  low_reset t (Some r) h = leb-true r.active 1 (right (broad sw r.signal 1) (leb r.active 1) (left (broad sw r.signal 1 && leb r.active 1) (suits sw ew t r.value) h))

  low_enable : (e : Option RegEnable) → enable_fits sw e ≡ true → LowEnable e
  low_enable None h = tt
  low_enable (Some e) h = leb-true e.active 1 (right (broad sw e.signal 1) (leb e.active 1) h)

  pub only_statement : (t : Stmt) → Mem t M.stmts → count_of (on (target t)) M.stmts ≤ 1
  only_statement t m = one_each widest M sound (target t) (stmt_inside t m)

-- THE LEVEL OF A CONTROL

level_same : (σ : Signals) (s active : ℕ) → active ≤ 1 → asserted σ s active ≡ asserts σ s active
level_same σ s active h = go (lowest (σ s)) active h
  where
    go : (b : Bool) (a : ℕ) → a ≤ 1 → eqb (digit b) a ≡ same b (eqb a 1)
    go true zero h = refl
    go true (suc zero) h = refl
    go true (suc (suc a)) h = absurd (omega (arith, h))
    go false zero h = refl
    go false (suc zero) h = refl
    go false (suc (suc a)) h = absurd (omega (arith, h))

enabled_same : (σ : Signals) (e : Option RegEnable) → LowEnable e → enabled σ e ≡ enable_now σ e
enabled_same σ None h = refl
enabled_same σ (Some e) h = level_same σ e.signal e.active h

-- what a register becomes
becomes : (Ω : Values) (f : Firing) (σ : Signals) (n c d : ℕ) (r : Option RegReset) (e : Option RegEnable) (old : Bits) → LowReset r → LowEnable e
    → become Ω (or_else (reset_loads σ r) (only (f c d && enabled σ e) (Some n))) old ≡ pick (reset_now σ r) (reset_bits Ω r) (pick (f c d && enable_now σ e) (value_of Ω n) old)
becomes Ω f σ n c d r e old hr he = reset r hr
  where
    next : (t : Bool) → become Ω (only t (Some n)) old ≡ pick t (value_of Ω n) old
    next true = refl
    next false = refl

    clocked : become Ω (only (f c d && enabled σ e) (Some n)) old ≡ pick (f c d && enable_now σ e) (value_of Ω n) old
    clocked = next (f c d && enabled σ e) ∙ ap (λ (t : Bool). pick (f c d && t) (value_of Ω n) old) (enabled_same σ e he)

    when : (t : Bool) (v : ℕ) → become Ω (or_else (only t (Some v)) (only (f c d && enabled σ e) (Some n))) old ≡ pick t (value_of Ω v) (pick (f c d && enable_now σ e) (value_of Ω n) old)
    when true v = refl
    when false v = clocked

    reset : (r : Option RegReset) → LowReset r → become Ω (or_else (reset_loads σ r) (only (f c d && enabled σ e) (Some n))) old ≡ pick (reset_now σ r) (reset_bits Ω r) (pick (f c d && enable_now σ e) (value_of Ω n) old)
    reset None h = clocked
    reset (Some q) h = when (asserted σ q.signal q.active) q.value ∙ ap (λ (t : Bool). pick t (value_of Ω q.value) (pick (f c d && enable_now σ e) (value_of Ω n) old)) (level_same σ q.signal q.active h)

-- ALL STATEMENTS HOLD

module _ {widest : ℕ} {M : Model} (sound : Sound widest M) (k : Settling M) where
  abbrev σ : Signals
  σ = at [] k.state

  abbrev Ω : Values
  Ω = eval_all (at [] k.state) [] M.exprs

  commit_at : (s : ℕ) → s < length M.signals → at [] (commit M k.fires k.state) s ≡ become Ω (given (loads k.fires σ) M.stmts s) (σ s)
  unfolding commit
  commit_at s h =
      get_d_tab (λ i. become Ω (given (loads k.fires σ) M.stmts i) (get_or k.state i [])) [] 0 (length M.signals) s h
      ∙ ap (λ (i : ℕ). become Ω (given (loads k.fires σ) M.stmts i) (get_or k.state i [])) (zero-add s)

  holds : (t : Stmt) → Mem t M.stmts → Holds (tick_of M k) Ω t
  holds (assign s e) m = sym (ap (λ (o : Option ℕ). become Ω o (get_or k.old s [])) (sym (given_one assigns M.stmts (assign s e) m (only_statement sound (assign s e) m))) ∙ k.settled s (stmt_inside sound (assign s e) m))
  holds (reg s n c d r e) m =
      let h = fits_stmt sound (reg s n c d r e) m in
      let here_fits = left (suits (sw sound) (ew sound) s n && broad (sw sound) c 1 && leb d 1 && reset_fits (sw sound) (ew sound) s r) (enable_fits (sw sound) e) h in
      let lr = low_reset sound s r (right (suits (sw sound) (ew sound) s n && broad (sw sound) c 1 && leb d 1) (reset_fits (sw sound) (ew sound) s r) here_fits) in
      let le = low_enable sound e (right (suits (sw sound) (ew sound) s n && broad (sw sound) c 1 && leb d 1 && reset_fits (sw sound) (ew sound) s r) (enable_fits (sw sound) e) h) in (
        commit_at s (stmt_inside sound (reg s n c d r e) m)
            ∙ ap (λ (o : Option ℕ). become Ω o (σ s)) (given_one (loads k.fires σ) M.stmts (reg s n c d r e) m (only_statement sound (reg s n c d r e) m))
            ∙ becomes Ω k.fires σ n c d r e (σ s) lr le,
        record { statement = reg s n c d r e; one_of = m; register = refl },
      )

  all_from : (ts : List Stmt) → ((t : Stmt) → Mem t ts → Mem t M.stmts) → AllHold (tick_of M k) Ω ts
  all_from [] f = tt
  all_from (t ∷ ts) f = (holds t (f t (here refl)), all_from ts (λ x q. f x (there q)))

  pub all_hold : AllHold (tick_of M k) Ω M.stmts
  all_hold = all_from M.stmts (λ t m. m)

  -- a signal without a statement keeps its bits in a commit
  pub commit_keeps : (s : ℕ) → s < length M.signals → drivers M s ≡ 0 → at [] (commit M k.fires k.state) s ≡ σ s
  commit_keeps s h e = commit_at s h ∙ ap (λ (o : Option ℕ). become Ω o (σ s)) (given_none (loads k.fires σ) M.stmts s e)

  -- and in settling, where no assignment stands on it
  pub settle_keeps : (s : ℕ) → s < length M.signals → given assigns M.stmts s ≡ None → σ s ≡ at [] k.old s
  settle_keeps s h e = sym (k.settled s h) ∙ ap (λ (o : Option ℕ). become Ω o (get_or k.old s [])) e

-- a register is not assigned
pub register_free : {widest : ℕ} {M : Model} → Sound widest M → (t : Stmt) (s : ℕ) → Mem t M.stmts → IsReg t s → (given assigns M.stmts s ≡ None) × (s < length M.signals) × (1 ≤ drivers M s)
register_free sound (assign u e) s m h = absurd h
register_free {M = M} sound (reg u n c d r e) s m h =
    subst (λ (i : ℕ). (given assigns M.stmts i ≡ None) × (i < length M.signals) × (1 ≤ drivers M i)) h
    (given_one assigns M.stmts (reg u n c d r e) m (only_statement sound (reg u n c d r e) m), stmt_inside sound (reg u n c d r e) m, stands_on M.stmts (reg u n c d r e) m)
