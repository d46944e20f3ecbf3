-- Banks of flip-flops, in a tick: each bit takes what the tick rule gives for its flip-flop.
-- Assumes nothing.
use mathlib.Core.Path.{◌≡◌, refl, ap, ap₂, sym, ◌∙◌, subst}
use mathlib.Core.Bool.{Bool, true, false, ◌&&◌}
use mathlib.Core.List.{List, [], ◌∷◌, ◌++◌, append-nil, append_assoc}
use Rattle.std.specs.Prelude.{Option, None, Some}
use Prim.Native.Nat.{ℕ, ◌<◌}
use native.Mathlib.Omega.{arith}
use lib.Dec.{eqb}
use borrow.Author.Tests.{eqb-true, eqb-false, eq-eqb, ne_eqb}
use Rattle.bits.specs.Bits.{pick, Bits}
use Rattle.netlist.specs.declared.Control.{Control}
use Rattle.netlist.specs.declared.Reset.{Reset}
use Rattle.netlist.specs.Netlist.{FlipFlop}
use Rattle.recorder.specs.Record.{Expr.mux, Stmt.reg, RegReset}
use Rattle.recorder.specs.Writer.{pure, emit, ◌>>=◌}
use Rattle.recorder.specs.Evaluate.{Signals, Values}
use Rattle.recorder.specs.Meaning.{Is, Keeps, Base, Makes, Means}
use Rattle.recorder.proofs.Makes.{base_keeps, makes_pure, makes_refuse, makes_bind, makes_so, means_emit}
use Rattle.optimize.proofs.Muxes.{means_as, mux_value}
use Rattle.behaviour.specs.Banks.{Member, Bank, async_reset}
use Rattle.behaviour.specs.Behaviour.{asserted, enabled, resetting, reset_value, loaded_flop}
use Rattle.wires.specs.declared.Constants.{Constants}
use Rattle.wires.specs.Wires.{WireRef, Wires}
use Rattle.wires.specs.Expressions.{ref_of, wire_ref, asserted_expression}
use Rattle.lowering.specs.Emit.{with_enable, reset_bit, with_reset, next_bit, next_bits, reset_bits, bank_reset, emit_flip_flop_bank}
use Rattle.meaning.specs.Held.{ref_bit, held}
use Rattle.meaning.specs.Settles.{Tick, asserts, RegOn, Holds, Settles}
use Rattle.meaning.proofs.Settling.{settles_makes, settles_gets, settles_state, settles_bind, settles_pure}
use Rattle.meaning.proofs.BitReads.{bit_means, asserted_means, ref_gets, IsSignal, signal_gets, Parts, parts_keep, parts_cons, concat_means}
use Rattle.meaning.proofs.Equations.{Bases, bases_keep}

-- ONE FLIP-FLOP

-- a reset is synchronous or not
abbrev pub PlainReset : Option Reset → Type 0
PlainReset None = Unit {0}
PlainReset (Some r) = r.asynchronous < 2

pick_bit : (b x y : Bool) → pick b (x ∷ []) (y ∷ []) ≡ pick b x y ∷ []
pick_bit true x y = refl
pick_bit false x y = refl

reset_is : {env : Values} → Base env → (o : Option Reset) → Is env (reset_bit o) (reset_value o ∷ [])
reset_is base None = base.zero_is
reset_is {env} base (Some r) = go (eqb r.value 1)
  where
    go : (b : Bool) → Is env (pick b 1 0) (b ∷ [])
    go true = base.one_is
    go false = base.zero_is

module _ (σ : Signals) (m : Wires) where
  ref_makes : (w : ℕ) {env : Values} → Makes σ env (wire_ref m w) (λ r env'. m w ≡ Some r)
  unfolding wire_ref
  ref_makes w {env} = go (m w) refl
    where
      go : (o : Option WireRef) → m w ≡ o → Makes σ env (ref_of o w) (λ r env'. m w ≡ Some r)
      go None q = makes_refuse
      go (Some r) q = makes_pure q

  enable_means : (output : ℕ) (o : Option Control) {next : ℕ} {d : Bool} {env : Values} → Base env → Is env next (d ∷ []) → Means σ env (with_enable m output o next) (pick (enabled (held σ m) o) d (held σ m output) ∷ [])
  enable_means output None base i = makes_pure i
  enable_means output (Some c) {d = d} base i =
      makes_bind (ref_makes output) (λ r env₁ k₁ q.
      makes_bind (means_emit {v = ref_bit σ (m output) ∷ []} (ap (λ (o : Option WireRef). ref_bit σ o ∷ []) (sym q))) (λ x env₂ k₂ hx.
      makes_bind (asserted_means m (base_keeps k₂ (base_keeps k₁ base)) c) (λ y env₃ k₃ hy.
      means_as (pick_bit (enabled (held σ m) (Some c)) d (ref_bit σ (m output))) (mux_value σ hy (k₃ _ _ (k₂ _ _ (k₁ _ _ i))) (k₃ _ _ hx)))))

  reset_means : (o : Option Reset) {next : ℕ} {d : Bool} {env : Values} → PlainReset o → Base env → Is env next (d ∷ []) → Means σ env (with_reset m o next) (pick (resetting (held σ m) 0 o) (reset_value o) d ∷ [])
  reset_means None p base i = makes_pure i
  reset_means (Some r) {next} {d} {env} p base i = go (eqb r.asynchronous 1) refl
    where
      c : Control
      c = record { signal = r.signal; active = r.active }

      yes_async : eqb r.asynchronous 1 ≡ true → d ≡ pick (resetting (held σ m) 0 (Some r)) (reset_value (Some r)) d
      yes_async e = ap (λ (b : Bool). pick (b && asserted (held σ m) r.signal r.active) (reset_value (Some r)) d) (sym (ne_eqb r.asynchronous 0 (omega (arith, eqb-true r.asynchronous 1 e))))

      no_async : eqb r.asynchronous 1 ≡ false → pick (asserted (held σ m) r.signal r.active) (reset_value (Some r)) d ≡ pick (resetting (held σ m) 0 (Some r)) (reset_value (Some r)) d
      no_async e =
          let z : r.asynchronous ≡ 0 = omega (arith, eqb-false r.asynchronous 1 e, p) in
          ap (λ (b : Bool). pick (b && asserted (held σ m) r.signal r.active) (reset_value (Some r)) d) (sym (eq-eqb r.asynchronous 0 z))

      go : (b : Bool) → eqb r.asynchronous 1 ≡ b → Means σ env (pick b (pure next) (asserted_expression m c >>= λ y. emit (mux 1 y (reset_bit (Some r)) next))) (pick (resetting (held σ m) 0 (Some r)) (reset_value (Some r)) d ∷ [])
      go true e = means_as (ap (λ (x : Bool). x ∷ []) (yes_async e)) (makes_pure i)
      go false e = makes_bind (asserted_means m base c) (λ y env₁ k hy.
          means_as (pick_bit (asserted (held σ m) r.signal r.active) (reset_value (Some r)) d ∙ ap (λ (x : Bool). x ∷ []) (no_async e)) (mux_value σ hy (reset_is (base_keeps k base) (Some r)) (k _ _ i)))

  -- what the fired clock loads, by the tick rule
  pub next_means : (f : FlipFlop) {env : Values} → PlainReset f.reset → Base env → Means σ env (next_bit m f) (loaded_flop (held σ m) f (held σ m f.output) ∷ [])
  unfolding next_bit
  next_means f p base =
      makes_bind (bit_means m base f.input) (λ d env₁ k₁ hd.
      makes_bind (enable_means f.output f.enable (base_keeps k₁ base) hd) (λ e env₂ k₂ he.
      reset_means f.reset p (base_keeps k₂ (base_keeps k₁ base)) he))

-- A BANK

abbrev pub loaded_all : Signals → Wires → List Member → Bits
loaded_all σ m [] = []
loaded_all σ m (f ∷ fs) = loaded_flop (held σ m) f.flop (held σ m f.flop.output) ∷ loaded_all σ m fs

abbrev pub reset_values : List Member → Bits
reset_values [] = []
reset_values (f ∷ fs) = reset_value f.flop.reset ∷ reset_values fs

abbrev pub PlainResets : List Member → Type 0
PlainResets [] = Unit {0}
PlainResets (f ∷ fs) = PlainReset f.flop.reset × PlainResets fs

nexts_make : (σ : Signals) (m : Wires) (fs : List Member) (ps : List ℕ) (v : Bits) {env : Values} → PlainResets fs → Base env → Parts env ps v → Makes σ env (next_bits m fs ps) (λ qs env'. Parts env' qs (v ++ loaded_all σ m fs))
unfolding next_bits
nexts_make σ m [] ps v plain base h = makes_pure (subst (Parts _ ps) (sym (append-nil v)) h)
nexts_make σ m (f ∷ fs) ps v plain base h =
    let x = loaded_flop (held σ m) f.flop (held σ m f.flop.output) in
    makes_bind (next_means σ m f.flop plain.0 base) (λ e env₁ k i.
    makes_so (nexts_make σ m fs (e ∷ ps) (v ++ (x ∷ [])) plain.1 (base_keeps k base) (parts_cons (parts_keep k h) i)) (λ qs env₂ k₂ g.
    subst (Parts env₂ qs) (append_assoc v (x ∷ []) (loaded_all σ m fs)) g))

reset_parts : (env : Values) → Base env → (fs : List Member) (ps : List ℕ) (v : Bits) → Parts env ps v → Parts env (reset_bits fs ps) (v ++ reset_values fs)
unfolding reset_bits
reset_parts env base [] ps v h = subst (Parts env ps) (sym (append-nil v)) h
reset_parts env base (f ∷ fs) ps v h =
    subst (Parts env (reset_bits fs (reset_bit f.flop.reset ∷ ps))) (append_assoc v (reset_value f.flop.reset ∷ []) (reset_values fs))
    (reset_parts env base fs (reset_bit f.flop.reset ∷ ps) (v ++ (reset_value f.flop.reset ∷ [])) (parts_cons h (reset_is base f.flop.reset)))

-- the asynchronous reset of a bank, as recorded
abbrev RecordedReset : Wires → Constants → Option Reset → Option RegReset → Type 0
RecordedReset m z None r = r ≡ None
RecordedReset m z (Some q) r = (s : ℕ) × (e : ℕ) × IsSignal m z q.signal s × (r ≡ Some (record { signal = s; active = q.active; value = e }))

abbrev LoadsValues : Values → Option RegReset → Bits → Type 0
LoadsValues env None v = Unit {0}
LoadsValues env (Some r) v = Is env r.value v

keep_loads : {env env' : Values} → Keeps env env' → (r : Option RegReset) (v : Bits) → LoadsValues env r v → LoadsValues env' r v
keep_loads k None v h = tt
keep_loads k (Some r) v h = k _ _ h

-- whether the asynchronous reset is asserted
abbrev pub ResetNow : Signals → Wires → Constants → Option Reset → Bool → Type 0
ResetNow σ m z None b = b ≡ false
ResetNow σ m z (Some q) b = (s : ℕ) × IsSignal m z q.signal s × (b ≡ asserts σ s q.active)

-- a bank in a tick
pub record Banked (κ : Tick) (m : Wires) (z : Constants) (b : Bank) : Type 0 where
  pub target : WireRef
  pub target_is : m b.leader.flop.output ≡ Some target
  pub clock : ℕ
  pub clock_is : IsSignal m z b.leader.flop.clock clock
  pub resets : Bool
  pub resets_is : ResetNow κ.before m z (async_reset b.leader.flop) resets
  pub registered : RegOn κ target.signal
  pub taken : κ.next target.signal
      ≡ pick resets (reset_values b.members) (pick (κ.fires clock b.leader.flop.edge) (loaded_all κ.before m b.members) (κ.before target.signal))

pub and_yes : (b : Bool) → b && true ≡ b
and_yes true = refl
and_yes false = refl

module _ (κ : Tick) (Ω : Values) (m : Wires) (z : Constants) (b : Bank) (t : WireRef) (n clock : ℕ) (target : m b.leader.flop.output ≡ Some t) (hn : Is Ω n (loaded_all κ.before m b.members))
    (hc : IsSignal m z b.leader.flop.clock clock) where
  commit : (o : Option Reset) → async_reset b.leader.flop ≡ o → (r : Option RegReset) → RecordedReset m z o r → LoadsValues Ω r (reset_values b.members) → Holds κ Ω (reg t.signal n clock b.leader.flop.edge r None) → Banked κ m z b
  commit None q r hr hv h = record {
    target = t;
    target_is = target;
    clock = clock;
    clock_is = hc;
    resets = false;
    resets_is = subst (λ (o : Option Reset). ResetNow κ.before m z o false) (sym q) refl;
    registered = h.1;
    taken = (subst (λ (x : Option RegReset). Holds κ Ω (reg t.signal n clock b.leader.flop.edge x None)) hr h).0
        ∙ ap₂ (λ (x : Bool) (y : Bits). pick x y (κ.before t.signal)) (and_yes (κ.fires clock b.leader.flop.edge)) hn.value;
  }
  commit (Some w) q r hr hv h = record {
    target = t;
    target_is = target;
    clock = clock;
    clock_is = hc;
    resets = asserts κ.before hr.0 w.active;
    resets_is = subst (λ (o : Option Reset). ResetNow κ.before m z o (asserts κ.before hr.0 w.active)) (sym q) (hr.0, hr.2, refl);
    registered = h.1;
    taken = (subst (λ (x : Option RegReset). Holds κ Ω (reg t.signal n clock b.leader.flop.edge x None)) hr.3 h).0
        ∙ ap₂ (λ (x : Bits) (y : Bits). pick (asserts κ.before hr.0 w.active) x y) (subst (λ (x : Option RegReset). LoadsValues Ω x (reset_values b.members)) hr.3 hv).value
        (ap₂ (λ (x : Bool) (y : Bits). pick x y (κ.before t.signal)) (and_yes (κ.fires clock b.leader.flop.edge)) hn.value);
  }

module _ {K : Type 0} (κ : K → Tick) (Ω : K → Values) (m : Wires) (z : Constants) where
  bank_reset_lem : (o : Option Reset) (fs : List Member) {env : K → Values} → Bases env → Settles κ Ω env (bank_reset m z o fs) (λ r env'. RecordedReset m z o r × ((k : K) → LoadsValues (env' k) r (reset_values fs)))
  bank_reset_lem None fs base = settles_pure (refl, λ k. tt)
  bank_reset_lem (Some q) fs {env} base =
      settles_bind (settles_makes (λ k. concat_means (reset_bits fs []) (reset_parts (env k) (base k) fs [] [] (record { there = tt; value = refl })))) (λ v env₁ k₁ hv.
      settles_bind (settles_gets (signal_gets m z q.signal)) (λ s env₂ k₂ hs.
      settles_pure ((s, v, hs, refl), λ k. k₂ k _ _ (hv k))))

  pub bank_equation : (b : Bank) {env : K → Values} → PlainResets b.members → Bases env → Settles κ Ω env (emit_flip_flop_bank m z b) (λ u env'. (k : K) → Banked (κ k) m z b)
  unfolding emit_flip_flop_bank
  bank_equation b plain base =
      settles_bind (settles_gets (ref_gets m b.leader.flop.output)) (λ t env₁ k₁ ht.
      settles_bind (settles_makes (λ k. nexts_make (κ k).before m b.members [] [] plain (base_keeps (k₁ k) (base k)) (record { there = tt; value = refl }))) (λ ps env₂ k₂ hp.
      settles_bind (settles_makes (λ k. concat_means ps (hp k))) (λ n env₃ k₃ hn.
      settles_bind (bank_reset_lem (async_reset b.leader.flop) b.members (bases_keep k₃ (bases_keep k₂ (bases_keep k₁ base)))) (λ r env₄ k₄ hr.
      settles_bind (settles_gets (signal_gets m z b.leader.flop.clock)) (λ c env₅ k₅ hc.
      settles_state (λ kp h k.
      commit (κ k) (Ω k) m z b t n c ht (kp k _ _ (k₅ k _ _ (k₄ k _ _ (hn k)))) hc (async_reset b.leader.flop) refl r hr.0
      (keep_loads (kp k) r (reset_values b.members) (keep_loads (k₅ k) r (reset_values b.members) (hr.1 k))) (h k)))))))
