-- The small cells and the banks of flip-flops make good records.
-- Assumes nothing.
use mathlib.Core.Path.{◌≡◌, refl, ap, sym, subst}
use mathlib.Core.Logic.{◌⊎◌, inl, inr}
use mathlib.Core.Bool.{Bool, true, false, ◌&&◌, ◌||◌, false≢true}
use mathlib.Core.List.Memᴰ.{append_cases}
use mathlib.Core.List.Memᴰ.{append_left as mem-left}
use mathlib.Core.List.Memᴰ.{append_right as mem-right}
use mathlib.Core.List.Memᴰ.{cases_cons}
use mathlib.Core.List.Memᴰ.{head as here}
use mathlib.Core.List.Memᴰ.{not-nil}
use mathlib.Core.List.Memᴰ.{tail as there}
use mathlib.Core.List.{List, [], ◌∷◌, ◌++◌, Memᴰ as Mem}
use Rattle.std.specs.Prelude.{Option, None, Some}
use Prim.Native.Nat.{ℕ, zero, suc, ◌+◌, ◌≤◌, ◌<◌}
use native.Mathlib.Omega.{arith}
use lib.Dec.{eqb}
use lib.Bits.{bit_xor}
use lib.ListN.{length, get_or, take, drop, length-append}
use borrow.Author.Tests.{eqb-true}
use Rattle.bits.specs.Bits.{pick}
use Rattle.netlist.specs.declared.Bit.{Bit}
use Rattle.netlist.specs.declared.Bit.TheVariants.{Zero, One, Wire}
use Rattle.netlist.specs.declared.Control.{Control}
use Rattle.netlist.specs.declared.Reset.{Reset}
use Rattle.netlist.specs.Netlist.{Ccu2c, FlipFlop, Pll}
use Rattle.recorder.specs.Record.{RegReset}
use Rattle.recorder.specs.Writer.{Writer, pure, ◌>>=◌}
use Rattle.optimize.specs.declared.optimizer.Rewrite.{Rewrite}
use Rattle.optimize.specs.Rewrite.{emit_rewrite, xor_of, mux_of}
use Rattle.optimize.specs.Lut.{low_of, high_of, full_table, join_cofactors, lut_cofactor}
use Rattle.optimize.proofs.Muxes.{by_test}
use Rattle.behaviour.specs.Banks.{Member, Bank, async_reset}
use Rattle.behaviour.specs.Behaviour.{wires_of}
use Rattle.wires.specs.declared.Constants.{Constants}
use Rattle.wires.specs.Wires.{WireRef, Wires}
use Rattle.wires.specs.Seen.{Seen, nothing_seen, standing, Reading, keeping, forgetting}
use Rattle.wires.specs.Expressions.{ref_of, wire_ref, read_ref, bit_expression, whole, bit_signal, asserted_expression, read_once, bit_once, asserted_once, concat_parts, vector_parts, vector_once, vector_expression, read_bits, assign_wire}
use Rattle.cells.specs.Cells.{emit_multiplier, emit_lut4, emit_pfumx, emit_l6mux21, emit_io, ccu_row, emit_ccu2c, assign_all, emit_idle_jtagg, pll_clocks, emit_cycle_pll}
use Rattle.lowering.specs.Emit.{with_enable, reset_bit, with_reset, next_bit, next_bits, reset_bits, bank_reset, emit_flip_flop_bank}
use Rattle.meaning.proofs.Standing.{AllStand, none_stand, nothing_stands, noted_stand}
use Rattle.forms.specs.Typed.{Context, At, Sig, Exp, Parts, no_part, part, Grows, Wide, Fit, NoSignal, Any, Wired, Based, GoodReset}
use Rattle.forms.specs.Suits.{From, WideAs, Suits, AllSuit}
use Rattle.forms.proofs.Fits.{grow_exp, exp_so, grow_sig, grow_parts, parts_snoc, fit_pure, fit_refuse, fit_state, fit_bind, fit_so, emit_read, emit_concat, emit_not, emit_and, emit_or, emit_xor, emit_mux, emit_mul}

-- BITS OF A LIST

wires_append : (a b : List Bit) → wires_of (a ++ b) ≡ wires_of a ++ wires_of b
wires_append [] b = refl
wires_append (Zero ∷ a) b = wires_append a b
wires_append (One ∷ a) b = wires_append a b
wires_append (Wire w ∷ a) b = ap (λ (l : List ℕ). w ∷ l) (wires_append a b)

module _ {m : Wires} {y : ℕ} where
  pub from_left : {a : List Bit} (b : List Bit) → From m a y → From m (a ++ b) y
  from_left {a} b f = record { wire = f.wire; one_of = subst (λ (l : List ℕ). Mem f.wire l) (sym (wires_append a b)) (mem-left (wires_of b) f.one_of); ref = f.ref; is = f.is; signal = f.signal }

  pub from_right : (a : List Bit) {b : List Bit} → From m b y → From m (a ++ b) y
  from_right a {b} f = record { wire = f.wire; one_of = subst (λ (l : List ℕ). Mem f.wire l) (sym (wires_append a b)) (mem-right (wires_of a) f.one_of); ref = f.ref; is = f.is; signal = f.signal }

  -- past the end stands Zero, which is no wire
  from_at : (bits : List Bit) (i : ℕ) → From m (get_or bits i Zero ∷ []) y → From m bits y
  from_at [] i f = absurd (not-nil f.one_of)
  from_at (b ∷ bits) zero f = from_left bits f
  from_at (b ∷ bits) (suc i) f = from_right (b ∷ []) (from_at bits i f)

-- what an emitter may rely on; signals from number `words` on are those of RAM words
pub record Ready (words : ℕ) (c : Context) (m : Wires) : Type 0 where
  pub wired : Wired c m
  pub based : Based c
  pub many : words ≤ length c.signals
  pub under : (w : ℕ) (r : WireRef) → m w ≡ Some r → r.signal < words

pub grow_based : {c c' : Context} → Grows c c' → Based c → Based c'
grow_based g b = record { zero_is = grow_exp g b.zero_is; one_is = grow_exp g b.one_is }

pub grow_ready : {words : ℕ} {c c' : Context} {m : Wires} → Grows c c' → Ready words c m → Ready words c' m
grow_ready g r = record { wired = λ w x q. (grow_sig g (r.wired w x q).0, (r.wired w x q).1); based = grow_based g r.based; many = omega (arith, r.many, g.many); under = r.under }

-- what the cell has read: each expression reads its own wire
pub record Stood (c : Context) (m : Wires) (seen : Seen) : Type 0 where
  pub all : AllStand (λ (w e : ℕ). Exp c e 1 (From m (Wire w ∷ []))) seen

pub grow_stood : {c c' : Context} {m : Wires} {seen : Seen} → Grows c c' → Stood c m seen → Stood c' m seen
grow_stood g h = record { all = λ w e q. grow_exp g (h.all w e q) }

pub stood_nothing : (c : Context) (m : Wires) (wires : ℕ) → Stood c m (nothing_seen wires)
stood_nothing c m wires = record { all = nothing_stands (λ (w e : ℕ). Exp c e 1 (From m (Wire w ∷ []))) wires }

pub zero_exp : {c : Context} {S : ℕ → Type 0} → Based c → Exp c 0 1 S
zero_exp b = exp_so (λ y h. absurd h) b.zero_is

pub one_exp : {c : Context} {S : ℕ → Type 0} → Based c → Exp c 1 1 S
one_exp b = exp_so (λ y h. absurd h) b.one_is

pub one_wide : {widest : ℕ} → 36 ≤ widest → Wide widest 1
one_wide room = (omega arith, omega (arith, room))

pub small : {widest : ℕ} → 36 ≤ widest → (w : ℕ) → 1 ≤ w → w ≤ 36 → Wide widest w
small room w l h = (l, omega (arith, h, room))

-- READING WIRES

module _ {widest words : ℕ} {D : ℕ → ℕ → Type 0} (room : 36 ≤ widest) (m : Wires) where
  fit_read : {c : Context} {S : ℕ → Type 0} (w : ℕ) (r : WireRef) → (m w ≡ Some r) × Sig c r.signal r.width × (r.lsb < r.width) → ((y : ℕ) → From m (Wire w ∷ []) y → S y) → Fit widest words D c (read_ref r) (λ e c'. Exp c' e 1 S)
  fit_read w r h f = emit_read (one_wide room) h.1 (omega (arith, h.2)) (f r.signal (record { wire = w; one_of = here refl; ref = r; is = h.0; signal = refl }))

module _ {widest words : ℕ} {D : ℕ → ℕ → Type 0} where
  pub fit_concat : {c : Context} {S : ℕ → Type 0} (ps : List ℕ) → Parts c S ps → Wide widest (length ps) → Fit widest words D c (concat_parts ps) (λ e c'. Exp c' e (length ps) S)
  unfolding concat_parts
  fit_concat [] h w = absurd (omega (arith, w.0))
  fit_concat (e ∷ []) (part x h) w = fit_pure x
  fit_concat (e ∷ f ∷ es) h w = emit_concat w refl h

module _ {widest words : ℕ} {D : ℕ → ℕ → Type 0} (room : 36 ≤ widest) (m : Wires) where
  pub fit_ref : {c : Context} → Ready words c m → (w : ℕ) → Fit widest words D c (wire_ref m w) (λ r c'. (m w ≡ Some r) × Sig c' r.signal r.width × (r.lsb < r.width))
  unfolding wire_ref
  fit_ref {c} ready w = go (m w) refl
    where
      go : (o : Option WireRef) → m w ≡ o → Fit widest words D c (ref_of o w) (λ r c'. (m w ≡ Some r) × Sig c' r.signal r.width × (r.lsb < r.width))
      go None q = fit_refuse
      go (Some r) q = fit_pure (q, (ready.wired w r q).0, (ready.wired w r q).1)

  pub fit_bit : {c : Context} {S : ℕ → Type 0} → Ready words c m → (b : Bit) → ((y : ℕ) → From m (b ∷ []) y → S y) → Fit widest words D c (bit_expression m b) (λ e c'. Exp c' e 1 S)
  unfolding bit_expression
  fit_bit ready Zero f = fit_pure (zero_exp ready.based)
  fit_bit ready One f = fit_pure (one_exp ready.based)
  fit_bit ready (Wire w) f = fit_bind (fit_ref ready w) (λ r c₁ g h. fit_read room m w r h f)

  pub fit_signal : {c : Context} {z : Constants} → Ready words c m → Sig c z.zero.0 1 → Sig c z.one.0 1 → (b : Bit) → Fit widest words D c (bit_signal m z b) (λ s c'. Sig c' s 1)
  unfolding bit_signal
  fit_signal ready hz ho Zero = fit_pure hz
  fit_signal ready hz ho One = fit_pure ho
  fit_signal ready hz ho (Wire w) = fit_bind (fit_ref ready w) (λ r c₁ g h.
      by_test (λ (x : Writer ℕ). Fit widest words D c₁ x (λ s c'. Sig c' s 1)) (whole r)
      (λ q. fit_pure (subst (λ (k : ℕ). Sig c₁ r.signal k) (eqb-true r.width 1 (right (eqb r.lsb 0) (eqb r.width 1) q)) h.1)) (λ q. fit_refuse))
    where
      right : (a b : Bool) → a && b ≡ true → b ≡ true
      right true b q = q
      right false b q = absurd (false≢true q)

  pub fit_asserted : {c : Context} {S : ℕ → Type 0} → Ready words c m → (k : Control) → ((y : ℕ) → From m (k.signal ∷ []) y → S y) → Fit widest words D c (asserted_expression m k) (λ e c'. Exp c' e 1 S)
  unfolding asserted_expression
  fit_asserted {S = S} ready k f = fit_bind (fit_bit ready k.signal f) (λ e c₁ g h. by_test (λ (x : Writer ℕ). Fit widest words D c₁ x (λ s c'. Exp c' s 1 S)) (eqb k.active 1) (λ q. fit_pure h) (λ q. emit_not h))

  -- in a cell

  pub fit_once : {c : Context} {S : ℕ → Type 0} {seen : Seen} → Ready words c m → Stood c m seen → (b : Bit) → ((y : ℕ) → From m (b ∷ []) y → S y) → Fit widest words D c (bit_once m seen b) (λ r c'. Exp c' r.value 1 S × Stood c' m r.seen)
  unfolding bit_once
  fit_once ready stood Zero f = fit_pure (zero_exp ready.based, stood)
  fit_once ready stood One f = fit_pure (one_exp ready.based, stood)
  fit_once {c} {S} {seen} ready stood (Wire w) f = go (standing seen w) refl
    where
      go : (o : Option ℕ) → standing seen w ≡ o → Fit widest words D c (read_once o m seen w) (λ r c'. Exp c' r.value 1 S × Stood c' m r.seen)
      go (Some e) q = fit_pure (exp_so f (stood.all w e q), stood)
      go None q =
          fit_bind (fit_bit {S = From m (Wire w ∷ [])} ready (Wire w) (λ y h. h)) (λ e c₁ g h.
          fit_pure (exp_so f h, record { all = noted_stand (λ (v d : ℕ). Exp c₁ d 1 (From m (Wire v ∷ []))) seen w e (grow_stood g stood).all h }))

  -- the last step reads nothing
  pub fit_keeping : {A : Type 0} {c : Context} {w : Writer A} {P : A → Context → Type 0} {seen : Seen} → Stood c m seen → Fit widest words D c w P → Fit widest words D c (keeping seen w) (λ r c'. P r.value c' × Stood c' m r.seen)
  fit_keeping stood h = fit_bind h (λ a c₁ g p. fit_pure (p, grow_stood g stood))

  pub fit_asserted_once : {c : Context} {S : ℕ → Type 0} {seen : Seen} → Ready words c m → Stood c m seen → (k : Control) → ((y : ℕ) → From m (k.signal ∷ []) y → S y) → Fit widest words D c (asserted_once m seen k) (λ r c'. Exp c' r.value 1 S × Stood c' m r.seen)
  unfolding asserted_once
  fit_asserted_once {S = S} ready stood k f =
      fit_bind (fit_once ready stood k.signal f) (λ r c₁ g h. fit_keeping {P = λ e c'. Exp c' e 1 S} h.1 (by_test (λ (x : Writer ℕ). Fit widest words D c₁ x (λ s c'. Exp c' s 1 S)) (eqb k.active 1) (λ q. fit_pure h.0) (λ q. emit_not h.0)))

  fit_parts : {S : ℕ → Type 0} {seen : Seen} (bits : List Bit) (at k : ℕ) (ps : List ℕ) {c : Context} → Ready words c m → Stood c m seen → ((y : ℕ) → From m bits y → S y) → Parts c S ps
      → Fit widest words D c (vector_parts m seen bits at k ps) (λ r c'. (Parts c' S r.value × (length r.value ≡ length ps + k)) × Stood c' m r.seen)
  unfolding vector_parts
  fit_parts bits at zero ps ready stood f h = fit_pure ((h, omega arith), stood)
  fit_parts bits at (suc k) ps ready stood f h =
      fit_bind (fit_once ready stood (get_or bits (at + k) Zero) (λ y q. f y (from_at bits (at + k) q))) (λ r c₁ g x.
      fit_so (fit_parts bits at k (ps ++ (r.value ∷ [])) (grow_ready g ready) x.1 f (parts_snoc (grow_parts g h) x.0)) (λ qs c₂ g₂ p. ((p.0.0, omega (arith, p.0.1, length-append ps (r.value ∷ []))), p.1)))

  pub fit_vector_once : {S : ℕ → Type 0} {seen : Seen} (bits : List Bit) (at k : ℕ) {c : Context} → Ready words c m → Stood c m seen → Wide widest k → ((y : ℕ) → From m bits y → S y) → Fit widest words D c (vector_once m seen bits at k) (λ r c'. Exp c' r.value k S × Stood c' m r.seen)
  unfolding vector_once
  fit_vector_once {S} bits at k {c} ready stood w f =
      fit_bind (fit_parts bits at k [] ready stood f no_part) (λ r c₁ g h.
      fit_keeping {P = λ e c'. Exp c' e k S} h.1
      (subst (λ (j : ℕ). Fit widest words D c₁ (concat_parts r.value) (λ e c'. Exp c' e j S)) (let p : length r.value ≡ k = omega (arith, h.0.1) in p)
      (fit_concat r.value h.0.0 (omega (arith, h.0.1, w.0), omega (arith, h.0.1, w.1)))))

  -- outside of cells
  pub fit_vector : {S : ℕ → Type 0} (bits : List Bit) (at k : ℕ) {c : Context} → Ready words c m → Wide widest k → ((y : ℕ) → From m bits y → S y) → Fit widest words D c (vector_expression m bits at k) (λ e c'. Exp c' e k S)
  unfolding vector_expression
  fit_vector {S} bits at k {c} ready w f = fit_bind (fit_vector_once bits at k ready (record { all = none_stand (λ (v e : ℕ). Exp c e 1 (From m (Wire v ∷ []))) }) w f) (λ r c₁ g h. fit_pure h.0)

  pub fit_reads : {S : ℕ → Type 0} {seen : Seen} (bits : List Bit) (ps : List ℕ) {c : Context} → Ready words c m → Stood c m seen → ((y : ℕ) → From m bits y → S y) → Parts c S ps → Fit widest words D c (read_bits m seen bits ps) (λ r c'. Parts c' S r.value × Stood c' m r.seen)
  unfolding read_bits
  fit_reads [] ps ready stood f h = fit_pure (h, stood)
  fit_reads (b ∷ bs) ps ready stood f h =
      fit_bind (fit_once ready stood b (λ y q. f y (from_left bs q))) (λ r c₁ g x. fit_reads bs (ps ++ (r.value ∷ [])) (grow_ready g ready) x.1 (λ y q. f y (from_right (b ∷ []) q)) (parts_snoc (grow_parts g h) x.0))

  pub fit_assign : {S : ℕ → Type 0} (w : ℕ) {e v : ℕ} {c : Context} → Ready words c m → Suits D words m w v S → Exp c e v S → Fit widest words D c (assign_wire m w e) (λ x c'. Unit {0})
  unfolding assign_wire
  fit_assign w {e} {v} ready s h = fit_bind (fit_ref ready w) (λ r c₁ g x.
      fit_state (v, subst (λ (k : ℕ). Sig c₁ r.signal k) (s.width r x.0) x.1, exp_so (s.may r x.0) (grow_exp g h), ready.under w r x.0))

-- THE REWRITES

module _ {widest words : ℕ} {D : ℕ → ℕ → Type 0} (room : 36 ≤ widest) {c : Context} {S : ℕ → Type 0} where
  pub fit_mux : {s t f : ℕ} → Exp c s 1 S → Exp c t 1 S → Exp c f 1 S → Fit widest words D c (mux_of s t f) (λ e c'. Exp c' e 1 S)
  unfolding mux_of emit_rewrite
  fit_mux {s} {t} {f} hs ht hf =
      by_test R (eqb s 0) (λ q. fit_pure hf) (λ n₁. by_test R (eqb s 1 || eqb t f) (λ q. fit_pure ht) (λ n₂. by_test R (eqb f 0 && eqb t 1) (λ q. fit_pure hs) (λ n₃.
      by_test R (eqb f 1 && eqb t 0) (λ q. emit_not hs) (λ n₄. by_test R (eqb f 0) (λ q. emit_and hs ht) (λ n₅. by_test R (eqb t 1) (λ q. emit_or hs hf) (λ n₆.
      by_test R (eqb t 0) (λ q. fit_bind (emit_not hs) (λ i c₁ g h. emit_and h (grow_exp g hf))) (λ n₇.
      by_test R (eqb f 1) (λ q. fit_bind (emit_not hs) (λ i c₁ g h. emit_or h (grow_exp g ht))) (λ n₈. emit_mux (one_wide room) hs ht hf))))))))
    where
      R : Rewrite → Type 0
      R r = Fit widest words D c (unfold emit_rewrite in emit_rewrite r) (λ e c'. Exp c' e 1 S)

  pub fit_xor : {a b : ℕ} → Based c → Exp c a 1 S → Exp c b 1 S → Fit widest words D c (xor_of a b) (λ e c'. Exp c' e 1 S)
  unfolding xor_of emit_rewrite
  fit_xor {a} {b} based ha hb =
      by_test R (eqb a b) (λ q. fit_pure (zero_exp based)) (λ n₁. by_test R (eqb a 0) (λ q. fit_pure hb) (λ n₂. by_test R (eqb b 0) (λ q. fit_pure ha) (λ n₃.
      by_test R (eqb a 1) (λ q. emit_not hb) (λ n₄. by_test R (eqb b 1) (λ q. emit_not ha) (λ n₅. emit_xor ha hb)))))
    where
      R : Rewrite → Type 0
      R r = Fit widest words D c (unfold emit_rewrite in emit_rewrite r) (λ e c'. Exp c' e 1 S)

module _ {widest words : ℕ} {D : ℕ → ℕ → Type 0} (room : 36 ≤ widest) {S : ℕ → Type 0} where
  pub fit_lut : (xs : List ℕ) (t : ℕ) {c : Context} → Based c → Parts c S xs → Fit widest words D c (lut_cofactor xs t) (λ e c'. Exp c' e 1 S)
  unfolding lut_cofactor join_cofactors
  fit_lut [] t {c} based h = by_test (λ (w : Writer ℕ). Fit widest words D c w (λ e c'. Exp c' e 1 S)) (eqb t 0) (λ q. fit_pure (zero_exp based)) (λ q. fit_pure (one_exp based))
  fit_lut (x ∷ xs) t {c} based (part h₀ h₁) =
      by_test R (eqb t 0) (λ q. fit_pure (zero_exp based)) (λ n₁. by_test R (eqb t (full_table (suc (length xs)))) (λ q. fit_pure (one_exp based)) (λ n₂.
      by_test R (eqb x 0) (λ q. fit_lut xs (low_of t) based h₁) (λ n₃. by_test R (eqb x 1) (λ q. fit_lut xs (high_of t) based h₁) (λ n₄.
      fit_bind (fit_lut xs (low_of t) based h₁) (λ l c₁ g hl.
      by_test (λ (w : Writer ℕ). Fit widest words D c₁ w (λ e c'. Exp c' e 1 S)) (eqb (low_of t) (high_of t)) (λ q. fit_pure hl) (λ n₅.
      by_test (λ (w : Writer ℕ). Fit widest words D c₁ w (λ e c'. Exp c' e 1 S)) (eqb (bit_xor (low_of t) (high_of t)) (full_table (length xs))) (λ q. fit_xor room (grow_based g based) (grow_exp g h₀) hl) (λ n₆.
      fit_bind (fit_lut xs (high_of t) (grow_based g based) (grow_parts g h₁)) (λ k c₂ g₂ hk. fit_mux room (grow_exp g₂ (grow_exp g h₀)) hk (grow_exp g₂ hl)))))))))
    where
      R : Writer ℕ → Type 0
      R w = Fit widest words D c w (λ e c'. Exp c' e 1 S)

-- SMALL CELLS

module _ {m : Wires} where
  first_of : (a b d : Bit) (y : ℕ) → From m (a ∷ []) y → From m (a ∷ b ∷ d ∷ []) y
  first_of a b d y f = from_left (b ∷ d ∷ []) f

  second_of : (a b d : Bit) (y : ℕ) → From m (b ∷ []) y → From m (a ∷ b ∷ d ∷ []) y
  second_of a b d y f = from_right (a ∷ []) (from_left (d ∷ []) f)

  third_of : (a b d : Bit) (y : ℕ) → From m (d ∷ []) y → From m (a ∷ b ∷ d ∷ []) y
  third_of a b d y f = from_right (a ∷ b ∷ []) f

parts_get : {c : Context} {S : ℕ → Type 0} → Based c → (es : List ℕ) (i : ℕ) → Parts c S es → Exp c (get_or es i 0) 1 S
parts_get based [] i h = zero_exp based
parts_get based (e ∷ es) zero (part x h) = x
parts_get based (e ∷ es) (suc i) (part x h) = parts_get based es i h

-- nothing is asked of what a cell hands on
module _ {widest words : ℕ} {D : ℕ → ℕ → Type 0} {A : Type 0} {c : Context} where
  pub fit_last : {w : Writer A} {P : A → Context → Type 0} (seen : Seen) → Fit widest words D c w P → Fit widest words D c (keeping seen w) (λ r c'. Unit {0})
  fit_last seen h = fit_bind h (λ a c₁ g p. fit_pure tt)

  pub fit_forgetting : {w : Writer (Reading A)} {P : Reading A → Context → Type 0} → Fit widest words D c w P → Fit widest words D c (forgetting w) (λ a c'. Unit {0})
  fit_forgetting h = fit_bind h (λ a c₁ g p. fit_pure tt)

module _ {widest words : ℕ} {D : ℕ → ℕ → Type 0} (room : 36 ≤ widest) (m : Wires) {c : Context} (ready : Ready words c m) {seen : Seen} (stood : Stood c m seen) where
  pub fit_multiplier : (lhs rhs : List Bit) (product : List ℕ) → Suits D words m (get_or product 0 0) 36 (From m (lhs ++ rhs)) → Fit widest words D c (emit_multiplier m seen lhs rhs product) (λ x c'. Unit {0})
  unfolding emit_multiplier
  fit_multiplier lhs rhs product s =
      fit_bind (fit_vector_once room m lhs 0 36 ready stood (small room 36 (omega arith) (omega arith)) (λ y q. from_left rhs q)) (λ a c₁ g₁ ha.
      fit_bind (fit_vector_once room m rhs 0 36 (grow_ready g₁ ready) ha.1 (small room 36 (omega arith) (omega arith)) (λ y q. from_right lhs q)) (λ b c₂ g₂ hb.
      fit_bind (emit_mul (grow_exp g₂ ha.0) hb.0) (λ v c₃ g₃ hv.
      fit_last _ (fit_assign room m (get_or product 0 0) (grow_ready g₃ (grow_ready g₂ (grow_ready g₁ ready))) s hv))))

  pub fit_lut4 : (inputs : List Bit) (output init : ℕ) → Suits D words m output 1 (From m inputs) → Fit widest words D c (emit_lut4 m seen inputs output init) (λ x c'. Unit {0})
  unfolding emit_lut4
  fit_lut4 inputs output init s =
      fit_bind (fit_reads room m inputs [] ready stood (λ y q. q) no_part) (λ es c₁ g₁ h.
      fit_bind (fit_lut room es.value init (grow_ready g₁ ready).based h.0) (λ v c₂ g₂ hv.
      fit_last _ (fit_assign room m output (grow_ready g₂ (grow_ready g₁ ready)) s hv)))

  -- three bits, a mux of them in some order, an assignment
  fit_three : {S : ℕ → Type 0} (first second third : Bit) (output : ℕ) (s t f : (a b d : ℕ) → ℕ) → ((y : ℕ) → From m (first ∷ []) y → S y) → ((y : ℕ) → From m (second ∷ []) y → S y) → ((y : ℕ) → From m (third ∷ []) y → S y)
      → ((c₁ : Context) (a b d : ℕ) → Exp c₁ a 1 S → Exp c₁ b 1 S → Exp c₁ d 1 S → Exp c₁ (s a b d) 1 S × Exp c₁ (t a b d) 1 S × Exp c₁ (f a b d) 1 S) → Suits D words m output 1 S
      → Fit widest words D c (bit_once m seen first >>= λ a. bit_once m a.seen second >>= λ b. bit_once m b.seen third >>= λ d. mux_of (s a.value b.value d.value) (t a.value b.value d.value) (f a.value b.value d.value) >>= λ v. keeping d.seen (assign_wire m output v)) (λ x c'. Unit {0})
  fit_three first second third output s t f h₁ h₂ h₃ choose suits =
      fit_bind (fit_once room m ready stood first h₁) (λ a c₁ g₁ ha.
      let r₁ = grow_ready g₁ ready in
      fit_bind (fit_once room m r₁ ha.1 second h₂) (λ b c₂ g₂ hb.
      let r₂ = grow_ready g₂ r₁ in
      fit_bind (fit_once room m r₂ hb.1 third h₃) (λ d c₃ g₃ hd.
      let q = choose c₃ a.value b.value d.value (grow_exp g₃ (grow_exp g₂ ha.0)) (grow_exp g₃ hb.0) hd.0 in
      fit_bind (fit_mux room q.0 q.1 q.2) (λ v c₄ g₄ hv.
      fit_last _ (fit_assign room m output (grow_ready g₄ (grow_ready g₃ r₂)) suits hv)))))

  pub fit_pfumx : (high low select : Bit) (output : ℕ) → Suits D words m output 1 (From m (high ∷ low ∷ select ∷ [])) → Fit widest words D c (emit_pfumx m seen high low select output) (λ x c'. Unit {0})
  unfolding emit_pfumx
  fit_pfumx high low select output s =
      fit_three select high low output (λ a b d. a) (λ a b d. b) (λ a b d. d) (third_of high low select) (first_of high low select) (second_of high low select) (λ c₁ a b d x y z. (x, y, z)) s

  pub fit_l6mux21 : (low high select : Bit) (output : ℕ) → Suits D words m output 1 (From m (low ∷ high ∷ select ∷ [])) → Fit widest words D c (emit_l6mux21 m seen low high select output) (λ x c'. Unit {0})
  unfolding emit_l6mux21
  fit_l6mux21 low high select output s =
      fit_three select low high output (λ a b d. a) (λ a b d. d) (λ a b d. b) (third_of low high select) (first_of low high select) (second_of low high select) (λ c₁ a b d x y z. (x, z, y)) s

  pub fit_io : (pad : ℕ) (driven : Bit) (input : ℕ) (tristate : Bit) → Suits D words m input 1 (From m (Wire pad ∷ driven ∷ tristate ∷ [])) → Fit widest words D c (emit_io m seen pad driven input tristate) (λ x c'. Unit {0})
  unfolding emit_io
  fit_io pad driven input tristate s =
      fit_three (Wire pad) driven tristate input (λ a b d. d) (λ a b d. a) (λ a b d. b) (first_of (Wire pad) driven tristate) (second_of (Wire pad) driven tristate) (third_of (Wire pad) driven tristate) (λ c₁ a b d x y z. (z, x, y)) s

module _ {widest words : ℕ} {D : ℕ → ℕ → Type 0} (room : 36 ≤ widest) (m : Wires) where
  fit_row : {S : ℕ → Type 0} {seen : Seen} (inputs : List Bit) (init inject sum carry : ℕ) {c : Context} → Ready words c m → Stood c m seen → ((y : ℕ) → From m inputs y → S y) → Suits D words m sum 1 S → Exp c carry 1 S
      → Fit widest words D c (ccu_row m seen inputs init inject sum carry) (λ r c'. Exp c' r.value 1 S × Stood c' m r.seen)
  unfolding ccu_row
  fit_row {S} inputs init inject sum carry ready stood f s hc =
      fit_bind (fit_reads room m inputs [] ready stood f no_part) (λ es c₁ g₁ h.
      let r₁ = grow_ready g₁ ready in
      fit_bind (fit_lut room es.value init r₁.based h.0) (λ l c₂ g₂ hl.
      let r₂ = grow_ready g₂ r₁ in
      let h₂ = grow_parts g₂ h.0 in
      fit_bind (fit_lut room (get_or es.value 0 0 ∷ get_or es.value 1 0 ∷ 0 ∷ 0 ∷ []) init r₂.based (part (parts_get r₂.based es.value 0 h₂) (part (parts_get r₂.based es.value 1 h₂) (part (zero_exp r₂.based) (part (zero_exp r₂.based) no_part))))) (λ k c₃ g₃ hk.
      let r₃ = grow_ready g₃ r₂ in
      let gated : Exp c₃ (pick (eqb inject 1) 0 carry) 1 S = by_test (λ (e : ℕ). Exp c₃ e 1 S) (eqb inject 1) (λ q. zero_exp r₃.based) (λ q. grow_exp g₃ (grow_exp g₂ (grow_exp g₁ hc))) in
      fit_bind (fit_xor room r₃.based (grow_exp g₃ hl) gated) (λ x c₄ g₄ hx.
      fit_bind (fit_assign room m sum (grow_ready g₄ r₃) s hx) (λ u c₅ g₅ v.
      fit_keeping room m {P = λ e c'. Exp c' e 1 S} (grow_stood g₅ (grow_stood g₄ (grow_stood g₃ (grow_stood g₂ h.1))))
      (fit_mux room (grow_exp g₅ (grow_exp g₄ (grow_exp g₃ hl))) (grow_exp g₅ (grow_exp g₄ gated)) (grow_exp g₅ (grow_exp g₄ hk))))))))

  pub fit_ccu2c : (u : Ccu2c) {c : Context} → Ready words c m → {seen : Seen} → Stood c m seen → AllSuit D words m (u.sum0 ∷ u.sum1 ∷ u.carry ∷ []) (From m (u.row0 ++ (u.row1 ++ (u.carry_in ∷ []))))
      → Fit widest words D c (emit_ccu2c m seen u) (λ x c'. Unit {0})
  unfolding emit_ccu2c
  fit_ccu2c u ready stood s =
      fit_bind (fit_once room m ready stood u.carry_in (λ y q. from_right u.row0 (from_right u.row1 q))) (λ e₀ c₁ g₁ h₀.
      fit_bind (fit_row u.row0 u.init0 u.inject0 u.sum0 e₀.value (grow_ready g₁ ready) h₀.1 (λ y q. from_left (u.row1 ++ (u.carry_in ∷ [])) q) s.0 h₀.0) (λ e₁ c₂ g₂ h₁.
      fit_bind (fit_row u.row1 u.init1 u.inject1 u.sum1 e₁.value (grow_ready g₂ (grow_ready g₁ ready)) h₁.1 (λ y q. from_right u.row0 (from_left (u.carry_in ∷ []) q)) s.1.0 h₁.0) (λ e₂ c₃ g₃ h₂.
      fit_last _ (fit_assign room m u.carry (grow_ready g₃ (grow_ready g₂ (grow_ready g₁ ready))) s.1.1.0 h₂.0))))

  fit_all : {S : ℕ → Type 0} (ws : List ℕ) {e : ℕ} {c : Context} → Ready words c m → ((w : ℕ) → Mem w ws → Suits D words m w 1 S) → Exp c e 1 S → Fit widest words D c (assign_all m ws e) (λ x c'. Unit {0})
  unfolding assign_all
  fit_all [] ready s h = fit_pure tt
  fit_all (w ∷ ws) ready s h = fit_bind (fit_assign room m w ready (s w (here refl)) h) (λ x c₁ g u. fit_all ws (grow_ready g ready) (λ v q. s v (there q)) (grow_exp g h))

  pub fit_jtagg : (ws : List ℕ) {c : Context} → Ready words c m → length ws ≡ 9 → ((w : ℕ) → Mem w ws → Suits D words m w 1 NoSignal) → Fit widest words D c (emit_idle_jtagg m ws) (λ x c'. Unit {0})
  unfolding emit_idle_jtagg
  fit_jtagg ws ready l s =
      fit_bind (fit_all (take 6 ws ++ drop 7 ws) ready (λ w q. s w (among w (append_cases (take 6 ws) q))) ready.based.zero_is) (λ x c₁ g u.
      fit_assign room m (get_or ws 6 0) (grow_ready g ready) (s (get_or ws 6 0) (at ws 6 (omega (arith, l)))) (grow_ready g ready).based.one_is)
    where
      taken : (k : ℕ) (xs : List ℕ) (w : ℕ) → Mem w (take k xs) → Mem w xs
      taken zero xs w q = absurd (not-nil q)
      taken (suc k) [] w q = absurd (not-nil q)
      taken (suc k) (x ∷ xs) w q = go (cases_cons q) (taken k xs w)
        where
          go : (w ≡ x) ⊎ Mem w (take k xs) → (Mem w (take k xs) → Mem w xs) → Mem w (x ∷ xs)
          go (inl e) f = here e
          go (inr r) f = there (f r)

      dropped : (k : ℕ) (xs : List ℕ) (w : ℕ) → Mem w (drop k xs) → Mem w xs
      dropped zero xs w q = q
      dropped (suc k) [] w q = q
      dropped (suc k) (x ∷ xs) w q = there (dropped k xs w q)

      among : (w : ℕ) → Mem w (take 6 ws) ⊎ Mem w (drop 7 ws) → Mem w ws
      among w (inl q) = taken 6 ws w q
      among w (inr q) = dropped 7 ws w q

      at : (xs : List ℕ) (i : ℕ) → i < length xs → Mem (get_or xs i 0) xs
      at [] i h = absurd (omega (arith, h))
      at (x ∷ xs) zero h = here refl
      at (x ∷ xs) (suc i) h = there (at xs i (omega arith))

  fit_unless : {S : ℕ → Type 0} (b : Bool) (w : ℕ) {e : ℕ} {c : Context} → Ready words c m → Suits D words m w 1 S → Exp c e 1 S → Fit widest words D c (pick b (pure tt) (assign_wire m w e)) (λ x c'. Unit {0})
  fit_unless true w ready s h = fit_pure tt
  fit_unless false w ready s h = fit_assign room m w ready s h

  fit_clocks : (S : ℕ → Type 0) (f o : ℕ) (ws : List ℕ) {e : ℕ} {c : Context} → Ready words c m → AllSuit D words m ws S → Exp c e 1 S → Fit widest words D c (pll_clocks m f o ws e) (λ x c'. Unit {0})
  unfolding pll_clocks
  fit_clocks S f o [] ready s h = fit_pure tt
  fit_clocks S f o (w ∷ ws) ready s h = fit_bind (fit_unless (eqb w f || eqb w o) w ready s.0 h) (λ x c₁ g u. fit_clocks S f o ws (grow_ready g ready) s.1 (grow_exp g h))

  pub fit_pll : (p : Pll) {c : Context} → Ready words c m → AllSuit D words m (p.feedback ∷ p.output ∷ p.more) (From m (p.reference ∷ [])) → Suits D words m p.locked 1 NoSignal → Fit widest words D c (emit_cycle_pll m p) (λ x c'. Unit {0})
  unfolding emit_cycle_pll
  fit_pll p ready s l =
      fit_bind (fit_bit room m ready p.reference (λ y q. q)) (λ e c₁ g₁ h.
      let r₁ = grow_ready g₁ ready in
      fit_bind (fit_assign room m p.feedback r₁ s.0 h) (λ x c₂ g₂ u.
      let r₂ = grow_ready g₂ r₁ in
      fit_bind (fit_unless (eqb p.output p.feedback) p.output r₂ s.1.0 (grow_exp g₂ h)) (λ x c₃ g₃ u.
      let r₃ = grow_ready g₃ r₂ in
      fit_bind (fit_clocks (From m (p.reference ∷ [])) p.feedback p.output p.more r₃ s.1.1 (grow_exp g₃ (grow_exp g₂ h))) (λ x c₄ g₄ u.
      fit_assign room m p.locked (grow_ready g₄ r₃) l (grow_ready g₄ r₃).based.one_is))))

-- FLIP-FLOPS

reset_bit_lem : {c : Context} → Based c → (o : Option Reset) → Exp c (reset_bit o) 1 Any
reset_bit_lem based None = zero_exp based
reset_bit_lem {c} based (Some r) = by_test (λ (e : ℕ). Exp c e 1 Any) (eqb r.value 1) (λ q. one_exp based) (λ q. zero_exp based)

reset_bits_lem : {c : Context} → Based c → (fs : List Member) {ps : List ℕ} → Parts c Any ps → Parts c Any (reset_bits fs ps)
unfolding reset_bits
reset_bits_lem based [] h = h
reset_bits_lem based (f ∷ fs) h = reset_bits_lem based fs (part (reset_bit_lem based f.flop.reset) h)

reset_count : (fs : List Member) (ps : List ℕ) → length (reset_bits fs ps) ≡ length fs + length ps
unfolding reset_bits
reset_count [] ps = omega arith
reset_count (f ∷ fs) ps = omega (arith, reset_count fs (reset_bit f.flop.reset ∷ ps))

grow_reset : {c c' : Context} (w : ℕ) → Grows c c' → (o : Option RegReset) → GoodReset c w o → GoodReset c' w o
grow_reset w g None h = tt
grow_reset w g (Some r) h = (grow_sig g h.0, h.1, g.exprs r.value w h.2)

-- the level of an asynchronous reset is 0 or 1
abbrev pub Levelled : Option Reset → Type 0
Levelled None = Unit {0}
Levelled (Some r) = r.active ≤ 1

module _ {widest words : ℕ} {D : ℕ → ℕ → Type 0} (room : 36 ≤ widest) (m : Wires) where
  fit_enable : (output : ℕ) (o : Option Control) {next : ℕ} {c : Context} → Ready words c m → Exp c next 1 Any → Fit widest words D c (with_enable m output o next) (λ e c'. Exp c' e 1 Any)
  fit_enable output None ready h = fit_pure h
  fit_enable output (Some k) ready h =
      fit_bind (fit_ref room m ready output) (λ r c₁ g₁ x.
      fit_bind (fit_read room m {S = Any} output r x (λ y q. tt)) (λ q c₂ g₂ hq.
      fit_bind (fit_asserted room m (grow_ready g₂ (grow_ready g₁ ready)) k (λ y p. tt)) (λ y c₃ g₃ hy.
      emit_mux (one_wide room) hy (grow_exp g₃ (grow_exp g₂ (grow_exp g₁ h))) (grow_exp g₃ hq))))

  fit_reset : (o : Option Reset) {next : ℕ} {c : Context} → Ready words c m → Exp c next 1 Any → Fit widest words D c (with_reset m o next) (λ e c'. Exp c' e 1 Any)
  fit_reset None ready h = fit_pure h
  fit_reset (Some r) {c = c} ready h =
      by_test (λ (w : Writer ℕ). Fit widest words D c w (λ e c'. Exp c' e 1 Any)) (eqb r.asynchronous 1) (λ q. fit_pure h) (λ q.
      fit_bind (fit_asserted room m ready (record { signal = r.signal; active = r.active }) (λ y p. tt)) (λ y c₁ g hy.
      emit_mux (one_wide room) hy (reset_bit_lem (grow_ready g ready).based (Some r)) (grow_exp g h)))

  fit_next : (f : FlipFlop) {c : Context} → Ready words c m → Fit widest words D c (next_bit m f) (λ e c'. Exp c' e 1 Any)
  unfolding next_bit
  fit_next f ready =
      fit_bind (fit_bit room m ready f.input (λ y p. tt)) (λ d c₁ g₁ hd.
      fit_bind (fit_enable f.output f.enable (grow_ready g₁ ready) hd) (λ e c₂ g₂ he.
      fit_reset f.reset (grow_ready g₂ (grow_ready g₁ ready)) he))

  fit_nexts : (fs : List Member) (ps : List ℕ) {c : Context} → Ready words c m → Parts c Any ps → Fit widest words D c (next_bits m fs ps) (λ qs c'. Parts c' Any qs × (length qs ≡ length fs + length ps))
  unfolding next_bits
  fit_nexts [] ps ready h = fit_pure (h, omega arith)
  fit_nexts (f ∷ fs) ps ready h =
      fit_bind (fit_next f.flop ready) (λ e c₁ g he.
      fit_so (fit_nexts fs (e ∷ ps) (grow_ready g ready) (part he (grow_parts g h))) (λ qs c₂ g₂ r. (r.0, omega (arith, r.1))))

  fit_bank_reset : (z : Constants) (o : Option Reset) (fs : List Member) {c : Context} → Ready words c m → Sig c z.zero.0 1 → Sig c z.one.0 1 → Wide widest (length fs) → Levelled o
      → Fit widest words D c (bank_reset m z o fs) (λ r c'. GoodReset c' (length fs) r)
  fit_bank_reset z None fs ready hz ho w l = fit_pure tt
  fit_bank_reset z (Some r) fs {c} ready hz ho w l =
      let k : length (reset_bits fs []) ≡ length fs = omega (arith, reset_count fs []) in
      fit_bind (fit_concat (reset_bits fs []) (reset_bits_lem ready.based fs no_part) (omega (arith, k, w.0), omega (arith, k, w.1))) (λ v c₁ g₁ hv.
      fit_bind (fit_signal room m (grow_ready g₁ ready) (grow_sig g₁ hz) (grow_sig g₁ ho) r.signal) (λ s c₂ g₂ hs.
      fit_pure (hs, l, subst (λ (j : ℕ). At c₂.exprs v j) k (grow_exp g₂ hv).typed)))

  pub fit_bank : (z : Constants) (b : Bank) {c : Context} → Ready words c m → Sig c z.zero.0 1 → Sig c z.one.0 1 → Wide widest (length b.members) → WideAs m b.leader.flop.output (length b.members)
      → Levelled (async_reset b.leader.flop) → b.leader.flop.edge ≤ 1 → Fit widest words D c (emit_flip_flop_bank m z b) (λ x c'. Unit {0})
  unfolding emit_flip_flop_bank
  fit_bank z b ready hz ho w wide l e =
      let k : ℕ = length b.members in
      fit_bind (fit_ref room m ready b.leader.flop.output) (λ t c₁ g₁ ht.
      let r₁ = grow_ready g₁ ready in
      fit_bind (fit_nexts b.members [] r₁ no_part) (λ ps c₂ g₂ hp.
      let r₂ = grow_ready g₂ r₁ in
      let j : length ps ≡ k = omega (arith, hp.1) in
      fit_bind (fit_concat ps hp.0 (omega (arith, j, w.0), omega (arith, j, w.1))) (λ x c₃ g₃ hn.
      let r₃ = grow_ready g₃ r₂ in
      let z₃ = grow_sig g₃ (grow_sig g₂ (grow_sig g₁ hz)) in
      let o₃ = grow_sig g₃ (grow_sig g₂ (grow_sig g₁ ho)) in
      fit_bind (fit_bank_reset z (async_reset b.leader.flop) b.members r₃ z₃ o₃ w l) (λ r c₄ g₄ hr.
      fit_bind (fit_signal room m (grow_ready g₄ r₃) (grow_sig g₄ z₃) (grow_sig g₄ o₃) b.leader.flop.clock) (λ q c₅ g₅ hq.
      let t₅ : Sig c₅ t.signal k = subst (λ (i : ℕ). Sig c₅ t.signal i) (wide t ht.0) (grow_sig g₅ (grow_sig g₄ (grow_sig g₃ (grow_sig g₂ ht.1)))) in
      let n₅ : At c₅.exprs x k = subst (λ (i : ℕ). At c₅.exprs x i) j (grow_exp g₅ (grow_exp g₄ hn)).typed in
      fit_state (k, t₅, n₅, hq, e, grow_reset k g₅ r hr, tt))))))
