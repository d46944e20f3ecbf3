-- The equations of the combinational cells, on the signals of their wires: each has what the tick rule gives for what the wires hold.
-- Assumes nothing.
use mathlib.Core.Path.{◌≡◌, refl, ap, ap₂, sym, ◌∙◌, subst}
use mathlib.Core.Bool.{Bool, true, false, ◌||◌}
use mathlib.Core.List.{List, [], ◌∷◌, ◌++◌}
use Rattle.std.specs.Prelude.{Option, None, Some}
use Prim.Native.Nat.{ℕ, zero, suc, ◌*◌, ◌^◌, ◌<◌}
use native.Mathlib.Omega.{arith}
use lib.Dec.{eqb}
use lib.ListN.{length, get_or, take, drop, length-map}
use borrow.Author.Tests.{eqb-true}
use Rattle.bits.specs.Bits.{pick, Bits, number, binary}
use Rattle.netlist.specs.declared.Bit.{Bit}
use Rattle.netlist.specs.declared.Bit.TheVariants.{Wire}
use Rattle.netlist.specs.Netlist.{Ccu2c, Pll, Port}
use Rattle.recorder.specs.Record.{Stmt.assign}
use Rattle.recorder.specs.Writer.{Writer, pure, state, ◌>>=◌}
use Rattle.recorder.specs.Evaluate.{Signals, Values}
use Rattle.recorder.specs.Meaning.{Is, Keeps, Base, Means}
use Rattle.recorder.proofs.Makes.{base_keeps, means_emit}
use Rattle.optimize.specs.Rewrite.{mux_of}
use Rattle.optimize.specs.Lut.{lut_cofactor}
use Rattle.optimize.specs.Claims.{Inputs}
use Rattle.optimize.proofs.Muxes.{by_test, means_as, mux_means, xor_means}
use Rattle.optimize.proofs.Luts.{inputs_keep, lut_means}
use Rattle.behaviour.specs.Behaviour.{Valuation, value, values, look_table, CcuRow, ccu_row as row_of, level}
use Rattle.wires.specs.Wires.{WireRef, Wires}
use Rattle.wires.specs.Seen.{Seen, Reading, keeping}
use Rattle.wires.specs.Expressions.{bit_once, bits_expression, assign_wire}
use Rattle.cells.specs.Cells.{emit_lut4, emit_pfumx, emit_l6mux21, emit_io, emit_multiplier, ccu_row, emit_ccu2c, assign_all, emit_idle_jtagg, pll_clocks, emit_cycle_pll}
use Rattle.lowering.specs.Emit.{emit_outputs}
use Rattle.meaning.specs.Held.{held, values_at, Driven}
use Rattle.meaning.specs.Settles.{Tick, Settles}
use Rattle.meaning.proofs.Settling.{settles_makes, settles_gets, settles_assign, settles_pure, settles_bind, settles_so, settles_keeping}
use Rattle.meaning.proofs.BitReads.{bit_means, ref_gets, Known, known_keeps, bit_once_lem, vector_once_lem, bits_means, reads_make}

pub some_is : {A : Type 0} (x y : A) → Some x ≡ Some y → x ≡ y
some_is {A} x y q = ap from q
  where
    from : Option A → A
    from None = x
    from (Some z) = z

-- what the wires hold before the commit
abbrev pub now : Tick → Wires → Valuation
now κ m = held κ.before m

abbrev pub Bases : {K : Type 0} → (K → Values) → Type 0
Bases {K} env = (k : K) → Base (env k)

pub bases_keep : {K : Type 0} {env env' : K → Values} → ((k : K) → Keeps (env k) (env' k)) → Bases env → Bases env'
bases_keep kp b k = base_keeps (kp k) (b k)

-- what stands in what a cell has read, in each tick
abbrev pub Knowns : {K : Type 0} → (K → Tick) → Wires → (K → Values) → Seen → Type 0
Knowns {K} κ m env seen = (k : K) → Known (κ k).before m (env k) seen

-- ASSIGNMENTS

module _ {K : Type 0} (κ : K → Tick) (Ω : K → Values) (m : Wires) where
  pub assign_settles : (w : ℕ) {e : ℕ} {v : K → Bits} {env : K → Values} → ((k : K) → Is (env k) e (v k)) → Settles κ Ω env (assign_wire m w e) (λ u env'. (k : K) → Driven (κ k).before m w (v k))
  unfolding assign_wire
  assign_settles w {e} {v} {env} i =
      settles_bind (settles_gets (ref_gets m w)) (λ r env₁ kp q.
      settles_assign (λ k. kp k _ _ (i k)) (λ h k x p. ap (λ (y : WireRef). (κ k).before y.signal) (some_is x r (sym p ∙ q)) ∙ h k))

abbrev pub AllDriven : Signals → Wires → List ℕ → Bits → Type 0
AllDriven σ m [] v = Unit {0}
AllDriven σ m (w ∷ ws) v = Driven σ m w v × AllDriven σ m ws v

-- TRUTH TABLES

inputs_length : (env : Values) (xs : List ℕ) (bs : Bits) → Inputs env xs bs → length xs ≡ length bs
inputs_length env [] [] h = refl
inputs_length env [] (c ∷ bs) h = absurd h
inputs_length env (x ∷ xs) [] h = absurd h
inputs_length env (x ∷ xs) (c ∷ bs) h = ap suc (inputs_length env xs bs h.1)

lut_makes : (σ : Signals) (init : ℕ) (es : List ℕ) (bs : Bits) {env : Values} → length bs ≡ 4 → init < 65536 → Base env → Inputs env es bs
    → Means σ env (lut_cofactor es init) (look_table init bs ∷ [])
lut_makes σ init es bs {env} four small base h =
    let n : length es ≡ 4 = inputs_length env es bs h ∙ four in
    lut_means σ es bs init base h (omega (arith, n)) (subst (λ (k : ℕ). init < 2 ^ 2 ^ k) (sym n) small)

-- THE CELLS, after what they have read

module _ {K : Type 0} (κ : K → Tick) (Ω : K → Values) (m : Wires) {env : K → Values} {seen : Seen} (base : Bases env) (known : Knowns κ m env seen) where
  pub lut4_equation : (inputs : List Bit) (output init : ℕ) → length inputs ≡ 4 → init < 65536
      → Settles κ Ω env (emit_lut4 m seen inputs output init) (λ u env'. (k : K) → Driven (κ k).before m output (look_table init (values (now (κ k) m) inputs) ∷ []))
  unfolding emit_lut4
  lut4_equation inputs output init four small =
      settles_bind (settles_makes (λ k. reads_make (κ k).before m inputs [] [] (base k) (known k) tt)) (λ es env₁ k₁ h.
      settles_bind (settles_makes (λ k. lut_makes (κ k).before init es.value (values (now (κ k) m) inputs) (length-map inputs _ ∙ four) small (base_keeps (k₁ k) (base k)) (h k).0)) (λ v env₂ k₂ i.
      settles_keeping es.seen (assign_settles κ Ω m output i)))

  -- a mux of three bits, read in some order, on a wire
  mux_equation : (first second third : Bit) (output : ℕ) (s t f : (a b c : ℕ) → ℕ) (select high low : (a b c : Bool) → Bool)
      → ((k : K) (env₁ : Values) (a b c : ℕ) (x y z : Bool) → Is env₁ a (x ∷ []) → Is env₁ b (y ∷ []) → Is env₁ c (z ∷ []) → Is env₁ (s a b c) (select x y z ∷ []) × Is env₁ (t a b c) (high x y z ∷ []) × Is env₁ (f a b c) (low x y z ∷ []))
      → Settles κ Ω env (bit_once m seen first >>= λ a. bit_once m a.seen second >>= λ b. bit_once m b.seen third >>= λ c. mux_of (s a.value b.value c.value) (t a.value b.value c.value) (f a.value b.value c.value) >>= λ v. keeping c.seen (assign_wire m output v))
      (λ u env'. (k : K) → Driven (κ k).before m output
      (pick (select (value (now (κ k) m) first) (value (now (κ k) m) second) (value (now (κ k) m) third)) (high (value (now (κ k) m) first) (value (now (κ k) m) second) (value (now (κ k) m) third)) (low (value (now (κ k) m) first) (value (now (κ k) m) second) (value (now (κ k) m) third)) ∷ []))
  mux_equation first second third output s t f select high low choose =
      settles_bind (settles_makes (λ k. bit_once_lem m (base k) (known k) first)) (λ a env₁ k₁ ha.
      let b₁ = bases_keep k₁ base in
      settles_bind (settles_makes (λ k. bit_once_lem m (b₁ k) (ha k).1 second)) (λ b env₂ k₂ hb.
      let b₂ = bases_keep k₂ b₁ in
      settles_bind (settles_makes (λ k. bit_once_lem m (b₂ k) (hb k).1 third)) (λ c env₃ k₃ hc.
      settles_bind (settles_makes (λ k.
      let q = choose k (env₃ k) a.value b.value c.value _ _ _ (k₃ k _ _ (k₂ k _ _ (ha k).0)) (k₃ k _ _ (hb k).0) (hc k).0 in
      mux_means (κ k).before (base_keeps (k₃ k) (b₂ k)) q.0 q.1 q.2)) (λ v env₄ k₄ i. settles_keeping c.seen (assign_settles κ Ω m output i)))))

  pub pfumx_equation : (high low select : Bit) (output : ℕ)
      → Settles κ Ω env (emit_pfumx m seen high low select output) (λ u env'. (k : K) → Driven (κ k).before m output (pick (value (now (κ k) m) select) (value (now (κ k) m) high) (value (now (κ k) m) low) ∷ []))
  unfolding emit_pfumx
  pfumx_equation high low select output = mux_equation select high low output (λ a b c. a) (λ a b c. b) (λ a b c. c) (λ a b c. a) (λ a b c. b) (λ a b c. c) (λ k e a b c x y z p q r. (p, q, r))

  pub l6mux21_equation : (low high select : Bit) (output : ℕ)
      → Settles κ Ω env (emit_l6mux21 m seen low high select output) (λ u env'. (k : K) → Driven (κ k).before m output (pick (value (now (κ k) m) select) (value (now (κ k) m) high) (value (now (κ k) m) low) ∷ []))
  unfolding emit_l6mux21
  l6mux21_equation low high select output = mux_equation select low high output (λ a b c. a) (λ a b c. c) (λ a b c. b) (λ a b c. a) (λ a b c. c) (λ a b c. b) (λ k e a b c x y z p q r. (p, r, q))

  pub io_equation : (pad : ℕ) (driven : Bit) (input : ℕ) (tristate : Bit)
      → Settles κ Ω env (emit_io m seen pad driven input tristate) (λ u env'. (k : K) → Driven (κ k).before m input (pick (value (now (κ k) m) tristate) (value (now (κ k) m) (Wire pad)) (value (now (κ k) m) driven) ∷ []))
  unfolding emit_io
  io_equation pad driven input tristate = mux_equation (Wire pad) driven tristate input (λ a b c. c) (λ a b c. a) (λ a b c. b) (λ a b c. c) (λ a b c. a) (λ a b c. b) (λ k e a b c x y z p q r. (r, p, q))

  pub multiplier_equation : (lhs rhs : List Bit) (product : List ℕ)
      → Settles κ Ω env (emit_multiplier m seen lhs rhs product) (λ u env'. (k : K) → Driven (κ k).before m (get_or product 0 0) (binary 36 (number (values_at (now (κ k) m) lhs 0 36) * number (values_at (now (κ k) m) rhs 0 36))))
  unfolding emit_multiplier
  multiplier_equation lhs rhs product =
      settles_bind (settles_makes (λ k. vector_once_lem m lhs 0 36 (base k) (known k))) (λ a env₁ k₁ ha.
      settles_bind (settles_makes (λ k. vector_once_lem m rhs 0 36 (base_keeps (k₁ k) (base k)) (ha k).1)) (λ b env₂ k₂ hb.
      settles_bind (settles_makes (λ k. means_emit (ap₂ (λ (x y : Bits). binary 36 (number x * number y)) (k₂ k _ _ (ha k).0).value (hb k).0.value))) (λ v env₃ k₃ i.
      settles_keeping b.seen (assign_settles κ Ω m (get_or product 0 0) i))))

-- CCU2C

inputs_get : (env : Values) → Base env → (xs : List ℕ) (bs : Bits) (i : ℕ) → Inputs env xs bs → Is env (get_or xs i 0) (get_or bs i false ∷ [])
inputs_get env base [] [] i h = base.zero_is
inputs_get env base [] (b ∷ bs) i h = absurd h
inputs_get env base (x ∷ xs) [] i h = absurd h
inputs_get env base (x ∷ xs) (b ∷ bs) zero h = h.0
inputs_get env base (x ∷ xs) (b ∷ bs) (suc i) h = inputs_get env base xs bs i h.1

gated_is : {env : Values} {carry : ℕ} {c : Bool} (inject : ℕ) → Base env → Is env carry (c ∷ []) → Is env (pick (eqb inject 1) 0 carry) (pick (level inject) false c ∷ [])
gated_is {env} {carry} {c} inject base h = go (eqb inject 1)
  where
    go : (b : Bool) → Is env (pick b 0 carry) (pick b false c ∷ [])
    go true = base.zero_is
    go false = h

first_two : (bs : Bits) → length bs ≡ 4 → get_or bs 0 false ∷ get_or bs 1 false ∷ false ∷ false ∷ [] ≡ take 2 bs ++ (false ∷ false ∷ [])
first_two [] h = absurd (omega (arith, h))
first_two (a ∷ []) h = absurd (omega (arith, h))
first_two (a ∷ b ∷ bs) h = refl

-- what a CCU2C's two rows give
abbrev pub row0 : Valuation → Ccu2c → CcuRow
row0 v u = row_of (values v u.row0) u.init0 u.inject0 (value v u.carry_in)

abbrev pub row1 : Valuation → Ccu2c → CcuRow
row1 v u = row_of (values v u.row1) u.init1 u.inject1 (row0 v u).carry

pub record Added (σ : Signals) (m : Wires) (u : Ccu2c) : Type 0 where
  pub sum0_is : Driven σ m u.sum0 ((row0 (held σ m) u).sum ∷ [])
  pub sum1_is : Driven σ m u.sum1 ((row1 (held σ m) u).sum ∷ [])
  pub carry_is : Driven σ m u.carry ((row1 (held σ m) u).carry ∷ [])

-- a row: the sum's signal, the next carry, and what stands then
record Row (σ : Signals) (m : Wires) (inputs : List Bit) (init inject sum : ℕ) (c : Bool) (env : Values) (e : Reading ℕ) : Type 0 where
  sum_is : Driven σ m sum ((row_of (values (held σ m) inputs) init inject c).sum ∷ [])
  carry_is : Is env e.value ((row_of (values (held σ m) inputs) init inject c).carry ∷ [])
  stands : Known σ m env e.seen

module _ {K : Type 0} (κ : K → Tick) (Ω : K → Values) (m : Wires) where
  row_equation : (inputs : List Bit) (init inject sum carry : ℕ) (c : K → Bool) {env : K → Values} {seen : Seen} → length inputs ≡ 4 → init < 65536 → Bases env → Knowns κ m env seen → ((k : K) → Is (env k) carry (c k ∷ []))
      → Settles κ Ω env (ccu_row m seen inputs init inject sum carry) (λ e env'. (k : K) → Row (κ k).before m inputs init inject sum (c k) (env' k) e)
  unfolding ccu_row
  row_equation inputs init inject sum carry c four small base known hc =
      let bs : K → Bits = λ k. values (now (κ k) m) inputs in
      let long : (k : K) → length (bs k) ≡ 4 = λ k. length-map inputs _ ∙ four in
      settles_bind (settles_makes (λ k. reads_make (κ k).before m inputs [] [] (base k) (known k) tt)) (λ es env₁ k₁ h.
      let b₁ = bases_keep k₁ base in
      settles_bind (settles_makes (λ k. lut_makes (κ k).before init es.value (bs k) (long k) small (b₁ k) (h k).0)) (λ l env₂ k₂ hl.
      let b₂ = bases_keep k₂ b₁ in
      let h₂ : (k : K) → Inputs (env₂ k) es.value (bs k) = λ k. inputs_keep (k₂ k) es.value (bs k) (h k).0 in
      settles_bind
      (settles_makes (λ k.
      means_as (ap (λ (x : Bits). look_table init x ∷ []) (first_two (bs k) (long k)))
      (lut_makes (κ k).before init (get_or es.value 0 0 ∷ get_or es.value 1 0 ∷ 0 ∷ 0 ∷ []) (get_or (bs k) 0 false ∷ get_or (bs k) 1 false ∷ false ∷ false ∷ []) refl small (b₂ k)
      (inputs_get (env₂ k) (b₂ k) es.value (bs k) 0 (h₂ k), (inputs_get (env₂ k) (b₂ k) es.value (bs k) 1 (h₂ k), ((b₂ k).zero_is, ((b₂ k).zero_is, tt))))))) (λ x env₃ k₃ hx.
      let b₃ = bases_keep k₃ b₂ in
      let hg : (k : K) → Is (env₃ k) (pick (eqb inject 1) 0 carry) (pick (level inject) false (c k) ∷ []) = λ k. gated_is inject (b₃ k) (k₃ k _ _ (k₂ k _ _ (k₁ k _ _ (hc k)))) in
      settles_bind (settles_makes (λ k. xor_means (κ k).before (b₃ k) (k₃ k _ _ (hl k)) (hg k))) (λ s env₄ k₄ hs.
      settles_bind (assign_settles κ Ω m sum hs) (λ u env₅ k₅ d.
      let b₅ = bases_keep k₅ (bases_keep k₄ b₃) in
      settles_bind (settles_makes (λ k. mux_means (κ k).before (b₅ k) (k₅ k _ _ (k₄ k _ _ (k₃ k _ _ (hl k)))) (k₅ k _ _ (k₄ k _ _ (hg k))) (k₅ k _ _ (k₄ k _ _ (hx k))))) (λ e env₆ k₆ i.
      settles_pure (λ k. record { sum_is = d k; carry_is = i k; stands = known_keeps (k₆ k) (known_keeps (k₅ k) (known_keeps (k₄ k) (known_keeps (k₃ k) (known_keeps (k₂ k) (h k).1)))) })))))))

  pub ccu2c_equation : (u : Ccu2c) {env : K → Values} {seen : Seen} → length u.row0 ≡ 4 → length u.row1 ≡ 4 → u.init0 < 65536 → u.init1 < 65536 → Bases env → Knowns κ m env seen
      → Settles κ Ω env (emit_ccu2c m seen u) (λ x env'. (k : K) → Added (κ k).before m u)
  unfolding emit_ccu2c
  ccu2c_equation u four₀ four₁ small₀ small₁ base known =
      settles_bind (settles_makes (λ k. bit_once_lem m (base k) (known k) u.carry_in)) (λ e₀ env₁ k₁ h₀.
      let b₁ = bases_keep k₁ base in
      settles_bind (row_equation u.row0 u.init0 u.inject0 u.sum0 e₀.value (λ k. value (now (κ k) m) u.carry_in) four₀ small₀ b₁ (λ k. (h₀ k).1) (λ k. (h₀ k).0)) (λ e₁ env₂ k₂ r₀.
      let b₂ = bases_keep k₂ b₁ in
      settles_bind (row_equation u.row1 u.init1 u.inject1 u.sum1 e₁.value (λ k. (row0 (now (κ k) m) u).carry) four₁ small₁ b₂ (λ k. (r₀ k).stands) (λ k. (r₀ k).carry_is)) (λ e₂ env₃ k₃ r₁.
      settles_keeping e₂.seen (settles_so (assign_settles κ Ω m u.carry (λ k. (r₁ k).carry_is)) (λ x env₄ k₄ d k. record { sum0_is = (r₀ k).sum_is; sum1_is = (r₁ k).sum_is; carry_is = d k })))))

  -- JTAGG AND PLL

  pub all_equation : (ws : List ℕ) {e : ℕ} {v : K → Bits} {env : K → Values} → ((k : K) → Is (env k) e (v k)) → Settles κ Ω env (assign_all m ws e) (λ u env'. (k : K) → AllDriven (κ k).before m ws (v k))
  unfolding assign_all
  all_equation [] i = settles_pure (λ k. tt)
  all_equation (w ∷ ws) i = settles_bind (assign_settles κ Ω m w i) (λ u env₁ k₁ d. settles_so (all_equation ws (λ k. k₁ k _ _ (i k))) (λ x env₂ k₂ h k. (d k, h k)))

  pub jtagg_equation : (ws : List ℕ) {env : K → Values} → Bases env
      → Settles κ Ω env (emit_idle_jtagg m ws) (λ u env'. (k : K) → AllDriven (κ k).before m (take 6 ws ++ drop 7 ws) (false ∷ []) × Driven (κ k).before m (get_or ws 6 0) (true ∷ []))
  unfolding emit_idle_jtagg
  jtagg_equation ws base = settles_bind (all_equation (take 6 ws ++ drop 7 ws) (λ k. (base k).zero_is)) (λ u env₁ k₁ h. settles_so (assign_settles κ Ω m (get_or ws 6 0) (λ k. (base_keeps (k₁ k) (base k)).one_is)) (λ x env₂ k₂ d k. (h k, d k)))

-- all its clocks copy the reference, locked is 1
pub record Locked (σ : Signals) (m : Wires) (p : Pll) : Type 0 where
  pub feedback_is : Driven σ m p.feedback (value (held σ m) p.reference ∷ [])
  pub output_is : Driven σ m p.output (value (held σ m) p.reference ∷ [])
  pub more_is : AllDriven σ m p.more (value (held σ m) p.reference ∷ [])
  pub locked_is : Driven σ m p.locked (true ∷ [])

same_wire : (σ : Signals) (m : Wires) (v w : ℕ) (x : Bits) → eqb v w ≡ true → Driven σ m w x → Driven σ m v x
same_wire σ m v w x q d = subst (λ (k : ℕ). Driven σ m k x) (sym (eqb-true v w q)) d

either : (a b : Bool) (G : Type 0) → a || b ≡ true → (a ≡ true → G) → (b ≡ true → G) → G
either true b G q f g = f refl
either false b G q f g = g q

module _ {K : Type 0} (κ : K → Tick) (Ω : K → Values) (m : Wires) where
  clocks_equation : (f o : ℕ) (ws : List ℕ) {e : ℕ} {v : K → Bits} {env : K → Values} → ((k : K) → Is (env k) e (v k)) → ((k : K) → Driven (κ k).before m f (v k)) → ((k : K) → Driven (κ k).before m o (v k))
      → Settles κ Ω env (pll_clocks m f o ws e) (λ u env'. (k : K) → AllDriven (κ k).before m ws (v k))
  unfolding pll_clocks
  clocks_equation f o [] i df do' = settles_pure (λ k. tt)
  clocks_equation f o (w ∷ ws) {e} {v} {env} i df do' =
      settles_bind
      (by_test (λ (x : Writer (Unit {0})). Settles κ Ω env x (λ u env'. (k : K) → Driven (κ k).before m w (v k))) (eqb w f || eqb w o)
      (λ q. settles_pure (λ k. either (eqb w f) (eqb w o) (Driven (κ k).before m w (v k)) q (λ s. same_wire (κ k).before m w f (v k) s (df k)) (λ s. same_wire (κ k).before m w o (v k) s (do' k))))
      (λ q. assign_settles κ Ω m w i))
      (λ u env₁ k₁ d. settles_so (clocks_equation f o ws (λ k. k₁ k _ _ (i k)) df do') (λ x env₂ k₂ h k. (d k, h k)))

  pub pll_equation : (p : Pll) {env : K → Values} → Bases env → Settles κ Ω env (emit_cycle_pll m p) (λ u env'. (k : K) → Locked (κ k).before m p)
  unfolding emit_cycle_pll
  pll_equation p base =
      let ref : K → Bits = λ k. value (now (κ k) m) p.reference ∷ [] in
      settles_bind (settles_makes (λ k. bit_means m (base k) p.reference)) (λ e env₁ k₁ i.
      settles_bind (assign_settles κ Ω m p.feedback i) (λ u env₂ k₂ df.
      settles_bind
      (by_test (λ (x : Writer (Unit {0})). Settles κ Ω env₂ x (λ u env'. (k : K) → Driven (κ k).before m p.output (ref k))) (eqb p.output p.feedback)
      (λ q. settles_pure (λ k. same_wire (κ k).before m p.output p.feedback (ref k) q (df k))) (λ q. assign_settles κ Ω m p.output (λ k. k₂ k _ _ (i k))))
      (λ u env₃ k₃ do'.
      settles_bind (clocks_equation p.feedback p.output p.more (λ k. k₃ k _ _ (k₂ k _ _ (i k))) df do') (λ u env₄ k₄ dm.
      let b₄ = bases_keep k₄ (bases_keep k₃ (bases_keep k₂ (bases_keep k₁ base))) in
      settles_so (assign_settles κ Ω m p.locked (λ k. (b₄ k).one_is)) (λ u env₅ k₅ dl k.
      record { feedback_is = df k; output_is = do' k; more_is = dm k; locked_is = dl k })))))

-- OUTPUT PORTS

-- an output port's signal shows its bits
abbrev pub Shown : Signals → Wires → ℕ → List Port → Type 0
Shown σ m p [] = Unit {0}
Shown σ m p (port ∷ ports) = (eqb port.direction 1 ≡ true → σ p ≡ values_at (held σ m) port.bits 0 (length port.bits)) × Shown σ m (suc p) ports

module _ {K : Type 0} (κ : K → Tick) (Ω : K → Values) (m : Wires) where
  pub outputs_equation : (p : ℕ) (ports : List Port) {env : K → Values} → Bases env → Settles κ Ω env (emit_outputs m p ports) (λ u env'. (k : K) → Shown (κ k).before m p ports)
  unfolding emit_outputs
  outputs_equation p [] base = settles_pure (λ k. tt)
  outputs_equation p (port ∷ ports) {env} base =
      settles_bind (one (eqb port.direction 1)) (λ u env₁ k₁ d. settles_so (outputs_equation (suc p) ports (bases_keep k₁ base)) (λ x env₂ k₂ h k. (d k, h k)))
    where
      v : K → Bits
      v k = values_at (now (κ k) m) port.bits 0 (length port.bits)

      one : (b : Bool) → Settles κ Ω env (pick b (bits_expression m port.bits >>= λ e. state (assign p e)) (pure tt)) (λ u env'. (k : K) → b ≡ true → (κ k).before p ≡ v k)
      one true = settles_bind (settles_makes (λ k. bits_means m (base k) port.bits)) (λ e env₁ k₁ i. settles_assign i (λ h k q. h k))
      one false = settles_pure (λ k q. absurd (mathlib.Core.Bool.false≢true q))
