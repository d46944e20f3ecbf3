-- What the reads of bits, controls and vectors make.
-- Assumes nothing.
use mathlib.Core.Path.{◌≡◌, refl, ap, ap₂, sym, ◌∙◌, subst}
use mathlib.Core.Bool.{Bool, true, false, not, ◌&&◌}
use mathlib.Core.List.{List, [], ◌∷◌, ◌++◌, append-nil, append_assoc}
use Rattle.std.specs.Prelude.{Option, None, Some}
use Prim.Native.Nat.{ℕ, zero, suc, ◌+◌, ◌<◌}
use lib.Dec.{eqb}
use lib.ListN.{length, get_or}
use borrow.Author.Tests.{eqb-true}
use Rattle.bits.specs.Bits.{pick, Bits, same}
use Rattle.netlist.specs.declared.Bit.{Bit}
use Rattle.netlist.specs.declared.Bit.TheVariants.{Zero, One, Wire}
use Rattle.netlist.specs.declared.Control.{Control}
use Rattle.recorder.specs.Record.{Expr.not as complement}
use Rattle.recorder.specs.Writer.{Writer, emit, pure, ◌>>=◌}
use Rattle.recorder.specs.Evaluate.{Signals, Values, value_of, joined_parts}
use Rattle.recorder.specs.Meaning.{Is, Keeps, Base, Makes, Means}
use Rattle.recorder.proofs.Makes.{base_keeps, makes_pure, makes_refuse, means_emit, makes_bind, makes_so}
use Rattle.optimize.specs.Claims.{Inputs}
use Rattle.optimize.proofs.Luts.{inputs_keep}
use Rattle.optimize.proofs.Muxes.{by_test, means_as, not_value}
use Rattle.behaviour.specs.Behaviour.{value, values, asserted}
use Rattle.wires.specs.declared.Constants.{Constants}
use Rattle.wires.specs.Wires.{WireRef, Wires}
use Rattle.wires.specs.Seen.{Seen, nothing_seen, standing, noted, Reading, keeping}
use Rattle.wires.specs.Expressions.{ref_of, wire_ref, read_ref, bit_expression, whole, bit_signal, levelled, asserted_expression, read_once, bit_once, asserted_once, read_bits, concat_parts, vector_parts, vector_once, bits_expression, vector_expression}
use Rattle.meaning.specs.Held.{ref_bit, held, values_at}
use Rattle.meaning.specs.Settles.{Gets}
use Rattle.meaning.proofs.Settling.{gets_pure, gets_refuse, gets_bind}
use Rattle.meaning.proofs.Standing.{AllStand, none_stand, nothing_stands, noted_stand}

-- ONE BIT

same_true : (x : Bool) → x ≡ same x true
same_true true = refl
same_true false = refl

same_false : (x : Bool) → not x ≡ same x false
same_false true = refl
same_false false = refl

module _ {σ : Signals} (m : Wires) where
  pub bit_means : {env : Values} → Base env → (b : Bit) → Means σ env (bit_expression m b) (value (held σ m) b ∷ [])
  unfolding bit_expression wire_ref
  bit_means base Zero = makes_pure base.zero_is
  bit_means base One = makes_pure base.one_is
  bit_means {env} base (Wire w) = go (m w)
    where
      go : (o : Option WireRef) → Means σ env (ref_of o w >>= read_ref) (ref_bit σ o ∷ [])
      go None = makes_bind (makes_refuse {P = λ a e. ⊥}) (λ a env₁ k h. absurd h)
      go (Some r) = makes_bind (makes_pure {P = λ a e. a ≡ r} refl) (λ a env₁ k h. means_emit (ap (λ (q : WireRef). get_or (σ q.signal) q.lsb false ∷ []) h))

  levelled_means : (active : ℕ) {e : ℕ} {v : Bool} {env : Values} → Is env e (v ∷ []) → Means σ env (levelled active e) (same v (eqb active 1) ∷ [])
  levelled_means active {e} {v} {env} h = go (eqb active 1)
    where
      go : (b : Bool) → Means σ env (pick b (pure e) (emit (complement e))) (same v b ∷ [])
      go true = means_as (ap (λ (x : Bool). x ∷ []) (same_true v)) (makes_pure h)
      go false = means_as (ap (λ (x : Bool). x ∷ []) (same_false v)) (not_value σ h)

  pub asserted_means : {env : Values} → Base env → (c : Control) → Means σ env (asserted_expression m c) (asserted (held σ m) c.signal c.active ∷ [])
  unfolding asserted_expression
  asserted_means base c = makes_bind (bit_means base c.signal) (λ e env₁ k h. levelled_means c.active h)

-- WHAT STANDS in a cell: each wire that does has its bit

pub record Known (σ : Signals) (m : Wires) (env : Values) (seen : Seen) : Type 0 where
  pub known : AllStand (λ w e. Is env e (ref_bit σ (m w) ∷ [])) seen

-- a value of these bits, and what stands then
abbrev pub MeansOnce : Signals → Wires → Values → Writer (Reading ℕ) → Bits → Type 0
MeansOnce σ m env w v = Makes σ env w (λ r env'. Is env' r.value v × Known σ m env' r.seen)

module _ {σ : Signals} {m : Wires} {env : Values} where
  pub known_none : Known σ m env []
  known_none = record { known = none_stand _ }

  pub known_nothing : (wires : ℕ) → Known σ m env (nothing_seen wires)
  known_nothing wires = record { known = nothing_stands _ wires }

  pub known_keeps : {env' : Values} {seen : Seen} → Keeps env env' → Known σ m env seen → Known σ m env' seen
  known_keeps k h = record { known = λ w e q. k _ _ (h.known w e q) }

  known_noted : {seen : Seen} (w : ℕ) {e : ℕ} → Known σ m env seen → Is env e (ref_bit σ (m w) ∷ []) → Known σ m env (noted seen w e)
  known_noted {seen} w {e} h i = record { known = noted_stand _ seen w e h.known i }

  -- a step that reads nothing
  pub makes_keeping : {A : Type 0} {seen : Seen} {w : Writer A} {P : A → Values → Type 0} → Known σ m env seen → Makes σ env w P → Makes σ env (keeping seen w) (λ r env'. P r.value env' × Known σ m env' r.seen)
  makes_keeping h f = makes_bind f (λ a env₁ k p. makes_pure (p, known_keeps k h))

module _ {σ : Signals} (m : Wires) {env : Values} {seen : Seen} (base : Base env) (known : Known σ m env seen) where
  pub bit_once_lem : (b : Bit) → MeansOnce σ m env (bit_once m seen b) (value (held σ m) b ∷ [])
  unfolding bit_once
  bit_once_lem Zero = makes_pure (base.zero_is, known)
  bit_once_lem One = makes_pure (base.one_is, known)
  bit_once_lem (Wire w) = go (standing seen w) refl
    where
      go : (o : Option ℕ) → standing seen w ≡ o → MeansOnce σ m env (read_once o m seen w) (ref_bit σ (m w) ∷ [])
      go None q = makes_bind (bit_means m base (Wire w)) (λ e env₁ k i. makes_pure (i, known_noted w (known_keeps k known) i))
      go (Some e) q = makes_pure (known.known w e q, known)

  pub asserted_once_lem : (c : Control) → MeansOnce σ m env (asserted_once m seen c) (asserted (held σ m) c.signal c.active ∷ [])
  unfolding asserted_once
  asserted_once_lem c = makes_bind (bit_once_lem c.signal) (λ r env₁ k h. makes_keeping h.1 (levelled_means m c.active h.0))

-- SIGNALS OF CONTROLS

pub ref_gets : (m : Wires) (w : ℕ) → Gets (wire_ref m w) (λ r. m w ≡ Some r)
unfolding wire_ref
ref_gets m w = go (m w) refl
  where
    go : (o : Option WireRef) → m w ≡ o → Gets (ref_of o w) (λ r. m w ≡ Some r)
    go None q = gets_refuse
    go (Some r) q = gets_pure q

-- a whole signal of one bit
pub record Alone (m : Wires) (w s : ℕ) : Type 0 where
  pub alone : m w ≡ Some (record { signal = s; lsb = 0; width = 1 })

-- the signal of a control
abbrev pub IsSignal : Wires → Constants → Bit → ℕ → Type 0
IsSignal m z Zero s = s ≡ z.zero.0
IsSignal m z One s = s ≡ z.one.0
IsSignal m z (Wire w) s = Alone m w s

both : (a b : Bool) → a && b ≡ true → (a ≡ true) × (b ≡ true)
both true b q = (refl, q)
both false b q = absurd (mathlib.Core.Bool.false≢true q)

pub signal_gets : (m : Wires) (z : Constants) (b : Bit) → Gets (bit_signal m z b) (IsSignal m z b)
unfolding bit_signal
signal_gets m z Zero = gets_pure refl
signal_gets m z One = gets_pure refl
signal_gets m z (Wire w) =
    gets_bind (ref_gets m w) (λ r q.
    by_test (λ (x : Writer ℕ). Gets x (Alone m w)) (whole r)
    (λ t. let p = both (eqb r.lsb 0) (eqb r.width 1) t in
    gets_pure (record { alone = q ∙ ap₂ (λ (x y : ℕ). Some (record { signal = r.signal; lsb = x; width = y })) (eqb-true r.lsb 0 p.0) (eqb-true r.width 1 p.1) })) (λ t. gets_refuse))

-- PARTS OF A CONCAT, the highest first

abbrev pub There : Values → List ℕ → Type 0
There env [] = Unit {0}
There env (p ∷ ps) = (p < length env) × There env ps

pub record Parts (env : Values) (ps : List ℕ) (v : Bits) : Type 0 where
  pub there : There env ps
  pub value : joined_parts env ps ≡ v

there_keeps : {env env' : Values} → Keeps env env' → (ps : List ℕ) → There env ps → There env' ps
there_keeps k [] h = tt
there_keeps {env} {env'} k (p ∷ ps) h = ((k p (value_of env p) (record { there = h.0; value = refl })).there, there_keeps k ps h.1)

joined_keeps : {env env' : Values} → Keeps env env' → (ps : List ℕ) → There env ps → joined_parts env' ps ≡ joined_parts env ps
joined_keeps k [] h = refl
joined_keeps {env} {env'} k (p ∷ ps) h = ap₂ (λ (x y : Bits). x ++ y) (joined_keeps k ps h.1) (k p (value_of env p) (record { there = h.0; value = refl })).value

pub parts_keep : {env env' : Values} {ps : List ℕ} {v : Bits} → Keeps env env' → Parts env ps v → Parts env' ps v
parts_keep {ps = ps} k h = record { there = there_keeps k ps h.there; value = joined_keeps k ps h.there ∙ h.value }

there_snoc : (env : Values) (ps : List ℕ) (e : ℕ) → There env ps → e < length env → There env (ps ++ (e ∷ []))
there_snoc env [] e h l = (l, tt)
there_snoc env (p ∷ ps) e h l = (h.0, there_snoc env ps e h.1 l)

joined_snoc : (env : Values) (ps : List ℕ) (e : ℕ) → joined_parts env (ps ++ (e ∷ [])) ≡ value_of env e ++ joined_parts env ps
joined_snoc env [] e = sym (append-nil (value_of env e))
joined_snoc env (p ∷ ps) e = ap (λ (x : Bits). x ++ value_of env p) (joined_snoc env ps e) ∙ append_assoc (value_of env e) (joined_parts env ps) (value_of env p)

-- a lower part is added
parts_snoc : {env : Values} {ps : List ℕ} {hi lo : Bits} {e : ℕ} → Parts env ps hi → Is env e lo → Parts env (ps ++ (e ∷ [])) (lo ++ hi)
parts_snoc {env} {ps} {e = e} h l = record { there = there_snoc env ps e h.there l.there; value = joined_snoc env ps e ∙ ap₂ (λ (x y : Bits). x ++ y) l.value h.value }

-- a higher part is added
pub parts_cons : {env : Values} {ps : List ℕ} {hi lo : Bits} {e : ℕ} → Parts env ps lo → Is env e hi → Parts env (e ∷ ps) (lo ++ hi)
parts_cons l h = record { there = (h.there, l.there); value = ap₂ (λ (x y : Bits). x ++ y) l.value h.value }

pub concat_means : {σ : Signals} {env : Values} {v : Bits} (ps : List ℕ) → Parts env ps v → Means σ env (concat_parts ps) v
unfolding concat_parts
concat_means [] h = means_emit h.value
concat_means (e ∷ []) h = makes_pure (record { there = h.there.0; value = h.value })
concat_means (e ∷ f ∷ es) h = means_emit h.value

-- VECTORS

module _ {σ : Signals} (m : Wires) (bits : List Bit) (at : ℕ) where
  vector_parts_lem : (k : ℕ) {env : Values} {seen : Seen} {ps : List ℕ} {hi : Bits} → Base env → Known σ m env seen → Parts env ps hi
      → Makes σ env (vector_parts m seen bits at k ps) (λ r env'. Parts env' r.value (values_at (held σ m) bits at k ++ hi) × Known σ m env' r.seen)
  unfolding vector_parts
  vector_parts_lem zero base known h = makes_pure (h, known)
  vector_parts_lem (suc k) {hi = hi} base known h =
      makes_bind (bit_once_lem m base known (get_or bits (at + k) Zero)) (λ r env₁ keep i.
      makes_so (vector_parts_lem k (base_keeps keep base) i.1 (parts_snoc (parts_keep keep h) i.0)) (λ qs env₂ keep₂ g. (
        record { there = g.0.there; value = g.0.value ∙ sym (append_assoc (values_at (held σ m) bits at k) (value (held σ m) (get_or bits (at + k) Zero) ∷ []) hi) },
        g.1,
      )))

  pub vector_once_lem : (k : ℕ) {env : Values} {seen : Seen} → Base env → Known σ m env seen → MeansOnce σ m env (vector_once m seen bits at k) (values_at (held σ m) bits at k)
  unfolding vector_once
  vector_once_lem k base known =
      makes_bind (vector_parts_lem k base known (record { there = tt; value = refl })) (λ r env₁ keep h.
      makes_keeping h.1 (concat_means r.value (record { there = h.0.there; value = h.0.value ∙ append-nil (values_at (held σ m) bits at k) })))

pub bits_means : {σ : Signals} (m : Wires) {env : Values} → Base env → (bits : List Bit) → Means σ env (bits_expression m bits) (values_at (held σ m) bits 0 (length bits))
unfolding vector_expression
bits_means m base bits = makes_bind (vector_once_lem m bits 0 (length bits) base known_none) (λ r env₁ k h. makes_pure h.0)

-- INPUTS IN ORDER

inputs_snoc : (env : Values) (xs : List ℕ) (bs : Bits) (e : ℕ) (b : Bool) → Inputs env xs bs → Is env e (b ∷ []) → Inputs env (xs ++ (e ∷ [])) (bs ++ (b ∷ []))
inputs_snoc env [] [] e b h i = (i, tt)
inputs_snoc env [] (c ∷ bs) e b h i = absurd h
inputs_snoc env (x ∷ xs) [] e b h i = absurd h
inputs_snoc env (x ∷ xs) (c ∷ bs) e b h i = (h.0, inputs_snoc env xs bs e b h.1 i)

pub reads_make : (σ : Signals) (m : Wires) (bits : List Bit) (done : List ℕ) (bs : Bits) {env : Values} {seen : Seen} → Base env → Known σ m env seen → Inputs env done bs
    → Makes σ env (read_bits m seen bits done) (λ r env'. Inputs env' r.value (bs ++ values (held σ m) bits) × Known σ m env' r.seen)
unfolding read_bits
reads_make σ m [] done bs base known h = makes_pure (subst (Inputs _ done) (sym (append-nil bs)) h, known)
reads_make σ m (b ∷ rest) done bs base known h =
    makes_bind (bit_once_lem m base known b) (λ r env₁ k i.
    makes_so (reads_make σ m rest (done ++ (r.value ∷ [])) (bs ++ (value (held σ m) b ∷ [])) (base_keeps k base) i.1 (inputs_snoc env₁ done bs r.value _ (inputs_keep k done bs h) i.0)) (λ es env₂ k₂ g. (
      subst (Inputs env₂ es.value) (append_assoc bs (value (held σ m) b ∷ []) (values (held σ m) rest)) g.0,
      g.1,
    )))
