-- A bank's flip-flop and an output port record a read for each wire that they name.
-- Assumes nothing.
use mathlib.Core.Path.{◌≡◌, refl, ap, ◌∙◌, subst}
use mathlib.Core.Bool.{Bool, true, false}
use mathlib.Core.List.{List, [], ◌∷◌, ◌++◌}
use Rattle.std.specs.Prelude.{Option, None, Some}
use Prim.Native.Nat.{ℕ, zero, suc, ◌+◌}
use native.Mathlib.Omega.{arith}
use lib.Dec.{eqb}
use lib.ListN.{length, get_or, length-append}
use Rattle.bits.specs.Bits.{pick}
use Rattle.netlist.specs.declared.Bit.{Bit}
use Rattle.netlist.specs.declared.Bit.TheVariants.{Zero, One, Wire}
use Rattle.netlist.specs.declared.Control.{Control}
use Rattle.netlist.specs.declared.Reset.{Reset}
use Rattle.netlist.specs.Netlist.{FlipFlop}
use Rattle.recorder.specs.Record.{Expr, Expr.not, Expr.mux}
use Rattle.recorder.specs.Writer.{Event, exprs_of, Count, further, End, End.ok, End.no, Writer, pure, refuse, emit, after, ◌>>=◌}
use Rattle.recorder.specs.Meaning.{Ends}
use Rattle.recorder.proofs.Events.{exprs_append}
use Rattle.wires.specs.Seen.{Seen, standing, noted}
use Rattle.wires.specs.Wires.{WireRef, Wires}
use Rattle.wires.specs.Expressions.{ref_of, wire_ref, bit_expression, asserted_expression, bit_once, concat_parts, vector_parts, vector_once, vector_expression}
use Rattle.lowering.specs.Emit.{with_enable, reset_bit, with_reset, next_bit}
use Rattle.meaning.specs.Shared.{reads_in, bit_reads, enable_reads, reset_reads, flop_reads, vector_reads, BanksReadAnew, PortsReadAnew}
use Rattle.meaning.proofs.ReadOnce.{reads_append}

-- so many reads, and a result as P says
record Anew {A : Type 0} (w : Writer A) (P : A → Type 0) (k : ℕ) : Type 0 where
  anew : (n : Count) → Ends (w n).end (λ a. (length (reads_in (exprs_of (w n).events)) ≡ k) × P a)

anew_pure : {A : Type 0} {a : A} {P : A → Type 0} → P a → Anew (pure a) P 0
anew_pure h = record { anew = λ n. (refl, h) }

anew_refuse : {A : Type 0} {a b : ℕ} {P : A → Type 0} {k : ℕ} → Anew (refuse {A = A} a b) P k
anew_refuse = record { anew = λ n. tt }

-- a record of so many reads
anew_emit : {x : Expr} {P : ℕ → Type 0} {k : ℕ} → length (reads_in (x ∷ [])) ≡ k → ((e : ℕ) → P e) → Anew (emit x) P k
anew_emit h f = record { anew = λ n. (h, f _) }

module _ {A B : Type 0} {w : Writer A} {k : A → Writer B} {P : A → Type 0} {Q : B → Type 0} {i j : ℕ} where
  anew_bind : Anew w P i → ((a : A) → P a → Anew (k a) Q j) → Anew (w >>= k) Q (i + j)
  unfolding ◌>>=◌
  anew_bind h g = record { anew = λ n. go n (w n).end (h.anew n) }
    where
      go : (n : Count) → (y : End A) → Ends y (λ a. (length (reads_in (exprs_of (w n).events)) ≡ i) × P a)
          → Ends (after (w n).events y (further n (w n).events) k).end (λ b. (length (reads_in (exprs_of (after (w n).events y (further n (w n).events) k).events)) ≡ i + j) × Q b)
      go n (ok a) e = both (k a (further n (w n).events)).end ((g a e.1).anew (further n (w n).events))
        where
          sum : (ys : List Event) → length (reads_in (exprs_of ys)) ≡ j → length (reads_in (exprs_of ((w n).events ++ ys))) ≡ i + j
          sum ys q =
              ap (λ (xs : List Expr). length (reads_in xs)) (exprs_append (w n).events ys) ∙ ap length (reads_append (exprs_of (w n).events) (exprs_of ys))
              ∙ omega (arith, length-append (reads_in (exprs_of (w n).events)) (reads_in (exprs_of ys)), e.0, q)

          both : (y : End B) → Ends y (λ b. (length (reads_in (exprs_of (k a (further n (w n).events)).events)) ≡ j) × Q b)
              → Ends y (λ b. (length (reads_in (exprs_of ((w n).events ++ (k a (further n (w n).events)).events))) ≡ i + j) × Q b)
          both (ok b) d = (sum (k a (further n (w n).events)).events d.0, d.1)
          both (no x y) d = tt
      go n (no x y) e = tt

anew_as : {A : Type 0} {w : Writer A} {P : A → Type 0} {i j : ℕ} → i ≡ j → Anew w P i → Anew w P j
anew_as {A} {w} {P} q h = subst (λ (k : ℕ). Anew w P k) q h

module _ (m : Wires) where
  ref_anew : (w : ℕ) → Anew (wire_ref m w) (λ r. Unit {0}) 0
  unfolding wire_ref
  ref_anew w = go (m w)
    where
      go : (o : Option WireRef) → Anew (ref_of o w) (λ r. Unit {0}) 0
      go None = anew_refuse
      go (Some r) = anew_pure tt

  bit_anew : (b : Bit) → Anew (bit_expression m b) (λ e. Unit {0}) (bit_reads b)
  unfolding bit_expression
  bit_anew Zero = anew_pure tt
  bit_anew One = anew_pure tt
  bit_anew (Wire w) = anew_bind {i = 0} {j = 1} (ref_anew w) (λ r u. anew_emit refl (λ e. tt))

  asserted_anew : (c : Control) → Anew (asserted_expression m c) (λ e. Unit {0}) (bit_reads c.signal)
  unfolding asserted_expression
  asserted_anew c = anew_as (let z : bit_reads c.signal + 0 ≡ bit_reads c.signal = omega arith in z) (anew_bind (bit_anew c.signal) (λ e u. go (eqb c.active 1) e))
    where
      go : (b : Bool) (e : ℕ) → Anew (pick b (pure e) (emit (not e))) (λ e. Unit {0}) 0
      go true e = anew_pure tt
      go false e = anew_emit refl (λ e. tt)

  -- BANKS

  enable_anew : (output : ℕ) (o : Option Control) (next : ℕ) → Anew (with_enable m output o next) (λ e. Unit {0}) (enable_reads o)
  enable_anew output None next = anew_pure tt
  enable_anew output (Some c) next =
      anew_as (let z : 0 + (1 + (bit_reads c.signal + 0)) ≡ 1 + bit_reads c.signal = omega arith in z)
      (anew_bind (ref_anew output) (λ r u. anew_bind {P = λ q. Unit {0}} (anew_emit refl (λ e. tt)) (λ q u. anew_bind (asserted_anew c) (λ y u. anew_emit refl (λ e. tt)))))

  reset_anew : (o : Option Reset) (next : ℕ) → Anew (with_reset m o next) (λ e. Unit {0}) (reset_reads o)
  reset_anew None next = anew_pure tt
  reset_anew (Some r) next = go (eqb r.asynchronous 1)
    where
      go : (b : Bool) → Anew (pick b (pure next) (asserted_expression m (record { signal = r.signal; active = r.active }) >>= λ y. emit (mux 1 y (reset_bit (Some r)) next))) (λ e. Unit {0}) (pick b 0 (bit_reads r.signal))
      go true = anew_pure tt
      go false = anew_as (let z : bit_reads r.signal + 0 ≡ bit_reads r.signal = omega arith in z) (anew_bind (asserted_anew (record { signal = r.signal; active = r.active })) (λ y u. anew_emit refl (λ e. tt)))

  flop_anew : (f : FlipFlop) → Anew (next_bit m f) (λ e. Unit {0}) (flop_reads f)
  unfolding next_bit
  flop_anew f = anew_bind (bit_anew f.input) (λ d u. anew_bind (enable_anew f.output f.enable d) (λ e u. reset_anew f.reset e))

  -- PORTS: nothing stands in the empty list

  once_anew : (b : Bit) → Anew (bit_once m [] b) (λ r. r.seen ≡ []) (bit_reads b)
  unfolding bit_once standing noted
  once_anew Zero = anew_pure refl
  once_anew One = anew_pure refl
  once_anew (Wire w) = anew_bind {i = 1} {j = 0} (bit_anew (Wire w)) (λ e u. anew_pure refl)

  concat_anew : (ps : List ℕ) → Anew (concat_parts ps) (λ e. Unit {0}) 0
  unfolding concat_parts
  concat_anew [] = anew_emit refl (λ e. tt)
  concat_anew (e ∷ []) = anew_pure tt
  concat_anew (e ∷ f ∷ es) = anew_emit refl (λ e. tt)

  parts_anew : (bits : List Bit) (at k : ℕ) (seen : Seen) (ps : List ℕ) → seen ≡ [] → Anew (vector_parts m seen bits at k ps) (λ r. Unit {0}) (vector_reads bits at k)
  unfolding vector_parts
  parts_anew bits at zero seen ps q = anew_pure tt
  parts_anew bits at (suc k) seen ps q =
      anew_bind (subst (λ (s : Seen). Anew (bit_once m s (get_or bits (at + k) Zero)) (λ r. r.seen ≡ []) (bit_reads (get_or bits (at + k) Zero))) (mathlib.Core.Path.sym q) (once_anew (get_or bits (at + k) Zero)))
      (λ r h. parts_anew bits at k r.seen (ps ++ (r.value ∷ [])) h)

  vector_anew : (bits : List Bit) (at k : ℕ) → Anew (vector_expression m bits at k) (λ e. Unit {0}) (vector_reads bits at k)
  unfolding vector_expression vector_once
  vector_anew bits at k =
      anew_as (let z : (vector_reads bits at k + (0 + 0)) + 0 ≡ vector_reads bits at k = omega arith in z)
      (anew_bind {P = λ r. Unit {0}} (anew_bind (parts_anew bits at k [] [] refl) (λ r u. anew_bind (concat_anew r.value) (λ e u. anew_pure tt))) (λ r u. anew_pure tt))

counts : {A : Type 0} {w : Writer A} {P : A → Type 0} {k : ℕ} → Anew w P k → (n : Count) → Ends (w n).end (λ a. length (reads_in (exprs_of (w n).events)) ≡ k)
counts {A} {w} {P} {k} h n = go (w n).end (h.anew n)
  where
    go : (y : End A) → Ends y (λ a. (length (reads_in (exprs_of (w n).events)) ≡ k) × P a) → Ends y (λ a. length (reads_in (exprs_of (w n).events)) ≡ k)
    go (ok a) e = e.0
    go (no x y) e = tt

pub banks_read_anew : BanksReadAnew
banks_read_anew m f = counts (flop_anew m f)

pub ports_read_anew : PortsReadAnew
ports_read_anew m bits = counts (vector_anew m bits 0 (length bits))
