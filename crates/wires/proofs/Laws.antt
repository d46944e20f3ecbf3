-- Cases of what is read through the wire map, and of vectors.
use mathlib.Core.Path.{◌≡◌, refl, ap, ap₂, sym, ◌∙◌, subst}
use mathlib.Core.Bool.{Bool, true, false, ◌&&◌}
use mathlib.Core.List.{List, [], ◌∷◌, ◌++◌}
use Rattle.std.specs.Prelude.{Option, None, Some}
use Prim.Native.Nat.{ℕ, suc, ◌+◌, ◌-◌, ◌/◌, ◌%◌, ◌≤◌, ◌<◌}
use native.Mathlib.Omega.{arith}
use lib.Dec.{eqb}
use lib.ListN.{length, get_or, take, set, get_or-eq_default}
use Rattle.netlist.specs.Fields.{bit_at, bits_at}
use Rattle.netlist.proofs.RecordLaws.{bits_length, bits_get}
use lib.Seq.{take-suc-set, length-take-le}
use borrow.Author.Tests.{eq-eqb, ne_eqb, le-leb, lt-leb}
use Rattle.bits.specs.Bits.{pick}
use mathlib.Core.Path.{fun_ext}
use Rattle.netlist.specs.declared.Bit.{Bit}
use Rattle.netlist.specs.declared.Bit.TheVariants.{Zero, Wire}
use Rattle.recorder.specs.Record.{Expr.concat}
use Rattle.recorder.specs.Writer.{Count, End, End.ok, End.no, Writer, pure, refuse, emit, ◌>>=◌}
use Rattle.recorder.proofs.Events.{bind_pure, bind_refuse, bind_assoc}
use Rattle.std.specs.Prelude.{Result, IsErrAnd}
use Rattle.refusal.specs.declared.Refusal.{Refusal}
use Rattle.refusal.specs.Refusal.{number_of, place_of}
use Rattle.recorder.specs.declared.Recorder.{Recorder}
use Rattle.recorder.specs.Calls.{ended, Writes}
use Rattle.recorder.proofs.Calls.{writes_as, writes_refuse, handed}
use Rattle.wires.specs.declared.Constants.{Constants}
use Rattle.wires.specs.declared.Emitter.{Emitter}
use Rattle.wires.specs.Once.{Once}
use Rattle.wires.specs.Wires.{WireRef, Wires, entry, wires_of}
use Rattle.wires.specs.Seen.{Seen, Reading, with_seen, keeping}
use Rattle.wires.specs.Expressions.{bit_once, vector_once, ref_of, wire_ref, read_ref, bit_expression, whole, bit_signal, concat_parts, vector_bit, vector_parts, assign_wire, roomy, Reads}

-- THE TABLES

pub wire_missing : (ss ps : List ℕ) (w : ℕ) {s : ℕ} → s ≡ get_or ss w 0 → s ≡ 0 → None ≡ wires_of ss ps w
unfolding wires_of
wire_missing ss ps w e z = sym (ap (λ (k : ℕ). entry k (get_or ps w 0)) (sym e ∙ z))

pub wire_held : (ss ps : List ℕ) (w : ℕ) {s p : ℕ} → s ≡ get_or ss w 0 → p ≡ get_or ps w 0 → (s ≡ 0 → ⊥) → Some (record { signal = s - 1; lsb = p / 65536; width = p % 65536 }) ≡ wires_of ss ps w
unfolding wires_of
wire_held ss ps w {s} {p} e f h =
    let i : s ≡ suc (s - 1) = omega (arith, h) in
    sym (ap (λ (k : ℕ). entry k (get_or ps w 0)) (sym e ∙ i) ∙ ap (λ (k : ℕ). entry (suc (s - 1)) k) (sym f))

-- A CALL THAT ADDS NO RECORD, and what comes behind it

module _ {A : Type 0} {w : Writer A} where
  pub reads_pure : {a : A} → Reads w (ok a) → w ≡ pure a
  reads_pure h = fun_ext (λ n. h.reads n)

  pub reads_refuse : {number place : ℕ} → Reads w (no number place) → w ≡ refuse number place
  reads_refuse h = fun_ext (λ n. h.reads n)

  module _ {B : Type 0} (k : A → Writer B) where
    bound : {v : Writer A} → w ≡ v → (w >>= k) ≡ (v >>= k)
    bound q = ap (λ (x : Writer A). x >>= k) q

    pub reads_then : {a : A} {q : End B} → Reads w (ok a) → Reads (k a) q → Reads (w >>= k) q
    reads_then {a} h g = record { reads = λ n. ap (λ (x : Writer B). x n) (bound (reads_pure h) ∙ bind_pure a k) ∙ g.reads n }

    pub reads_stop : {number place : ℕ} → Reads w (no number place) → Reads (w >>= k) (no number place)
    reads_stop {number} {place} h = record { reads = λ n. ap (λ (x : Writer B). x n) (bound (reads_refuse h) ∙ bind_refuse number place k) }

    pub writes_after : {a : A} {r : Recorder} {q : End B} {r' : Recorder} → Reads w (ok a) → Writes r (k a) q r' → Writes r (w >>= k) q r'
    writes_after {a} h g = writes_as (bound (reads_pure h) ∙ bind_pure a k) g

    -- what a `?` hands on
    module _ {C : Type 0} (f : C → B) (q : Result C Refusal) (x : Refusal) (h : Reads w (no (number_of x) (place_of x))) (e : IsErrAnd q (λ y. y ≡ x)) where
      pub reads_err : Reads (w >>= k) (ended f q)
      reads_err = subst (λ (y : End B). Reads (w >>= k) y) (sym (handed f q x e)) (reads_stop h)

      pub unread_err : {r : Recorder} → Writes r (w >>= k) (ended f q) r
      unread_err {r} = subst (λ (y : End B). Writes r (w >>= k) y r) (sym (handed f q x e)) (writes_as (bound (reads_refuse h) ∙ bind_refuse (number_of x) (place_of x) k) writes_refuse)

pub reads_ok : {A : Type 0} {a : A} → Reads (pure a) (ok a)
reads_ok = record { reads = λ n. refl }

pub reads_as : {A : Type 0} {w w' : Writer A} {r : End A} → w' ≡ w → Reads w r → Reads w' r
reads_as {r = r} q h = subst (λ (x : Writer _). Reads x r) (sym q) h

-- an end that is chosen
pub reads_judged : {A : Type 0} (b : Bool) (a : A) (number place : ℕ) {r : End A} → r ≡ pick b (ok a) (no number place) → Reads (pick b (pure a) (refuse number place)) r
reads_judged b a number place {r} q = subst (λ (x : End _). Reads (pick b (pure a) (refuse number place)) x) (sym q) (go b)
  where
    go : (b : Bool) → Reads (pick b (pure a) (refuse number place)) (pick b (ok a) (no number place))
    go true = record { reads = λ n. refl }
    go false = record { reads = λ n. refl }

-- the reference of a wire
pub reads_found : (m : Wires) (w : ℕ) {r : WireRef} → Some r ≡ m w → Reads (wire_ref m w) (ok r)
unfolding wire_ref
reads_found m w e = record { reads = λ n. ap (λ (o : Option WireRef). ref_of o w n) (sym e) }

pub reads_missing : (m : Wires) (w : ℕ) → None ≡ m w → Reads (wire_ref m w) (no 8 w)
unfolding wire_ref
reads_missing m w e = record { reads = λ n. ap (λ (o : Option WireRef). ref_of o w n) (sym e) }

-- whether it is a whole signal of one bit
module _ (r : WireRef) (w : ℕ) where
  pub scalar_yes : r.lsb ≡ 0 → r.width ≡ 1 → ok r.signal ≡ pick (whole r) (ok r.signal) (no 9 w)
  scalar_yes p q = rw (eq-eqb r.lsb 0 p, eq-eqb r.width 1 q)

  pub scalar_lsb : (r.lsb ≡ 0 → ⊥) → no 9 w ≡ pick (whole r) (ok r.signal) (no 9 w)
  scalar_lsb p = rw (ne_eqb r.lsb 0 p)

  pub scalar_width : (r.width ≡ 1 → ⊥) → no 9 w ≡ pick (whole r) (ok r.signal) (no 9 w)
  scalar_width q = go (eqb r.lsb 0)
    where
      go : (b : Bool) → no 9 w ≡ pick (b && eqb r.width 1) (ok r.signal) (no 9 w)
      go true = rw (ne_eqb r.width 1 q)
      go false = refl

-- LENT WORK

pub roomy_yes : {A : Type 0} (n : ℕ) (work : List ℕ) (w : Writer A) → n ≤ length work → roomy n work w ≡ w
unfolding roomy
roomy_yes n work w h = rw (le-leb n (length work) h)

pub roomy_no : {A : Type 0} (n : ℕ) (work : List ℕ) (w : Writer A) → length work < n → roomy n work w ≡ refuse 1 n
unfolding roomy
roomy_no n work w h = rw (lt-leb n (length work) h)

-- VECTORS

pub concat_one : (l : List ℕ) {n : ℕ} → n ≡ 1 → 1 ≤ length l → concat_parts (take n l) ≡ pure (get_or l 0 0)
unfolding concat_parts
concat_one [] e h = absurd (omega arith)
concat_one (x ∷ l) e h = ap (λ (k : ℕ). concat_parts (take k (x ∷ l))) e

pub concat_more : (l : List ℕ) (n : ℕ) → n ≤ length l → (n ≡ 1 → ⊥) → concat_parts (take n l) ≡ emit (concat n (take n l))
unfolding concat_parts
concat_more l n h e = go (take n l) (length-take-le n l h)
  where
    go : (xs : List ℕ) → length xs ≡ n → concat_parts xs ≡ emit (concat n xs)
    go [] q = ap (λ (k : ℕ). emit (concat k [])) q
    go (x ∷ []) q = absurd (e (sym q))
    go (x ∷ y ∷ xs) q = ap (λ (k : ℕ). emit (concat k (x ∷ y ∷ xs))) q

-- what is left of a vector once some parts are done
abbrev pub vector_left : Wires → Seen → List Bit → ℕ → ℕ → List ℕ → Writer (Reading ℕ)
vector_left m seen bits at k parts = vector_parts m seen bits at k parts >>= λ r. keeping r.seen (concat_parts r.value)

module _ (m : Wires) (bits : List Bit) (at : ℕ) where
  pub vector_start : (seen : Seen) (k : ℕ) (parts : List ℕ) → vector_once m seen bits at k ≡ vector_left m seen bits at (k - 0) (take 0 parts)
  unfolding vector_once
  vector_start seen k parts = let z : k ≡ k - 0 = omega arith in ap (λ (i : ℕ). vector_left m seen bits at i []) z

  pub vector_more : (seen : Seen) (left : ℕ) (parts : List ℕ) → 1 ≤ left
      → vector_left m seen bits at left parts ≡ (bit_once m seen (vector_bit bits (at + (left - 1))) >>= λ r. vector_left m r.seen bits at (left - 1) (parts ++ (r.value ∷ [])))
  unfolding vector_parts
  vector_more seen left parts h =
      let i : left ≡ suc (left - 1) = omega arith in
      ap (λ (k : ℕ). vector_left m seen bits at k parts) i
      ∙ bind_assoc (bit_once m seen (vector_bit bits (at + (left - 1)))) (λ r. vector_parts m r.seen bits at (left - 1) (parts ++ (r.value ∷ []))) (λ r. keeping r.seen (concat_parts r.value))

  pub vector_done : (seen : Seen) {left : ℕ} (parts : List ℕ) → left ≡ 0 → vector_left m seen bits at left parts ≡ keeping seen (concat_parts parts)
  unfolding vector_parts
  vector_done seen parts z = ap (λ (k : ℕ). vector_left m seen bits at k parts) z ∙ bind_pure (with_seen parts seen) (λ r. keeping r.seen (concat_parts r.value))

pub vector_bit_there : (words : List ℕ) (at n i : ℕ) → i < n → bit_at words (at + i) ≡ vector_bit (bits_at words at n) i
vector_bit_there words at n i h = sym (bits_get words at n Zero i h)

pub vector_bit_none : (words : List ℕ) (at n i : ℕ) → n ≤ i → Zero ≡ vector_bit (bits_at words at n) i
vector_bit_none words at n i h = sym (get_or-eq_default (bits_at words at n) Zero (subst (λ (k : ℕ). k ≤ i) (sym (bits_length words at n)) h))
