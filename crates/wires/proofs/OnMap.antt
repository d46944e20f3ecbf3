-- A call that reads through the emitter's map reads through the map that the cell began with.
use Rattle.std.specs.Prelude.{◌≡◌, List, ℕ}
use Rattle.std.proofs.Common.{ap, sym, ◌∙◌, subst}
use Rattle.netlist.specs.declared.Bit.{Bit}
use Rattle.netlist.specs.declared.Control.{Control}
use Rattle.recorder.specs.Writer.{Writer, End}
use Rattle.wires.specs.declared.Emitter.{Emitter}
use Rattle.wires.specs.Seen.{Reading}
use Rattle.wires.specs.Wires.{Wires, wires_in}
use Rattle.wires.specs.Once.{seen_in, SameCell, Once, Plain, Begins}
use Rattle.wires.specs.Expressions.{bit_once, asserted_once, vector_once, roomy, assign_wire, read_bits}

pub map_begun : {e e' : Emitter} → Begins e e' → wires_in e.map ≡ wires_in e'.map
map_begun h = ap wires_in (sym h.map)

module _ {e : Emitter} {m : Wires} (q : m ≡ wires_in e.map) where
  pub map_on : {e' : Emitter} → SameCell e e' → m ≡ wires_in e'.map
  map_on h = q ∙ ap wires_in (sym h.map)

  pub once_on : {A : Type 0} (w : Wires → Writer (Reading A)) {r : End A} {e' : Emitter} → Once e (w (wires_in e.map)) r e' → Once e (w m) r e'
  once_on w {r} {e'} h = subst (λ (x : Wires). Once e (w x) r e') (sym q) h

  pub plain_on : {A : Type 0} (w : Wires → Writer A) {r : End A} {e' : Emitter} → Plain e (w (wires_in e.map)) r e' → Plain e (w m) r e'
  plain_on w {r} {e'} h = subst (λ (x : Wires). Plain e (w x) r e') (sym q) h

  pub bit_on : (b : Bit) → {r : End ℕ} {e' : Emitter} → Once e (bit_once (wires_in e.map) (seen_in e) b) r e' → Once e (bit_once m (seen_in e) b) r e'
  bit_on b h = once_on (λ x. bit_once x (seen_in e) b) h

  pub asserted_on : (c : Control) → {r : End ℕ} {e' : Emitter} → Once e (asserted_once (wires_in e.map) (seen_in e) c) r e' → Once e (asserted_once m (seen_in e) c) r e'
  asserted_on c h = once_on (λ x. asserted_once x (seen_in e) c) h

  pub bits_on : (bs : List Bit) (done : List ℕ) → {r : End (List ℕ)} {e' : Emitter} → Once e (read_bits (wires_in e.map) (seen_in e) bs done) r e' → Once e (read_bits m (seen_in e) bs done) r e'
  bits_on bs done h = once_on (λ x. read_bits x (seen_in e) bs done) h

  pub vector_on : (n : ℕ) (work : List ℕ) (bs : List Bit) (at k : ℕ) → {r : End ℕ} {e' : Emitter} → Once e (roomy n work (vector_once (wires_in e.map) (seen_in e) bs at k)) r e' → Once e (roomy n work (vector_once m (seen_in e) bs at k)) r e'
  vector_on n work bs at k h = once_on (λ x. roomy n work (vector_once x (seen_in e) bs at k)) h

  pub assign_on : (w v : ℕ) → {r : End (Unit {0})} {e' : Emitter} → Plain e (assign_wire (wires_in e.map) w v) r e' → Plain e (assign_wire m w v) r e'
  assign_on w v h = plain_on (λ x. assign_wire x w v) h
