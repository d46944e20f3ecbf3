-- Laws of the ports' expressions.
use mathlib.Core.Path.{◌≡◌, refl, ap, ap₂, sym, ◌∙◌}
use mathlib.Core.List.{List, ◌∷◌}
use Rattle.std.specs.Prelude.{Option, None, Some}
use Prim.Native.Nat.{ℕ, zero, suc, ◌+◌, ◌-◌, ◌≤◌, ◌<◌, min}
use native.Mathlib.Nat.{add-zero}
use native.Mathlib.Omega.{arith}
use lib.ListN.{length, take, get_or}
use lib.Seq.{length-take-le}
use Rattle.netlist.specs.declared.Bit.{Bit}
use Rattle.netlist.specs.declared.Control.{Control}
use Rattle.netlist.specs.Netlist.{SecondPort}
use Rattle.netlist.specs.Fields.{records_at, after, when_set, word_at, bit_at, bits_at, wires_at, control_at, first_size, second_port_at, ram_at}
use Rattle.netlist.specs.declared.fields.Fields.{Fields}
use Rattle.netlist.proofs.WordLaws.{word_ahead, bit_ahead, set_absent, set_present}
use Rattle.netlist.proofs.RecordLaws.{bits_length, wires_get}
use Rattle.std.specs.Prelude.{Result, IsErrAnd}
use Rattle.refusal.specs.declared.Refusal.{Refusal}
use Rattle.refusal.specs.Refusal.{number_of, place_of}
use Rattle.recorder.specs.Writer.{Writer, End, End.ok, End.no, pure, ◌>>=◌}
use Rattle.recorder.specs.Calls.{ended}
use Rattle.wires.specs.declared.Emitter.{Emitter}
use Rattle.wires.specs.Wires.{Wires, wires_in}
use Rattle.wires.specs.Seen.{Seen, standing, with_seen}
use Rattle.wires.specs.Once.{seen_of, seen_in, Once, Plain}
use Rattle.wires.specs.Expressions.{asserted_once, vector_once, bits_once, roomy}
use Rattle.wires.proofs.Laws.{roomy_yes}
use Rattle.wires.proofs.OnceLaws.{seen_known, seen_unknown, once_as, once_err, once_pure, plain_then, seen_plain}
use Rattle.wires.proofs.OnMap.{once_on}
use Rattle.address_mux.specs.Address.{at_most}
use Rattle.address_mux.proofs.Addresses.{at_most_yes}
use Rattle.memories.specs.Memories.{PortExprs, Gate, gate, own_read, second_exprs, second_output}
use Rattle.memories.specs.Rams.{second_addressed, addressed}
use Rattle.memories.specs.Steps.{second_at}

-- A RECORD FROM AN INDEX ON THAT WAS CUT TO THE NUMBER OF WORDS

module _ (words : List ℕ) (j i : ℕ) (cut : i ≡ min j (length words)) where
  many : {A : Type 0} (value : ℕ → A) → ((k : ℕ) → value (i + k) ≡ value (j + k)) → (n k : ℕ) → records_at value after n (i + k) ≡ records_at value after n (j + k)
  unfolding records_at
  many value h zero k = refl
  many value h (suc n) k =
      let p : i + k + 1 ≡ i + (k + 1) = omega arith in
      let q : j + (k + 1) ≡ j + k + 1 = omega arith in
      ap₂ (λ b l. b ∷ l) (h k)
      (ap (λ (a : ℕ). records_at value after n a) p ∙ many value h n (k + 1) ∙ ap (λ (a : ℕ). records_at value after n a) q)

  pub bits_ahead : (n k : ℕ) → bits_at words (i + k) n ≡ bits_at words (j + k) n
  bits_ahead n k = many (bit_at words) (λ k. bit_ahead words j i cut k) n k

  wires_ahead : (n k : ℕ) → wires_at words (i + k) n ≡ wires_at words (j + k) n
  wires_ahead n k = many (word_at words) (λ k. word_ahead words j i cut k) n k

  control_ahead : (k : ℕ) → control_at words (i + k) ≡ control_at words (j + k)
  control_ahead k =
      let p : i + k + 1 ≡ i + (k + 1) = omega arith in
      let q : j + (k + 1) ≡ j + k + 1 = omega arith in
      ap₂ (λ b a. record { signal = b; active = a }) (bit_ahead words j i cut k) (ap (word_at words) p ∙ word_ahead words j i cut (k + 1) ∙ ap (word_at words) q)

  optional_ahead : (k : ℕ) → when_set (word_at words (i + k)) (control_at words (i + k + 1)) ≡ when_set (word_at words (j + k)) (control_at words (j + k + 1))
  optional_ahead k =
      let p : i + k + 1 ≡ i + (k + 1) = omega arith in
      let q : j + (k + 1) ≡ j + k + 1 = omega arith in
      ap₂ (λ n c. when_set n c) (word_ahead words j i cut k) (ap (control_at words) p ∙ control_ahead (k + 1) ∙ ap (control_at words) q)

  -- a second port
  pub second_ahead : (width : ℕ) → second_port_at words i width ≡ second_port_at words j width
  second_ahead width = λ x. record {
    address = (ap (λ (a : ℕ). bits_at words a 14) (sym (add-zero i)) ∙ bits_ahead 14 0 ∙ ap (λ (a : ℕ). bits_at words a 14) (add-zero j)) x;
    write = control_ahead 14 x;
    read_enable = optional_ahead 16 x;
    clock_enable = optional_ahead 19 x;
    clock = bit_ahead words j i cut 22 x;
    edge = word_ahead words j i cut 23 x;
    input = bits_ahead width 24 x;
    output = wires_ahead width (24 + width) x;
  }

-- the second port of a block RAM, through its fields
pub second_same_at : (words : List ℕ) (at : ℕ) (f : Fields) {g : Fields} {width : ℕ} → g ≡ record f { at = min (at + first_size words (word_at words (at + 2))) (length words) } → width ≡ word_at words (at + 2) → f.words.now ≡ words → second_port_at g.words.now g.at width ≡ second_at words at
second_same_at words at f {g} {width} q w z =
    ap₂ (λ (x : Fields) (k : ℕ). second_port_at x.words.now x.at k) q w
    ∙ ap (λ (l : List ℕ). second_port_at l (min (at + first_size words (word_at words (at + 2))) (length words)) (word_at words (at + 2))) z
    ∙ second_ahead words (at + first_size words (word_at words (at + 2))) _ refl (word_at words (at + 2))

-- THE STEPS OF A PORT, under the names that its definition has

module _ {e : Emitter} {m : Wires} (q : m ≡ wires_in e.map) {r : End ℕ} {e' : Emitter} where
  pub address_on : (bits : List Bit) (shift width : ℕ) → width ≤ 33 → Once e (at_most 33 width (vector_once (wires_in e.map) (seen_in e) bits shift width)) r e' → Once e (vector_once m (seen_in e) bits shift width) r e'
  address_on bits shift width h g = once_on q (λ x. vector_once x (seen_in e) bits shift width) (once_as (sym (at_most_yes 33 width _ h)) g)

  pub bits_on : {bits bits' : List Bit} (shift width : ℕ) → bits' ≡ bits → width ≤ 33 → Once e (at_most 33 width (vector_once (wires_in e.map) (seen_in e) bits shift width)) r e' → Once e (vector_once m (seen_in e) bits' shift width) r e'
  bits_on {bits} shift width p h g = once_as (ap (λ (b : List Bit). vector_once m (seen_in e) b shift width) p) (address_on bits shift width h g)

  pub data_on : {bits bits' : List Bit} → bits' ≡ bits → Once e (bits_once (wires_in e.map) (seen_in e) bits) r e' → Once e (bits_once m (seen_in e) bits') r e'
  data_on {bits} p g = once_as (ap (bits_once m (seen_in e)) p) (once_on q (λ x. bits_once x (seen_in e) bits) g)

  pub control_on : {c c' : Control} → c' ≡ c → Once e (asserted_once (wires_in e.map) (seen_in e) c) r e' → Once e (asserted_once m (seen_in e) c') r e'
  control_on {c} p g = once_as (ap (asserted_once m (seen_in e)) p) (once_on q (λ x. asserted_once x (seen_in e) c) g)

pub gate_on : {e : Emitter} {m : Wires} → m ≡ wires_in e.map → {c c' : Control} {o o' : Option Control} → c' ≡ c → o' ≡ o → {r : End _} {e' : Emitter} → Once e (gate (wires_in e.map) (seen_in e) c o) r e' → Once e (gate m (seen_in e) c' o') r e'
gate_on {e} {m} q {c} {c'} {o} {o'} p s g = once_as (ap₂ (gate m (seen_in e)) p s) (once_on q (λ x. gate x (seen_in e) c o) g)

-- the write control comes first, whatever the clock enable
pub gate_err : {C : Type 0} {e e' : Emitter} (m : Wires) (c : Control) (o : Option Control) (f : C → Gate) (q : Result C Refusal) (x : Refusal) → IsErrAnd q (λ y. y ≡ x) → Once e (asserted_once m (seen_in e) c) (no (number_of x) (place_of x)) e' → Once e (gate m (seen_in e) c o) (ended f q) e'
unfolding gate
gate_err m c None f q x h g = once_err f q x h g _
gate_err m c (Some d) f q x h g = once_err f q x h g _

-- the last step reads nothing
pub plain_last : {A B : Type 0} {e e' : Emitter} {w : Writer A} {a : A} → Plain e w (ok a) e' → (f : A → B) → Once e (w >>= λ x. pure (with_seen (f x) (seen_in e))) (ok (f a)) e'
plain_last {e = e} {a = a} h f = plain_then h (λ x. pure (with_seen (f x) (seen_in e))) (once_as (ap (λ (s : Seen). pure (with_seen (f a) s)) (sym (seen_plain h))) once_pure)

-- the last step: the read enable is the record's
pub port_last : {e : Emitter} (p : PortExprs) {en : Option Control} → en ≡ p.read_enable → Once e (pure (with_seen (record p { read_enable = en }) (seen_in e))) (ok p) e
port_last {e} p q = once_as (ap (λ (x : Option Control). pure (with_seen (record p { read_enable = x }) (seen_in e))) q) once_pure

pub second_last : {e : Emitter} (p : PortExprs) {en : Option Control} {out : List ℕ} → en ≡ p.read_enable → out ≡ p.read_data → Once e (pure (with_seen (Some (record p { read_enable = en; read_data = out })) (seen_in e))) (ok (Some p)) e
second_last {e} p q s = once_as (ap₂ (λ (x : Option Control) (y : List ℕ). pure (with_seen (Some (record p { read_enable = x; read_data = y })) (seen_in e))) q s) once_pure

-- data: the work has room
pub data_as : (m : Wires) (seen : Seen) (words parts : List ℕ) (n i j : ℕ) → n ≤ length parts → i ≡ min j (length words)
    → bits_once m seen (bits_at words j n) ≡ roomy n (take n parts) (vector_once m seen (bits_at words i n) 0 n)
data_as m seen words parts n i j room cut =
    let long : length (take n parts) ≡ n = length-take-le n parts room in
    ap (λ (w : ℕ). vector_once m seen (bits_at words j n) 0 w) (bits_length words j n)
    ∙ ap (λ (b : List Bit). vector_once m seen b 0 n) (sym (ap (λ (a : ℕ). bits_at words a n) (sym (add-zero i)) ∙ bits_ahead words j i cut n 0 ∙ ap (λ (a : ℕ). bits_at words a n) (add-zero j)))
    ∙ sym (roomy_yes n (take n parts) (vector_once m seen (bits_at words i n) 0 n) (omega (arith, long)))

-- whether there is a second port; its address comes by itself
module _ (m : Wires) (seen : Seen) (shift aw n : ℕ) (p : SecondPort) (a : List Bit) where
  pub second_none : n ≡ 0 → second_exprs m seen shift aw (second_addressed (when_set n p) a) ≡ pure (with_seen None seen)
  second_none h = ap (λ (o : Option SecondPort). second_exprs m seen shift aw (second_addressed o a)) (sym (set_absent n p h))

  pub second_some : {p' : SecondPort} → p' ≡ p → (n ≡ 0 → ⊥) → second_exprs m seen shift aw (second_addressed (when_set n p) a) ≡ second_exprs m seen shift aw (second_addressed (Some p') a)
  second_some {p'} e h = ap (λ (o : Option SecondPort). second_exprs m seen shift aw (second_addressed o a)) (sym (set_present n p p h refl)) ∙ ap (λ (x : SecondPort). second_exprs m seen shift aw (second_addressed (Some x) a)) (sym e)

-- THE FIRST WIRE

pub no_wire : (words : List ℕ) (i : ℕ) {n : ℕ} → n ≡ 0 → 0 ≡ get_or (wires_at words i n) 0 0
unfolding records_at
no_wire words i e = sym (ap (λ (k : ℕ). get_or (wires_at words i k) 0 0) e)

pub some_wire : (words : List ℕ) (i n : ℕ) → (n ≡ 0 → ⊥) → word_at words i ≡ get_or (wires_at words i n) 0 0
some_wire words i n h = sym (wires_get words i n 0 0 (omega (arith, h)) ∙ ap (λ (k : ℕ). word_at words k) (add-zero i))

-- THE OWN READ of a read register: its signal has one bit, and the cell has read it

pub own_other : (seen : Seen) (words : List ℕ) (i n : ℕ) → (n ≡ 1 → ⊥) → None ≡ own_read seen (wires_at words i n)
unfolding records_at
own_other seen words i zero h = refl
own_other seen words i (suc zero) h = absurd (h refl)
own_other seen words i (suc (suc n)) h = refl

own_one : (seen : Seen) (words : List ℕ) (i n : ℕ) → n ≡ 1 → standing seen (word_at words i) ≡ own_read seen (wires_at words i n)
unfolding records_at
own_one seen words i n h = ap (λ (k : ℕ). own_read seen (wires_at words i k)) (sym h)

module _ (first : ℕ) (table words : List ℕ) (i n : ℕ) {known : ℕ} (is : known ≡ get_or table (word_at words i) 0) where
  pub own_known : n ≡ 1 → first < known → Some (known - 1) ≡ own_read (seen_of first table) (wires_at words i n)
  own_known h g =
      let k : first < get_or table (word_at words i) 0 = omega (arith, is) in
      ap (λ (x : ℕ). Some (x - 1)) is ∙ sym (seen_known first table (word_at words i) k) ∙ own_one (seen_of first table) words i n h

  pub own_unknown : n ≡ 1 → known ≤ first → None ≡ own_read (seen_of first table) (wires_at words i n)
  own_unknown h g =
      let k : get_or table (word_at words i) 0 ≤ first = omega (arith, is) in
      sym (seen_unknown first table (word_at words i) k) ∙ own_one (seen_of first table) words i n h

module _ (seen : Seen) (n : ℕ) (p : SecondPort) where
  pub own_present : {p' : SecondPort} → p' ≡ p → (n ≡ 0 → ⊥) → own_read seen p'.output ≡ own_read seen (second_output (when_set n p))
  own_present e h = ap (λ (x : SecondPort). own_read seen x.output) e ∙ ap (λ (o : Option SecondPort). own_read seen (second_output o)) (set_present n p p h refl)

-- ADDRESSES THAT COME BY THEMSELVES: those of the words make the cell at an index

second_same : (n : ℕ) (p : SecondPort) → second_addressed (when_set n p) p.address ≡ when_set n p
second_same zero p = refl
second_same (suc n) p = refl

pub addressed_same : (words : List ℕ) (at : ℕ)
    → addressed (ram_at words at) (bits_at words (at + 4) 14) (bits_at words (at + 20) 14) (bits_at words (at + first_size words (word_at words (at + 2))) 14) ≡ ram_at words at
addressed_same words at = λ i. record {
  depth = (ram_at words at).depth;
  width = (ram_at words at).width;
  physical = (ram_at words at).physical;
  write_address = bits_at words (at + 4) 14;
  write = (ram_at words at).write;
  read_address = bits_at words (at + 20) 14;
  read_enable = (ram_at words at).read_enable;
  clock_enable = (ram_at words at).clock_enable;
  clock = (ram_at words at).clock;
  edge = (ram_at words at).edge;
  second = second_same (word_at words (at + 42)) (second_at words at) i;
  input = (ram_at words at).input;
  output = (ram_at words at).output;
}
