-- The next bits of a bank's members, and the constants that its reset loads: what a loop has done and what is left.
use mathlib.Core.Path.{◌≡◌, refl, ap, sym, ◌∙◌, subst}
use mathlib.Core.Bool.{Bool}
use mathlib.Core.List.{List, [], ◌∷◌}
use Rattle.std.specs.Prelude.{Option, Some, Result, IsErrAnd}
use Prim.Native.Nat.{ℕ, zero, suc, ◌+◌, ◌-◌, ◌≤◌, ◌<◌}
use native.Mathlib.Omega.{arith}
use lib.ListN.{length, take, drop, set}
use borrow.Author.Tests.{eq-eqb, ne_eqb}
use Rattle.bits.specs.Bits.{pick}
use Rattle.netlist.specs.declared.Bit.{Bit}
use Rattle.netlist.specs.declared.Bit.TheVariants.{Wire}
use Rattle.netlist.specs.declared.Control.{Control}
use Rattle.netlist.specs.declared.Reset.{Reset}
use Rattle.netlist.specs.Fields.{word_at, bit_at, optional_control_at, optional_reset_at}
use Rattle.behaviour.specs.Banks.{Member}
use Rattle.recorder.specs.Record.{Expr.mux}
use Rattle.recorder.specs.Writer.{Writer, End, End.ok, End.no, pure, emit, ◌>>=◌}
use Rattle.recorder.proofs.Events.{bind_pure, bind_assoc}
use Rattle.recorder.specs.declared.Recorder.{Recorder}
use Rattle.recorder.specs.Calls.{Writes, ended}
use Rattle.recorder.proofs.Calls.{handed, writes_as, Underway, underway_start, underway_step, underway_stop, underway_end}
use Rattle.refusal.specs.declared.Refusal.{Refusal}
use Rattle.refusal.specs.Refusal.{number_of, place_of}
use Rattle.wires.specs.Wires.{Wires}
use Rattle.wires.specs.Expressions.{wire_ref, read_ref, bit_expression, asserted_expression, concat_parts, roomy}
use Rattle.wires.proofs.Laws.{roomy_yes}
use Rattle.lowering.specs.Emit.{with_enable, reset_bit, with_reset, next_bit, next_bits, reset_bits}
use Rattle.converter.specs.Banked.{flop_at}
use Rattle.converter.specs.BankEmits.{next_value}

-- ONE BIT

module _ (m : Wires) where
  pub enable_some : (output : ℕ) {o : Option Control} {c : Control} → o ≡ Some c → (next : ℕ) → with_enable m output o next ≡ (bit_expression m (Wire output) >>= λ q. asserted_expression m c >>= λ y. emit (mux 1 y next q))
  unfolding bit_expression
  enable_some output {c = c} e next = ap (λ (x : Option Control). with_enable m output x next) e ∙ sym (bind_assoc (wire_ref m output) read_ref (λ q. asserted_expression m c >>= λ y. emit (mux 1 y next q)))

  pub reset_async : {o : Option Reset} {r : Reset} → o ≡ Some r → r.asynchronous ≡ 1 → (next : ℕ) → with_reset m o next ≡ pure next
  reset_async {r = r} e q next = ap (λ (x : Option Reset). with_reset m x next) e ∙ ap (λ (b : Bool). pick b (pure next) (asserted_expression m (record { signal = r.signal; active = r.active }) >>= λ y. emit (mux 1 y (reset_bit (Some r)) next))) (eq-eqb r.asynchronous 1 q)

  pub reset_sync : {o : Option Reset} {r : Reset} → o ≡ Some r → (r.asynchronous ≡ 1 → ⊥) → {v : ℕ} → v ≡ reset_bit (Some r) → (next : ℕ) → with_reset m o next ≡ (asserted_expression m (record { signal = r.signal; active = r.active }) >>= λ y. emit (mux 1 y v next))
  reset_sync {r = r} e q f next =
      ap (λ (x : Option Reset). with_reset m x next) e
      ∙ ap (λ (b : Bool). pick b (pure next) (asserted_expression m (record { signal = r.signal; active = r.active }) >>= λ y. emit (mux 1 y (reset_bit (Some r)) next))) (ne_eqb r.asynchronous 1 q)
      ∙ ap (λ (x : ℕ). asserted_expression m (record { signal = r.signal; active = r.active }) >>= λ y. emit (mux 1 y x next)) (sym f)

  pub next_is : (words : List ℕ) (at : ℕ) {d : Bit} {output : ℕ} {en : Option Control} {rs : Option Reset} → d ≡ bit_at words (at + 1) → output ≡ word_at words (at + 2) → en ≡ optional_control_at words (at + 5) → rs ≡ optional_reset_at words (at + 8)
      → next_bit m (flop_at words at) ≡ (bit_expression m d >>= λ x. with_enable m output en x >>= λ e. with_reset m rs e)
  unfolding next_bit
  next_is words at p q r s = λ i. bit_expression m (sym p i) >>= λ x. with_enable m (sym q i) (sym r i) x >>= λ e. with_reset m (sym s i) e

-- PARTS, written from the end of the first `width` words down

abbrev pub parts_done : ℕ → ℕ → List ℕ → List ℕ
parts_done width left parts = take (width - left) (drop left parts)

set_here : (l : List ℕ) (i v : ℕ) → i < length l → drop i (set l i v) ≡ v ∷ drop (suc i) l
set_here [] i v h = absurd (omega arith)
set_here (x ∷ l) zero v h = refl
set_here (x ∷ l) (suc i) v h = set_here l i v (omega arith)

parts_none : (width : ℕ) (parts : List ℕ) → parts_done width width parts ≡ []
parts_none width parts = let z : width - width ≡ 0 = omega arith in ap (λ (k : ℕ). take k (drop width parts)) z

parts_more : (width left : ℕ) (parts : List ℕ) (e : ℕ) → 1 ≤ left → left ≤ width → width ≤ length parts → parts_done width (left - 1) (set parts (left - 1) e) ≡ e ∷ parts_done width left parts
parts_more width left parts e h g room =
    let a : width - (left - 1) ≡ suc (width - left) = omega arith in
    let b : suc (left - 1) ≡ left = omega arith in
    ap (λ (k : ℕ). take k (drop (left - 1) (set parts (left - 1) e))) a
    ∙ ap (λ (l : List ℕ). take (suc (width - left)) l) (set_here parts (left - 1) e (omega arith))
    ∙ ap (λ (k : ℕ). e ∷ take (width - left) (drop k parts)) b

parts_all : (width left : ℕ) (parts : List ℕ) → left ≡ 0 → parts_done width left parts ≡ take width parts
parts_all width left parts z =
    let a : width - left ≡ width = omega arith in
    ap (λ (k : ℕ). take k (drop left parts)) a ∙ ap (λ (k : ℕ). take width (drop k parts)) z

-- so many are left as there are members
pub record Counting (width left : ℕ) (parts₀ parts : List ℕ) (rest : List Member) : Type 0 where
  pub low : left ≤ width
  pub are : left ≡ length rest
  pub room : width ≤ length parts₀
  pub kept : length parts ≡ length parts₀

pub counting_start : {width : ℕ} {parts : List ℕ} {all : List Member} → width ≤ length parts → width ≡ length all → Counting width width parts parts all
counting_start r w = record { low = omega arith; are = w; room = r; kept = refl }

module _ {width left : ℕ} {parts₀ parts : List ℕ} {rest : List Member} (c : Counting width left parts₀ parts rest) where
  pub counting_some : {x : Member} {more : List Member} → rest ≡ x ∷ more → 1 ≤ left
  counting_some e = omega (arith, c.are, ap length e)

  pub counting_step : {parts' : List ℕ} → length parts' ≡ length parts → {x : Member} {more : List Member} → rest ≡ x ∷ more → Counting width (left - 1) parts₀ parts' more
  counting_step k e = record { low = omega (arith, c.low); are = omega (arith, c.are, ap length e); room = c.room; kept = k ∙ c.kept }

  pub counting_end : rest ≡ [] → left ≡ 0
  counting_end e = omega (arith, c.are, ap length e)

  pub counting_index : {x : Member} {more : List Member} → rest ≡ x ∷ more → left - 1 < length parts
  counting_index e = omega (arith, counting_some e, c.low, c.room, c.kept)

  counting_room : width ≤ length parts
  counting_room = omega (arith, c.room, c.kept)

  parts_step : (e : ℕ) {x : Member} {more : List Member} → rest ≡ x ∷ more → parts_done width (left - 1) (set parts (left - 1) e) ≡ e ∷ parts_done width left parts
  parts_step e q = parts_more width left parts e (counting_some q) c.low counting_room

-- THE NEXT VALUE

-- the members left, once some parts are done
abbrev next_left : Wires → List Member → List ℕ → Writer ℕ
next_left m rest parts = next_bits m rest parts >>= concat_parts

next_more : (m : Wires) (x : Member) (more : List Member) (parts : List ℕ) → next_left m (x ∷ more) parts ≡ (next_bit m x.flop >>= λ e. next_left m more (e ∷ parts))
unfolding next_bits
next_more m x more parts = bind_assoc (next_bit m x.flop) (λ e. next_bits m more (e ∷ parts)) concat_parts

next_done : (m : Wires) (parts : List ℕ) → next_left m [] parts ≡ concat_parts parts
unfolding next_bits
next_done m parts = bind_pure parts concat_parts

pub record Nexting (m : Wires) (all : List Member) (width : ℕ) (r₀ r : Recorder) (left : ℕ) (parts : List ℕ) (rest : List Member) : Type 0 where
  pub goes : Underway r₀ (next_value m all) r (next_left m rest (parts_done width left parts))

module _ {m : Wires} {all : List Member} {width : ℕ} {r₀ : Recorder} where
  pub nexting_start : (parts : List ℕ) → Nexting m all width r₀ r₀ width parts all
  nexting_start parts = record { goes = underway_start (ap (λ (ps : List ℕ). next_left m all ps) (sym (parts_none width parts))) }

  module _ {r : Recorder} {left : ℕ} {parts : List ℕ} {rest : List Member} (now : Nexting m all width r₀ r left parts rest) {parts₀ : List ℕ} (c : Counting width left parts₀ parts rest) where
    module _ {x : Member} {more : List Member} (is : rest ≡ x ∷ more) where
      abbrev then : ℕ → Writer ℕ
      then z = next_left m more (z ∷ parts_done width left parts)

      one : next_left m rest (parts_done width left parts) ≡ (next_bit m x.flop >>= then)
      one = ap (λ (ms : List Member). next_left m ms (parts_done width left parts)) is ∙ next_more m x more (parts_done width left parts)

      pub nexting_step : {y : ℕ} {r₁ : Recorder} → Writes r (next_bit m x.flop) (ok y) r₁ → Nexting m all width r₀ r₁ (left - 1) (set parts (left - 1) y) more
      nexting_step {y} {r₁} h = record { goes = subst (λ (ps : List ℕ). Underway r₀ (next_value m all) r₁ (next_left m more ps)) (sym (parts_step c y is)) (underway_step then now.goes one h refl) }

      pub nexting_err : {C : Type 0} (f : C → ℕ) (q : Result C Refusal) (y : Refusal) → IsErrAnd q (λ z. z ≡ y) → {r₁ : Recorder} → Writes r (next_bit m x.flop) (no (number_of y) (place_of y)) r₁ → Writes r₀ (next_value m all) (ended f q) r₁
      nexting_err f q y e {r₁} h = subst (λ (z : End ℕ). Writes r₀ (next_value m all) z r₁) (sym (handed f q y e)) (underway_stop then now.goes one h refl)

    pub nexting_end : rest ≡ [] → {e : End ℕ} {r₁ : Recorder} → Writes r (roomy width parts (concat_parts (take width parts))) e r₁ → Writes r₀ (next_value m all) e r₁
    nexting_end q h =
        underway_end now.goes
        (ap (λ (ms : List Member). next_left m ms (parts_done width left parts)) q ∙ next_done m (parts_done width left parts) ∙ ap concat_parts (parts_all width left parts (counting_end c q)) ∙ sym (roomy_yes width parts (concat_parts (take width parts)) (counting_room c)))
        h

-- THE RESET'S VALUE

pub record Loading (all : List Member) (width left : ℕ) (parts : List ℕ) (rest : List Member) : Type 0 where
  pub so : reset_bits rest (parts_done width left parts) ≡ reset_bits all []

module _ {all : List Member} {width : ℕ} where
  pub loading_start : (parts : List ℕ) → Loading all width width parts all
  loading_start parts = record { so = ap (reset_bits all) (parts_none width parts) }

  module _ {left : ℕ} {parts : List ℕ} {rest : List Member} (now : Loading all width left parts rest) {parts₀ : List ℕ} (c : Counting width left parts₀ parts rest) where
    pub loading_step : {x : Member} {more : List Member} → rest ≡ x ∷ more → {v : ℕ} → v ≡ reset_bit x.flop.reset → Loading all width (left - 1) (set parts (left - 1) v) more
    unfolding reset_bits
    loading_step {x} {more} is {v} e = record {
      so =
          ap (reset_bits more) (parts_step c v is ∙ ap (λ (y : ℕ). y ∷ parts_done width left parts) e)
          ∙ sym (ap (λ (ms : List Member). reset_bits ms (parts_done width left parts)) is) ∙ now.so;
    }

    pub loading_end : rest ≡ [] → take width parts ≡ reset_bits all []
    unfolding reset_bits
    loading_end q = sym (parts_all width left parts (counting_end c q)) ∙ sym (ap (λ (ms : List Member). reset_bits ms (parts_done width left parts)) q) ∙ now.so

-- the constants as one value
pub loaded : {r r' : Recorder} {width : ℕ} (parts : List ℕ) {e : End ℕ} (all : List Member) → width ≤ length parts → take width parts ≡ reset_bits all [] → Writes r (roomy width parts (concat_parts (take width parts))) e r' → Writes r (concat_parts (reset_bits all [])) e r'
loaded {width = width} parts all r q h = writes_as (ap concat_parts (sym q) ∙ sym (roomy_yes width parts (concat_parts (take width parts)) r)) h
