-- Refusals handed on as another kind of answer, and the cells' definitions in the form of their code.
use mathlib.Core.Path.{◌≡◌, refl, ap, ap₂, sym, ◌∙◌, subst, fun_ext}
use mathlib.Core.List.{List, [], ◌∷◌}
use Prim.Native.Nat.{ℕ, zero, suc, ◌+◌, ◌≤◌, min}
use native.Mathlib.Nat.{add-zero}
use native.Mathlib.Omega.{arith}
use lib.Dec.{eqb}
use lib.ListN.{length, get_or}
use Rattle.bits.specs.Bits.{pick}
use Rattle.netlist.specs.declared.Bit.{Bit}
use Rattle.netlist.specs.declared.fields.Fields.{Fields}
use Rattle.netlist.specs.declared.Bit.TheVariants.{Zero}
use Rattle.netlist.specs.Fields.{records_at, after, word_at, bit_at, bits_at, wires_at}
use Rattle.netlist.proofs.WordLaws.{bit_ahead}
use Rattle.recorder.specs.Record.{Expr.mul}
use Rattle.recorder.specs.Writer.{Writer, pure, emit, ◌>>=◌}
use Rattle.optimize.specs.Rewrite.{xor_of, mux_of}
use Rattle.optimize.specs.Lut.{lut_cofactor, numbers}
use Rattle.recorder.specs.declared.ExprId.{ExprId}
use Rattle.wires.specs.Wires.{Wires}
use Rattle.wires.specs.Seen.{Seen, with_seen, keeping}
use Rattle.wires.specs.Expressions.{bit_expression, bit_once, vector_once, read_bits, assign_wire, roomy}
use Rattle.wires.proofs.Laws.{roomy_yes}
use Rattle.cells.specs.Cells.{emit_multiplier, ccu_row, emit_cycle_pll, pll_clocks}
use Rattle.cells.specs.Answers.{pll_of}

-- FOUR INPUTS

pub read_four : (m : Wires) (seen : Seen) (l : List Bit) → length l ≡ 4
    → read_bits m seen l [] ≡ (bit_once m seen (get_or l 0 Zero) >>= λ a. bit_once m a.seen (get_or l 1 Zero) >>= λ b. bit_once m b.seen (get_or l 2 Zero) >>= λ c. bit_once m c.seen (get_or l 3 Zero) >>= λ d. pure (with_seen (a.value ∷ b.value ∷ c.value ∷ d.value ∷ []) d.seen))
unfolding read_bits
read_four m seen [] e = absurd (omega arith)
read_four m seen (a ∷ []) e = absurd (omega arith)
read_four m seen (a ∷ b ∷ []) e = absurd (omega arith)
read_four m seen (a ∷ b ∷ c ∷ []) e = absurd (omega arith)
read_four m seen (a ∷ b ∷ c ∷ d ∷ []) e = refl
read_four m seen (a ∷ b ∷ c ∷ d ∷ x ∷ l) e = absurd (omega arith)

-- A MULTIPLIER

records_from : {A : Type 0} (value : ℕ → A) (n i k : ℕ) → ((j : ℕ) → value (i + j) ≡ value (k + j)) → records_at value after n i ≡ records_at value after n k
unfolding records_at
records_from value zero i k h = refl
records_from {A} value (suc n) i k h =
    let e : value i ≡ value k = ap value (sym (add-zero i)) ∙ h 0 ∙ ap value (add-zero k) in
    ap (λ (x : A). x ∷ records_at value after n (i + 1)) e ∙ ap (λ (l : List A). value k ∷ l) (records_from value n (i + 1) (k + 1) (λ j. ap value (shift i j) ∙ h (1 + j) ∙ ap value (sym (shift k j))))
  where
    shift : (i j : ℕ) → i + 1 + j ≡ i + (1 + j)
    shift i j = omega arith

-- bits from an index that was cut to the number of words
pub bits_ahead : (words : List ℕ) (n i : ℕ) → i ≡ min n (length words) → (k : ℕ) → bits_at words i k ≡ bits_at words n k
bits_ahead words n i cut k = records_from (bit_at words) k i n (λ j. bit_ahead words n i cut j)

first_wire : (words : List ℕ) (i : ℕ) → get_or (wires_at words i 36) 0 0 ≡ word_at words i
unfolding records_at
first_wire words i = refl

-- the same first, and the same after whatever it gives
bind_same : {A B : Type 0} {w w' : Writer A} {k k' : A → Writer B} → w ≡ w' → ((a : A) → k a ≡ k' a) → (w >>= k) ≡ (w' >>= k')
bind_same {A} {B} {w} {w'} {k} {k'} e f = ap (λ (x : Writer A). x >>= k) e ∙ ap (λ (g : A → Writer B). w' >>= g) (fun_ext f)

-- bits of a record's fields from an offset on
pub bits_moved : (f g : Fields) (offset : ℕ) → g ≡ record f { at = min (f.at + offset) (length f.words.now) } → (k : ℕ) → bits_at g.words.now g.at k ≡ bits_at f.words.now (f.at + offset) k
bits_moved f g offset e k = ap (λ (x : Fields). bits_at x.words.now x.at k) e ∙ bits_ahead f.words.now (f.at + offset) (min (f.at + offset) (length f.words.now)) refl k

-- the works of its two vectors are long enough
pub multiplier_from : (m : Wires) (seen : Seen) (f lhs rhs : Fields) {product : ℕ} → lhs ≡ record f { at = min (f.at + 1) (length f.words.now) } → rhs ≡ record f { at = min (f.at + 19) (length f.words.now) } → product ≡ word_at f.words.now (f.at + 37)
    → (p q : List ℕ) → length p ≡ 36 → length q ≡ 36
    → emit_multiplier m seen (bits_at f.words.now (f.at + 1) 18) (bits_at f.words.now (f.at + 19) 18) (wires_at f.words.now (f.at + 37) 36)
    ≡ (roomy 36 p (vector_once m seen (bits_at lhs.words.now lhs.at 18) 0 36) >>= λ a. roomy 36 q (vector_once m a.seen (bits_at rhs.words.now rhs.at 18) 0 36) >>= λ b. emit (mul a.value b.value) >>= λ v. keeping b.seen (assign_wire m product v))
unfolding emit_multiplier
multiplier_from m seen f lhs rhs {product} el er ep p q hp hq =
    let room : (l : List ℕ) → length l ≡ 36 → 36 ≤ length l = λ l h. omega (arith, h) in
    let left : bits_at lhs.words.now lhs.at 18 ≡ bits_at f.words.now (f.at + 1) 18 = bits_moved f lhs 1 el 18 in
    let right : bits_at rhs.words.now rhs.at 18 ≡ bits_at f.words.now (f.at + 19) 18 = bits_moved f rhs 19 er 18 in
    let target : get_or (wires_at f.words.now (f.at + 37) 36) 0 0 ≡ product = first_wire f.words.now (f.at + 37) ∙ sym ep in
    bind_same
    (ap (λ (b : List Bit). vector_once m seen b 0 36) (sym left) ∙ sym (roomy_yes 36 p (vector_once m seen (bits_at lhs.words.now lhs.at 18) 0 36) (room p hp)))
    (λ a.
    bind_same
    (ap (λ (b : List Bit). vector_once m a.seen b 0 36) (sym right) ∙ sym (roomy_yes 36 q (vector_once m a.seen (bits_at rhs.words.now rhs.at 18) 0 36) (room q hq)))
    (λ b. ap (λ (w : ℕ). emit (mul a.value b.value) >>= λ v. keeping b.seen (assign_wire m w v)) target))

-- A ROW OF A CCU2C

pub row_from : (m : Wires) (seen : Seen) (inputs : List Bit) (init inject sum carry : ℕ) {g : ℕ} → g ≡ pick (eqb inject 1) 0 carry
    → ccu_row m seen inputs init inject sum carry
    ≡ (read_bits m seen inputs [] >>= λ es. lut_cofactor es.value init >>= λ l. lut_cofactor (get_or es.value 0 0 ∷ get_or es.value 1 0 ∷ 0 ∷ 0 ∷ []) init >>= λ k. xor_of l g >>= λ s. assign_wire m sum s >>= λ x. keeping es.seen (mux_of l g k))
unfolding ccu_row
row_from m seen inputs init inject sum carry e = rw e

-- the two inputs that its second table has
numbers_at : (ids : List ExprId) (i : ℕ) → get_or (numbers ids) i 0 ≡ (get_or ids i (record { 0 = 0 })).0
numbers_at [] i = refl
numbers_at (a ∷ ids) zero = refl
numbers_at (a ∷ ids) (suc i) = numbers_at ids i

pub two_inputs : (ids : List ExprId) (table : ℕ) → lut_cofactor (get_or (numbers ids) 0 0 ∷ get_or (numbers ids) 1 0 ∷ 0 ∷ 0 ∷ []) table ≡ lut_cofactor ((get_or ids 0 (record { 0 = 0 })).0 ∷ (get_or ids 1 (record { 0 = 0 })).0 ∷ 0 ∷ 0 ∷ []) table
two_inputs ids table = ap₂ (λ (x y : ℕ). lut_cofactor (x ∷ y ∷ 0 ∷ 0 ∷ []) table) (numbers_at ids 0) (numbers_at ids 1)

-- A PLL

pub pll_from : (m : Wires) (words : List ℕ) (at : ℕ) {bit : Bit} {feedback output locked count : ℕ} → bit ≡ bit_at words (at + 1) → feedback ≡ word_at words (at + 2) → output ≡ word_at words (at + 3) → locked ≡ word_at words (at + 4) → count ≡ word_at words (at + 5)
    → emit_cycle_pll m (pll_of words at)
    ≡ (bit_expression m bit >>= λ e. assign_wire m feedback e >>= λ x. pick (eqb output feedback) (pure tt) (assign_wire m output e) >>= λ y. pll_clocks m feedback output (wires_at words (at + 6) count) e >>= λ z. assign_wire m locked 1)
unfolding emit_cycle_pll
pll_from m words at p q r s u = rw (p, q, r, s, u)
