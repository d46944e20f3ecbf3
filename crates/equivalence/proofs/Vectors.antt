-- Vectors of bits: reads of places, numbers, windows.
-- Assumes nothing.
use mathlib.Core.Path.{◌≡◌, refl, ap, ap₂, sym, ◌∙◌}
use mathlib.Core.Bool.{Bool, true, false, ◌&&◌}
use mathlib.Core.List.{List, [], ◌∷◌, ◌++◌, append_assoc}
use Prim.Native.Nat.{ℕ, zero, suc, ◌+◌, ◌*◌, ◌/◌, ◌%◌, ◌^◌, ◌≤◌, ◌<◌}
use native.Mathlib.Nat.{not-suc-le-zero, pow-succ'}
use native.Mathlib.Omega.{arith}
use native.Mathlib.Decide.{ℕ_discrete}
use lib.Dec.{eqb}
use lib.ListN.{length, get_or, take, drop, length-append, length-drop, get_or-eq_default}
use lib.Seq.{take-suc, get_or-drop, get_or-append_seam}
use borrow.Author.Tests.{eq-eqb, ne_eqb}
use Rattle.bits.specs.Bits.{pick, Bits, digit, number, binary, table_bit, window, same, same_bits}
use Rattle.bits.proofs.TableBits.{bit_first, bit_next}
use Rattle.netlist.specs.declared.Bit.{Bit}
use Rattle.netlist.specs.declared.Bit.TheVariants.{Zero}
use Rattle.behaviour.specs.Behaviour.{Valuation, value, values}
use Rattle.meaning.specs.Held.{values_at}

-- PLACES

values_append : (v : Valuation) (a b : List Bit) → values v (a ++ b) ≡ values v a ++ values v b
values_append v [] b = refl
values_append v (x ∷ a) b = ap (λ (l : Bits). value v x ∷ l) (values_append v a b)

-- the bits from a place on, where they are all there
pub values_at_lem : (v : Valuation) (bits : List Bit) (at k : ℕ) → at + k ≤ length bits → values_at v bits at k ≡ values v (take k (drop at bits))
values_at_lem v bits at zero h = refl
values_at_lem v bits at (suc k) h =
    ap₂ (λ (a b : Bits). a ++ b) (values_at_lem v bits at k (omega arith)) (ap (λ (b : Bit). value v b ∷ []) (sym (get_or-drop at bits k Zero)))
    ∙ sym (values_append v (take k (drop at bits)) (get_or (drop at bits) k Zero ∷ []))
    ∙ ap (values v) (sym (take-suc (drop at bits) k Zero (omega (arith, h, length-drop at bits))))

take_all : (l : List Bit) → take (length l) l ≡ l
take_all [] = refl
take_all (b ∷ l) = ap (λ (x : List Bit). b ∷ x) (take_all l)

pub values_all : (v : Valuation) (bits : List Bit) → values_at v bits 0 (length bits) ≡ values v bits
values_all v bits = values_at_lem v bits 0 (length bits) (omega arith) ∙ ap (values v) (take_all bits)

-- past the end stand zeros, which do not count
number_zero : (l : Bits) → number (l ++ (false ∷ [])) ≡ number l
number_zero [] = refl
number_zero (b ∷ l) = ap (λ (k : ℕ). digit b + 2 * k) (number_zero l)

pub number_at : (v : Valuation) (bits : List Bit) (k : ℕ) → number (values_at v bits 0 (length bits + k)) ≡ number (values v bits)
number_at v bits zero = ap (λ (k : ℕ). number (values_at v bits 0 k)) (let z : length bits + 0 ≡ length bits = omega arith in z) ∙ ap number (values_all v bits)
number_at v bits (suc k) =
    let z : length bits + suc k ≡ suc (length bits + k) = omega arith in
    ap (λ (j : ℕ). number (values_at v bits 0 j)) z
    ∙ ap (λ (b : Bit). number (values_at v bits 0 (length bits + k) ++ (value v b ∷ []))) (get_or-eq_default bits Zero (let q : length bits ≤ 0 + (length bits + k) = omega arith in q))
    ∙ number_zero (values_at v bits 0 (length bits + k)) ∙ number_at v bits k

-- NUMBERS

-- the bits of a number
pub binary_at : (w x i : ℕ) → i < w → get_or (binary w x) i false ≡ table_bit x i
binary_at zero x i h = absurd (not-suc-le-zero h)
binary_at (suc w) x zero h = sym (bit_first x)
binary_at (suc w) x (suc i) h = binary_at w (x / 2) i (omega arith) ∙ sym (bit_next x i)

-- bits that are those of a number have it
pub same_number : (bs : Bits) (i : ℕ) → i < 2 ^ length bs → same_bits bs (binary (length bs) i) ≡ eqb (number bs) i
same_number [] i h = sym (eq-eqb 0 i (omega (arith, h)))
same_number (b ∷ bs) i h =
    let twice : 2 ^ length (b ∷ bs) ≡ 2 * 2 ^ length bs = pow-succ' 2 (length bs) in
    ap (λ (t : Bool). same b (eqb (i % 2) 1) && t) (same_number bs (i / 2) (omega (arith, h, twice))) ∙ go b (ℕ_discrete (i % 2) 1) (ℕ_discrete (number bs) (i / 2))
  where
    rewrite_both : (p q r : Bool) (b : Bool) → eqb (i % 2) 1 ≡ p → eqb (number bs) (i / 2) ≡ q → eqb (digit b + 2 * number bs) i ≡ r → same b p && q ≡ r → same b (eqb (i % 2) 1) && eqb (number bs) (i / 2) ≡ eqb (digit b + 2 * number bs) i
    rewrite_both p q r b e f g h = ap₂ (λ (x y : Bool). same b x && y) e f ∙ h ∙ sym g

    go : (b : Bool) → Dec (i % 2 ≡ 1) → Dec (number bs ≡ i / 2) → same b (eqb (i % 2) 1) && eqb (number bs) (i / 2) ≡ eqb (digit b + 2 * number bs) i
    go true (yes p) (yes q) = rewrite_both true true true true (eq-eqb (i % 2) 1 p) (eq-eqb (number bs) (i / 2) q) (eq-eqb (1 + 2 * number bs) i (omega arith)) refl
    go true (yes p) (no q) = rewrite_both true false false true (eq-eqb (i % 2) 1 p) (ne_eqb (number bs) (i / 2) q) (ne_eqb (1 + 2 * number bs) i (omega arith)) refl
    go true (no p) (yes q) = rewrite_both false true false true (ne_eqb (i % 2) 1 p) (eq-eqb (number bs) (i / 2) q) (ne_eqb (1 + 2 * number bs) i (omega arith)) refl
    go true (no p) (no q) = rewrite_both false false false true (ne_eqb (i % 2) 1 p) (ne_eqb (number bs) (i / 2) q) (ne_eqb (1 + 2 * number bs) i (omega arith)) refl
    go false (yes p) (yes q) = rewrite_both true true false false (eq-eqb (i % 2) 1 p) (eq-eqb (number bs) (i / 2) q) (ne_eqb (0 + 2 * number bs) i (omega arith)) refl
    go false (yes p) (no q) = rewrite_both true false false false (eq-eqb (i % 2) 1 p) (ne_eqb (number bs) (i / 2) q) (ne_eqb (0 + 2 * number bs) i (omega arith)) refl
    go false (no p) (yes q) = rewrite_both false true true false (ne_eqb (i % 2) 1 p) (eq-eqb (number bs) (i / 2) q) (eq-eqb (0 + 2 * number bs) i (omega arith)) refl
    go false (no p) (no q) = rewrite_both false false false false (ne_eqb (i % 2) 1 p) (ne_eqb (number bs) (i / 2) q) (ne_eqb (0 + 2 * number bs) i (omega arith)) refl

-- WINDOWS

window_from : (a v : Bits) → window (a ++ v) (length a) (length v) ≡ v
window_from a [] = refl
window_from a (x ∷ v) =
    ap₂ (λ (b : Bool) (l : Bits). b ∷ l) (get_or-append_seam a x v false)
    (ap₂ (λ (l : Bits) (k : ℕ). window l k (length v)) (sym (append_assoc a (x ∷ []) v)) (let z : suc (length a) ≡ length (a ++ (x ∷ [])) = omega (arith, length-append a (x ∷ [])) in z) ∙ window_from (a ++ (x ∷ [])) v)

pub window_all : (v : Bits) (w : ℕ) → length v ≡ w → window v 0 w ≡ v
window_all v w e = ap (window v 0) (sym e) ∙ window_from [] v

pub window_at : (v : Bits) (l w i : ℕ) → i < w → get_or (window v l w) i false ≡ get_or v (l + i) false
window_at v l zero i h = absurd (not-suc-le-zero h)
window_at v l (suc w) zero h = ap (λ (k : ℕ). get_or v k false) (let z : l ≡ l + 0 = omega arith in z)
window_at v l (suc w) (suc i) h = window_at v (suc l) w i (omega arith) ∙ ap (λ (k : ℕ). get_or v k false) (let z : suc l + i ≡ l + suc i = omega arith in z)

pub pick_at : (b : Bool) (x y : Bits) (i : ℕ) → get_or (pick b x y) i false ≡ pick b (get_or x i false) (get_or y i false)
pick_at true x y i = refl
pick_at false x y i = refl

pub pick_map : {A B : Type 0} (f : A → B) (b : Bool) (x y : A) → f (pick b x y) ≡ pick b (f x) (f y)
pick_map f true x y = refl
pick_map f false x y = refl
