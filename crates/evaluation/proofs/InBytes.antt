-- Laws of copies, tests and numbers in bytes. Assumes nothing.
use Prim.Native.Nat.{ℕ, zero, suc, ◌+◌, ◌-◌, ◌*◌, ◌/◌, ◌%◌, ◌^◌, ◌≤◌, ◌<◌}
use mathlib.Core.Path.{◌≡◌, refl, sym, ◌∙◌, ap, ap₂}
use mathlib.Core.Logic.{◌⊎◌, inl, inr}
use mathlib.Core.Bool.{Bool, true, false, ◌&&◌, ◌||◌, not}
use mathlib.Core.List.{List, [], ◌∷◌, map}
use Rattle.std.specs.Prelude.{None, Some}
use Rattle.bits.proofs.Options.{some_ne_none}
use native.Mathlib.Omega.{arith}
use native.Mathlib.Numerals.{add-one}
use native.Mathlib.Nat.{add-zero, not-suc-le-zero, add-mul, mul-add, mul_assoc, mul_comm, mul-mul-mul_comm, mul-le-mul}
use lib.Bits.{bit_and, bit_or, bit_xor}
use lib.Dec.{eqb, leb}
use lib.ListN.{length, get_or, take, drop, set, length-map, length-drop, drop_of_length-le}
use lib.Seq.{sets, get_or-take, get_or-drop, get_or-set_other, drop-cons, length-take-le}
use borrow.Author.Tests.{eq-eqb, ne_eqb, leb-true}
use Rattle.bits.specs.Bits.{pick, Bits, digit, number, binary, same, same_bits, differ}
use Rattle.recorder.specs.Lists.{over}
use Rattle.recorder.proofs.Room.{copy_step, copy_end}
use Rattle.simulation.specs.Run.{is_one, no_bit}
use Rattle.evaluation.specs.Bytes.{part, same_bytes, gate_of}

-- A PART

pub part_at : (l : List ℕ) (s n i : ℕ) → i < n → get_or (part l s n) i 0 ≡ get_or l (s + i) 0
part_at l s n i h = get_or-take n (drop s l) i 0 h ∙ get_or-drop s l i 0

pub part_length : (l : List ℕ) (s n : ℕ) → s + n ≤ length l → length (part l s n) ≡ n
part_length l s n h = length-take-le n (drop s l) (omega (arith, length-drop s l))

-- COPIES

module _ (from : List ℕ) (start n : ℕ) (h : start + n ≤ length from) where
  pub copied_step : (l l₀ : List ℕ) (at i : ℕ) (x : ℕ) → i < n → x ≡ get_or from (start + i) 0 → over l (at + i) (drop i (part from start n)) ≡ over l₀ at (part from start n) → over (set l (at + i) x) (at + (i + 1)) (drop (i + 1) (part from start n)) ≡ over l₀ at (part from start n)
  copied_step l l₀ at i x q e p =
      ap (λ (y : ℕ). over (set l (at + i) y) (at + (i + 1)) (drop (i + 1) (part from start n))) (e ∙ sym (part_at from start n i q))
      ∙ copy_step l at (part from start n) i (omega (arith, part_length from start n h))
      ∙ p

  pub copied_end : (l l₀ : List ℕ) (at i : ℕ) → n ≤ i → over l (at + i) (drop i (part from start n)) ≡ over l₀ at (part from start n) → l ≡ over l₀ at (part from start n)
  copied_end l l₀ at i q p = sym (copy_end l at (part from start n) i (omega (arith, part_length from start n h))) ∙ p

-- one byte
pub copied_one : (l from : List ℕ) (at start n : ℕ) → n ≡ 1 → start + n ≤ length from → set l at (get_or from start 0) ≡ over l at (part from start n)
unfolding over
copied_one l from at start n e h = sym (ap (λ (k : ℕ). sets l at (take k (drop start from))) e ∙ ap (λ (b : List ℕ). sets l at (take 1 b)) (drop-cons from start 0 (omega arith)))

-- within one slice: what is still to be read is as it was
abbrev pub Unread : List ℕ → List ℕ → ℕ → ℕ → ℕ → Type 0
Unread l l₀ start n i = (j : ℕ) → i ≤ j → j < n → get_or l (start + j) 0 ≡ get_or l₀ (start + j) 0

pub unread_step : (l l₀ : List ℕ) (at start n i x : ℕ) → (start + n ≤ at) ⊎ (at ≤ start) → Unread l l₀ start n i → Unread (set l (at + i) x) l₀ start n (i + 1)
unread_step l l₀ at start n i x apart u j h q = get_or-set_other l (at + i) (start + j) x 0 (λ p. go apart p) ∙ u j (omega arith) q
  where
    go : (start + n ≤ at) ⊎ (at ≤ start) → start + j ≡ at + i → ⊥
    go (inl k) p = omega arith
    go (inr k) p = omega arith

-- NUMBERS

pub digit_bit : (x : ℕ) → x < 2 → digit (eqb x 1) ≡ x
digit_bit zero h = refl
digit_bit (suc zero) h = refl
digit_bit (suc (suc x)) h = absurd (omega arith)

pub bits_start : (l : List ℕ) (at n v : ℕ) → over l (at + 0) (map digit (binary (n - 0) v)) ≡ over l at (map digit (binary n v))
bits_start l at n v =
    let z : n - 0 ≡ n = omega arith in
    ap₂ (λ (k m : ℕ). over l k (map digit (binary m v))) (add-zero at) z

pub bits_step : (l : List ℕ) (at n i x b : ℕ) → i < n → b ≡ x % 2 → over (set l (at + i) b) (at + (i + 1)) (map digit (binary (n - (i + 1)) (x / 2))) ≡ over l (at + i) (map digit (binary (n - i) x))
unfolding over
bits_step l at n i x b h e =
    let z : n - i ≡ suc (n - (i + 1)) = omega arith in
    let k : at + (i + 1) ≡ suc (at + i) = omega arith in
    ap₂ (λ (j y : ℕ). sets (set l (at + i) y) j (map digit (binary (n - (i + 1)) (x / 2)))) k (e ∙ sym (digit_bit (x % 2) (omega arith)))
    ∙ ap (λ (m : ℕ). sets l (at + i) (map digit (binary m x))) (sym z)

pub bits_end : (l : List ℕ) (at n i x : ℕ) → n ≤ i → over l (at + i) (map digit (binary (n - i) x)) ≡ l
unfolding over
bits_end l at n i x h =
    let z : n - i ≡ 0 = omega arith in
    ap (λ (m : ℕ). sets l (at + i) (map digit (binary m x))) z

pub is_one_digit : (b : Bool) → is_one (digit b) ≡ b
is_one_digit true = refl
is_one_digit false = refl

pub bits_back : (bs : Bits) → map is_one (map digit bs) ≡ bs
bits_back [] = refl
bits_back (b ∷ bs) = ap₂ ◌∷◌ (is_one_digit b) (bits_back bs)

-- bytes that are bits
pub bytes_back : (k : ℕ) (bytes : List ℕ) → no_bit k bytes ≡ None → map digit (map is_one bytes) ≡ bytes
bytes_back k [] h = refl
bytes_back k (b ∷ bytes) h = go (leb b 1) refl (bytes_back (suc k) bytes) h
  where
    go : (t : Bool) → leb b 1 ≡ t → (no_bit (suc k) bytes ≡ None → map digit (map is_one bytes) ≡ bytes) → pick t (no_bit (suc k) bytes) (Some (14, k)) ≡ None → map digit (map is_one (b ∷ bytes)) ≡ b ∷ bytes
    go true e ih q = ap₂ ◌∷◌ (digit_bit b (omega (arith, leb-true b 1 e))) (ih q)
    go false e ih q = absurd (some_ne_none _ q)

digit_le : (b : Bool) → digit b ≤ 1
digit_le true = omega arith
digit_le false = omega arith

pub number_under : (bs : Bits) (n : ℕ) → length bs ≤ n → number bs < 2 ^ n
number_under [] zero h = omega arith
number_under [] (suc n) h = omega (arith, number_under [] n (omega arith))
number_under (b ∷ bs) zero h = absurd (not-suc-le-zero h)
number_under (b ∷ bs) (suc n) h = omega (arith, number_under bs n (omega arith), digit_le b)

-- the loop goes down
module _ (l : List ℕ) (at : ℕ) (h : at + 36 ≤ length l) where
  abbrev ones : List Bool
  ones = map is_one (part l at 36)

  ones_length : length ones ≡ 36
  ones_length = length-map (part l at 36) is_one ∙ part_length l at 36 h

  pub number_start : 0 ≡ number (drop 36 (map is_one (part l at 36)))
  number_start = sym (ap number (drop_of_length-le ones {i = 36} (omega (arith, ones_length))))

  pub number_step : (i n x : ℕ) → i < 36 → n ≡ number (drop (i + 1) (map is_one (part l at 36))) → x ≡ digit (is_one (get_or l (at + i) 0)) → n * 2 + x ≡ number (drop i (map is_one (part l at 36)))
  number_step i n x q e p =
      let d : drop i ones ≡ get_or ones i false ∷ drop (i + 1) ones = drop-cons ones i false (omega (arith, ones_length)) ∙ ap (λ (k : ℕ). get_or ones i false ∷ drop k ones) (sym (add-one i)) in
      let g : get_or ones i false ≡ is_one (get_or l (at + i) 0) = lib.ListN.get_or-map is_one (part l at 36) i 0 ∙ ap is_one (part_at l at 36 i q) in
      let s : number (drop i ones) ≡ digit (get_or ones i false) + 2 * number (drop (i + 1) ones) = ap number d in
      let t : digit (get_or ones i false) ≡ x = ap digit g ∙ sym p in
      omega arith

  pub number_small : (i n : ℕ) → n ≡ number (drop i (map is_one (part l at 36))) → n < 68719476736
  number_small i n e = let k = number_under (drop i ones) 36 (omega (arith, length-drop i ones, ones_length)) in omega arith

-- EQUAL BYTES

module _ (l : List ℕ) (a b n : ℕ) (ha : a + n ≤ length l) (hb : b + n ≤ length l) where
  abbrev left_equal : ℕ → Bool
  left_equal i = same_bytes (drop i (part l a n)) (drop i (part l b n))

  front : (i : ℕ) → i < n → left_equal i ≡ (eqb (get_or l (a + i) 0) (get_or l (b + i) 0) && left_equal (i + 1))
  front i q =
      let p : drop i (part l a n) ≡ get_or l (a + i) 0 ∷ drop (i + 1) (part l a n) = drop-cons (part l a n) i 0 (omega (arith, part_length l a n ha)) ∙ ap₂ (λ (x k : ℕ). x ∷ drop k (part l a n)) (part_at l a n i q) (sym (add-one i)) in
      let r : drop i (part l b n) ≡ get_or l (b + i) 0 ∷ drop (i + 1) (part l b n) = drop-cons (part l b n) i 0 (omega (arith, part_length l b n hb)) ∙ ap₂ (λ (x k : ℕ). x ∷ drop k (part l b n)) (part_at l b n i q) (sym (add-one i)) in
      ap₂ same_bytes p r

  pub equal_step : (i : ℕ) → i < n → get_or l (a + i) 0 ≡ get_or l (b + i) 0 → same_bytes (drop i (part l a n)) (drop i (part l b n)) ≡ same_bytes (part l a n) (part l b n) → same_bytes (drop (i + 1) (part l a n)) (drop (i + 1) (part l b n)) ≡ same_bytes (part l a n) (part l b n)
  equal_step i q e p = ap (λ (t : Bool). t && left_equal (i + 1)) (sym (eq-eqb (get_or l (a + i) 0) (get_or l (b + i) 0) e)) ∙ sym (front i q) ∙ p

  pub equal_differs : (i : ℕ) → i < n → (get_or l (a + i) 0 ≡ get_or l (b + i) 0 → ⊥) → same_bytes (drop i (part l a n)) (drop i (part l b n)) ≡ same_bytes (part l a n) (part l b n) → false ≡ same_bytes (part l a n) (part l b n)
  equal_differs i q e p = ap (λ (t : Bool). t && left_equal (i + 1)) (sym (ne_eqb (get_or l (a + i) 0) (get_or l (b + i) 0) e)) ∙ sym (front i q) ∙ p

  pub equal_end : (i : ℕ) → n ≤ i → same_bytes (drop i (part l a n)) (drop i (part l b n)) ≡ same_bytes (part l a n) (part l b n) → true ≡ same_bytes (part l a n) (part l b n)
  equal_end i q p = sym (ap₂ same_bytes (drop_of_length-le (part l a n) {i = i} (omega (arith, part_length l a n ha))) (drop_of_length-le (part l b n) {i = i} (omega (arith, part_length l b n hb)))) ∙ p

digits_same : (x y : Bool) → eqb (digit x) (digit y) ≡ same x y
digits_same true true = refl
digits_same true false = refl
digits_same false true = refl
digits_same false false = refl

pub bytes_same : (x y : Bits) → same_bytes (map digit x) (map digit y) ≡ same_bits x y
bytes_same [] [] = refl
bytes_same [] (c ∷ cs) = refl
bytes_same (b ∷ bs) [] = refl
bytes_same (b ∷ bs) (c ∷ cs) = ap₂ ◌&&◌ (digits_same b c) (bytes_same bs cs)

-- PRODUCTS

pub binary_add : (w r q : ℕ) → binary w (r + q * 2 ^ w) ≡ binary w r
binary_add zero r q = refl
binary_add (suc w) r q =
    let k : ℕ = q * 2 ^ w in
    let two : q * 2 ^ suc w ≡ 2 * k = (ap (λ (x : ℕ). q * x) (pow_two w)) ∙ native.Mathlib.Nat.mul_left_comm q 2 (2 ^ w) in
    let lo : (r + q * 2 ^ suc w) % 2 ≡ r % 2 = omega arith in
    let hi : (r + q * 2 ^ suc w) / 2 ≡ r / 2 + k = omega arith in
    ap₂ (λ (x y : ℕ). eqb x 1 ∷ binary w y) lo hi ∙ ap (λ (t : Bits). eqb (r % 2) 1 ∷ t) (binary_add w (r / 2) q)
  where
    pow_two : (w : ℕ) → 2 ^ suc w ≡ 2 * 2 ^ w
    pow_two w = omega arith

-- two numbers in two halves
halves : (p a0 a1 b0 b1 : ℕ) → (a0 + a1 * p) * (b0 + b1 * p) ≡ a0 * b0 + (a1 * b0 + a0 * b1) * p + a1 * b1 * (p * p)
halves p a0 a1 b0 b1 =
    let e1 : (a0 + a1 * p) * (b0 + b1 * p) ≡ a0 * (b0 + b1 * p) + a1 * p * (b0 + b1 * p) = add-mul a0 (a1 * p) (b0 + b1 * p) in
    let e2 : a0 * (b0 + b1 * p) ≡ a0 * b0 + a0 * b1 * p = mul-add a0 b0 (b1 * p) ∙ ap (λ (x : ℕ). a0 * b0 + x) (sym (mul_assoc a0 b1 p)) in
    let e3 : a1 * p * (b0 + b1 * p) ≡ a1 * p * b0 + a1 * p * (b1 * p) = mul-add (a1 * p) b0 (b1 * p) in
    let e4 : a1 * p * b0 ≡ a1 * b0 * p = mul_assoc a1 p b0 ∙ ap (λ (x : ℕ). a1 * x) (mul_comm p b0) ∙ sym (mul_assoc a1 b0 p) in
    let e5 : a1 * p * (b1 * p) ≡ a1 * b1 * (p * p) = mul-mul-mul_comm a1 p b1 p in
    let e6 : (a1 * b0 + a0 * b1) * p ≡ a1 * b0 * p + a0 * b1 * p = add-mul (a1 * b0) (a0 * b1) p in
    e1 ∙ ap₂ ◌+◌ e2 (e3 ∙ ap₂ ◌+◌ e4 e5) ∙ shuffle (a0 * b0) (a0 * b1 * p) (a1 * b0 * p) (a1 * b1 * (p * p)) ∙ ap (λ (x : ℕ). a0 * b0 + x + a1 * b1 * (p * p)) (sym e6)
  where
    shuffle : (x y z w : ℕ) → x + y + (z + w) ≡ x + (z + y) + w
    shuffle x y z w = omega arith

pub product_low : (a b r : ℕ) → r ≡ a % 262144 * (b % 262144) + (a / 262144 * (b % 262144) + a % 262144 * (b / 262144)) % 262144 * 262144 → binary 36 r ≡ binary 36 (a * b)
product_low a b r e =
    let m : ℕ = a / 262144 * (b % 262144) + a % 262144 * (b / 262144) in
    let h : ℕ = a / 262144 * (b / 262144) in
    let whole : a * b ≡ a % 262144 * (b % 262144) + m * 262144 + h * 68719476736 = ap₂ ◌*◌ (parts a) (parts b) ∙ halves 262144 (a % 262144) (a / 262144) (b % 262144) (b / 262144) in
    let q : a * b ≡ r + (m / 262144 + h) * 68719476736 = sums (a % 262144 * (b % 262144)) m h r (a * b) e whole in
    sym (ap (binary 36) q ∙ binary_add 36 r (m / 262144 + h))
  where
    parts : (x : ℕ) → x ≡ x % 262144 + x / 262144 * 262144
    parts x = omega arith

    sums : (x m h r z : ℕ) → r ≡ x + m % 262144 * 262144 → z ≡ x + m * 262144 + h * 68719476736 → z ≡ r + (m / 262144 + h) * 68719476736
    sums x m h r z e f = omega arith

-- products of halves are small
pub small_product : (x y : ℕ) → x < 262144 → y < 262144 → x * y ≤ 68718952449
small_product x y h k = let p : x ≤ 262143 = omega arith in let q : y ≤ 262143 = omega arith in mul-le-mul p q

-- GATES

and_table : (x y : Bool) → bit_and (digit x) (digit y) ≡ digit (x && y)
and_table true true = refl
and_table true false = refl
and_table false true = refl
and_table false false = refl

or_table : (x y : Bool) → bit_or (digit x) (digit y) ≡ digit (x || y)
or_table true true = refl
or_table true false = refl
or_table false true = refl
or_table false false = refl

xor_table : (x y : Bool) → bit_xor (digit x) (digit y) ≡ digit (differ x y)
xor_table true true = refl
xor_table true false = refl
xor_table false true = refl
xor_table false false = refl

not_table : (x : Bool) → bit_xor (digit x) 1 ≡ digit (not x)
not_table true = refl
not_table false = refl

module _ (k u v : ℕ) (x y : Bool) (p : u ≡ digit x) (q : v ≡ digit y) where
  pub and_gate : k ≡ 4 → bit_and u v ≡ digit (gate_of k x y)
  and_gate e = ap₂ bit_and p q ∙ and_table x y ∙ ap (λ (j : ℕ). digit (gate_of j x y)) (sym e)

  pub or_gate : k ≡ 5 → bit_or u v ≡ digit (gate_of k x y)
  or_gate e = ap₂ bit_or p q ∙ or_table x y ∙ ap (λ (j : ℕ). digit (gate_of j x y)) (sym e)

  pub xor_gate : k ≡ 6 → bit_xor u v ≡ digit (gate_of k x y)
  xor_gate e = ap₂ bit_xor p q ∙ xor_table x y ∙ ap (λ (j : ℕ). digit (gate_of j x y)) (sym e)

  pub not_gate : (k ≡ 4 → ⊥) → (k ≡ 5 → ⊥) → (k ≡ 6 → ⊥) → bit_xor u 1 ≡ digit (gate_of k x y)
  not_gate e f g = ap (λ (w : ℕ). bit_xor w 1) p ∙ not_table x ∙ sym (rw (ne_eqb k 4 e, ne_eqb k 5 f, ne_eqb k 6 g))

pub bit_small : {x : ℕ} (b : ℕ) → x ≡ digit (is_one b) → x ≤ 1
bit_small b e = let k = digit_le (is_one b) in omega arith

pub bit_one : (b : ℕ) → b ≡ 1 → 1 ≡ digit (is_one b)
bit_one b e = sym (ap (λ (x : ℕ). digit (is_one x)) e)

pub bit_zero : (b : ℕ) → (b ≡ 1 → ⊥) → 0 ≡ digit (is_one b)
bit_zero b e = sym (ap digit (ne_eqb b 1 e))
