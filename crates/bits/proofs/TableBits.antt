-- Single bits of numbers: of 0, of ones alone, of an exclusive or.
-- Assumes nothing.
use mathlib.Core.Path.{◌≡◌, refl, sym, ap, ◌∙◌}
use mathlib.Core.Bool.{true, false}
use Prim.Native.Nat.{ℕ, zero, suc, ◌-◌, ◌/◌, ◌%◌, ◌^◌, ◌<◌}
use native.Mathlib.Nat.{zero-div, div-one, pow-succ', div-div-eq-div-mul, mod-lt, le_of_suc-le-suc, not-suc-le-zero, zero-lt-suc}
use native.Mathlib.Omega.{arith}
use lib.Dec.{eqb}
use lib.Pow.{pow_pos}
use lib.Bits.{bit_xor, xor_shr, xor_mod}
use Rattle.bits.specs.Bits.{differ, table_bit}

pub bit_first : (t : ℕ) → table_bit t 0 ≡ eqb (t % 2) 1
bit_first t = ap (λ (x : ℕ). eqb (x % 2) 1) (div-one t)

pub bit_next : (t i : ℕ) → table_bit t (suc i) ≡ table_bit (t / 2) i
bit_next t i = ap (λ (x : ℕ). eqb (x % 2) 1) (ap (λ (p : ℕ). t / p) (pow-succ' 2 i) ∙ sym (div-div-eq-div-mul t 2 (2 ^ i)))

-- a table that is 0 everywhere
pub bit_none : (i : ℕ) → table_bit 0 i ≡ false
bit_none i = ap (λ (x : ℕ). eqb (x % 2) 1) (zero-div (2 ^ i))

-- a number that is 1 in its first m bits
pub bit_ones : (m i : ℕ) → i < m → table_bit (2 ^ m - 1) i ≡ true
bit_ones zero i h = absurd (not-suc-le-zero h)
bit_ones (suc m) zero h =
    let odd : (2 ^ suc m - 1) % 2 ≡ 1 = omega (arith, pow-succ' 2 m, pow_pos m) in
    bit_first (2 ^ suc m - 1) ∙ ap (λ (x : ℕ). eqb x 1) odd
bit_ones (suc m) (suc i) h =
    let half : (2 ^ suc m - 1) / 2 ≡ 2 ^ m - 1 = omega (arith, pow-succ' 2 m, pow_pos m) in
    bit_next (2 ^ suc m - 1) i ∙ ap (λ (x : ℕ). table_bit x i) half ∙ bit_ones m i (le_of_suc-le-suc h)

-- two bits
two_bits : (x y : ℕ) → x < 2 → y < 2 → eqb (bit_xor x y) 1 ≡ differ (eqb x 1) (eqb y 1)
two_bits zero zero h g = refl
two_bits zero (suc zero) h g = refl
two_bits zero (suc (suc y)) h g = absurd (not-suc-le-zero (le_of_suc-le-suc (le_of_suc-le-suc g)))
two_bits (suc zero) zero h g = refl
two_bits (suc zero) (suc zero) h g = refl
two_bits (suc zero) (suc (suc y)) h g = absurd (not-suc-le-zero (le_of_suc-le-suc (le_of_suc-le-suc g)))
two_bits (suc (suc x)) y h g = absurd (not-suc-le-zero (le_of_suc-le-suc (le_of_suc-le-suc h)))

pub bit_xor_lem : (a b i : ℕ) → table_bit (bit_xor a b) i ≡ differ (table_bit a i) (table_bit b i)
bit_xor_lem a b i =
    ap (λ (x : ℕ). eqb (x % 2) 1) (xor_shr a b i) ∙ ap (λ (x : ℕ). eqb x 1) (xor_mod (a / 2 ^ i) (b / 2 ^ i) 1)
    ∙ two_bits (a / 2 ^ i % 2) (b / 2 ^ i % 2) (mod-lt _ (zero-lt-suc 1)) (mod-lt _ (zero-lt-suc 1))
