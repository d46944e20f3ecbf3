-- The bits of a table's cofactors.
use mathlib.Core.Path.{◌≡◌, sym, ap, ◌∙◌, subst}
use Prim.Native.Nat.{ℕ, zero, suc, ◌+◌, ◌*◌, ◌/◌, ◌%◌, ◌^◌, ◌<◌}
use native.Mathlib.Nat.{pow-succ', le_of_suc-le-suc, not-suc-le-zero}
use native.Mathlib.Omega.{arith}
use lib.Dec.{eqb}
use lib.Pow.{pow_pos}
use Rattle.bits.specs.Bits.{table_bit}
use Rattle.bits.proofs.TableBits.{bit_first, bit_next}
use Rattle.optimize.specs.Lut.{evens, low_of, high_of}

-- the even bits
pub bit_evens : (k t i : ℕ) → i < k → table_bit (evens k t) i ≡ table_bit t (2 * i)
unfolding evens
bit_evens zero t i h = absurd (not-suc-le-zero h)
bit_evens (suc k) t zero h =
    let low : (t % 2 + 2 * evens k (t / 4)) % 2 ≡ t % 2 = omega arith in
    bit_first (t % 2 + 2 * evens k (t / 4)) ∙ ap (λ (x : ℕ). eqb x 1) low ∙ sym (bit_first t)
bit_evens (suc k) t (suc i) h =
    let up : (t % 2 + 2 * evens k (t / 4)) / 2 ≡ evens k (t / 4) = omega arith in
    let two : 2 * suc i ≡ suc (suc (2 * i)) = omega arith in
    let quarter : t / 2 / 2 ≡ t / 4 = omega arith in
    bit_next (t % 2 + 2 * evens k (t / 4)) i ∙ ap (λ (x : ℕ). table_bit x i) up ∙ bit_evens k (t / 4) i (le_of_suc-le-suc h)
    ∙ ap (λ (x : ℕ). table_bit x (2 * i)) (sym quarter) ∙ sym (bit_next (t / 2) (2 * i)) ∙ sym (bit_next t (suc (2 * i))) ∙ ap (table_bit t) (sym two)

pub bit_low : (t i : ℕ) → i < 8 → table_bit (low_of t) i ≡ table_bit t (2 * i)
bit_low t i h = bit_evens 8 t i h

pub bit_high : (t i : ℕ) → i < 8 → table_bit (high_of t) i ≡ table_bit t (1 + 2 * i)
bit_high t i h =
    let e : 1 + 2 * i ≡ suc (2 * i) = omega arith in
    bit_evens 8 (t / 2) i h ∙ sym (bit_next t (2 * i)) ∙ ap (table_bit t) (sym e)

-- as many bits as half of what the table has
pub evens_lt : (k m t : ℕ) → t < 2 ^ (2 * m) → evens k t < 2 ^ m
unfolding evens
evens_lt zero m t h = pow_pos m
evens_lt (suc k) zero t h =
    let z : t ≡ 0 = omega arith in
    let less : evens k (t / 4) < 2 ^ 0 = evens_lt k zero (t / 4) (omega arith) in
    omega arith
evens_lt (suc k) (suc m) t h =
    let two : 2 * suc m ≡ suc (suc (2 * m)) = omega arith in
    let p : 2 ^ (2 * suc m) ≡ 4 * 2 ^ (2 * m) = ap (λ (x : ℕ). 2 ^ x) two ∙ four (2 * m) in
    let h' : t < 4 * 2 ^ (2 * m) = subst (λ (x : ℕ). t < x) p h in
    let less : evens k (t / 4) < 2 ^ m = evens_lt k m (t / 4) (omega arith) in
    omega (arith, pow-succ' 2 m)
  where
    four : (n : ℕ) → 2 ^ suc (suc n) ≡ 4 * 2 ^ n
    four n = omega (arith, pow-succ' 2 (suc n), pow-succ' 2 n)
