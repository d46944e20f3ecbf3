-- For a block RAM's shape: address width.
use Rattle.std.proofs.Common.{◌≡◌, sym, ◌∙◌, ap, subst, ℕ, zero, suc, ◌+◌, ◌-◌, ◌*◌, ◌^◌, ◌≤◌, ◌<◌, Bool, true, false, le-leb, pow-suc, arith}
use Rattle.std.proofs.lemmas.Bool.{lt-leb}
use Rattle.std.proofs.Math.Pow.{pow_mono}
use Rattle.netlist.specs.Reader.{bits_from, address_width}

-- one look: so many bits are enough, or not
from_enough : (fuel k n : ℕ) → n ≤ 2 ^ k → bits_from (suc fuel) k n ≡ k
from_enough fuel k n h = ap (λ (b : Bool). elim b [ true ↦ k | false ↦ bits_from fuel (suc k) n ]) (le-leb n (2 ^ k) h)

from_more : (fuel k n : ℕ) → 2 ^ k < n → bits_from (suc fuel) k n ≡ bits_from fuel (suc k) n
from_more fuel k n h = ap (λ (b : Bool). elim b [ true ↦ k | false ↦ bits_from fuel (suc k) n ]) (lt-leb n (2 ^ k) h)

-- one bit fewer is too few
from_is : (d fuel k n : ℕ) → d < fuel → 2 ^ (k + d) < n → n ≤ 2 ^ (k + suc d) → bits_from (suc fuel) k n ≡ k + suc d
from_is d zero k n h a b = absurd (omega arith)
from_is zero (suc fuel) k n h a b =
    let e : k + 0 ≡ k = omega arith in
    let f : k + suc 0 ≡ suc k = omega arith in
    from_more (suc fuel) k n (subst (λ (m : ℕ). 2 ^ m < n) e a) ∙ from_enough fuel (suc k) n (subst (λ (m : ℕ). n ≤ 2 ^ m) f b) ∙ sym f
from_is (suc d) (suc fuel) k n h a b =
    let e : k + suc d ≡ suc k + d = omega arith in
    let f : k + suc (suc d) ≡ suc k + suc d = omega arith in
    let l : k ≤ k + suc d = omega arith in
    let m : 2 ^ k ≤ 2 ^ (k + suc d) = pow_mono l in
    from_more (suc fuel) k n (omega arith) ∙ from_is d fuel (suc k) n (omega arith) (subst (λ (m : ℕ). 2 ^ m < n) e a) (subst (λ (m : ℕ). n ≤ 2 ^ m) f b) ∙ sym f

-- `top` is the highest bit of the last word's number
pub width_is : (depth top : ℕ) → 2 < depth → 2 ^ top ≤ depth - 1 → depth - 1 < 2 * 2 ^ top → top < 32 → top + 1 ≡ address_width depth
width_is depth zero h a b c = absurd (omega arith)
width_is depth (suc d) h a b c =
    let e : 1 + d ≡ suc d = omega arith in
    let f : 1 + suc d ≡ suc (suc d) = omega arith in
    let p = pow-suc 2 (suc d) in
    let g : suc d + 1 ≡ 1 + suc d = omega arith in
    g ∙ sym (from_is d 31 1 depth (omega arith) (subst (λ (m : ℕ). 2 ^ m < depth) (sym e) (omega arith)) (subst (λ (m : ℕ). depth ≤ 2 ^ m) (sym f) (omega arith)))
