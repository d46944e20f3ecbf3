-- The even bits of a 16-bit number from those of its two bytes.
-- Assumes nothing.
use mathlib.Core.Path.{◌≡◌, refl, ap, ◌∙◌, sym}
use Prim.Native.Nat.{ℕ, ◌+◌, ◌*◌, ◌/◌, ◌%◌}
use native.Mathlib.Omega.{arith}
use Rattle.optimize.specs.Lut.{evens}

-- four digits and what stands above them
abbrev four : ℕ → ℕ → ℕ
four t e = t % 2 + 2 * (t / 4 % 2 + 2 * (t / 16 % 2 + 2 * (t / 64 % 2 + 2 * e)))

divs : (t : ℕ) → (t / 4 / 4 ≡ t / 16) × (t / 4 / 4 / 4 ≡ t / 64) × (t / 4 / 4 / 4 / 4 ≡ t / 256)
divs t = (omega arith, omega arith, omega arith)

eight : (t : ℕ) → evens 8 t ≡ t % 2 + 2 * (t / 4 % 2 + 2 * (t / 4 / 4 % 2 + 2 * (t / 4 / 4 / 4 % 2 + 2 * evens 4 (t / 4 / 4 / 4 / 4))))
unfolding evens
eight t = refl

four_of : (t : ℕ) → evens 4 t ≡ t % 2 + 2 * (t / 4 % 2 + 2 * (t / 4 / 4 % 2 + 2 * (t / 4 / 4 / 4 % 2 + 2 * 0)))
unfolding evens
four_of t = refl

-- an even part does not count in the lowest digit
digit : (m n q : ℕ) → n ≡ 2 * q + m → m % 2 ≡ n % 2
digit m n q e = omega arith

low_digits : (t e : ℕ) → four t e ≡ four (t % 256) 0 + 16 * e
low_digits t e =
    let d0 : t % 256 % 2 ≡ t % 2 = omega arith in
    let d1 : t % 256 / 4 % 2 ≡ t / 4 % 2 = digit (t % 256 / 4) (t / 4) (32 * (t / 256)) (omega arith) in
    let d2 : t % 256 / 16 % 2 ≡ t / 16 % 2 = digit (t % 256 / 16) (t / 16) (8 * (t / 256)) (omega arith) in
    let d3 : t % 256 / 64 % 2 ≡ t / 64 % 2 = digit (t % 256 / 64) (t / 64) (2 * (t / 256)) (omega arith) in
    rw (d0, d1, d2, d3) (linear (t % 2) (t / 4 % 2) (t / 16 % 2) (t / 64 % 2) e)
  where
    linear : (a b c d e : ℕ) → a + 2 * (b + 2 * (c + 2 * (d + 2 * e))) ≡ a + 2 * (b + 2 * (c + 2 * (d + 2 * 0))) + 16 * e
    linear a b c d e = omega arith

back : (m : ℕ) → m % 2 + 2 * (m / 4 % 2 + 2 * (m / 4 / 4 % 2 + 2 * (m / 4 / 4 / 4 % 2 + 2 * 0))) ≡ evens 4 m
back m = sym (four_of m)

pub evens_split : (t : ℕ) → evens 8 t ≡ evens 4 (t % 256) + 16 * evens 4 (t / 256)
evens_split t =
    eight t ∙ rw ((divs t).2, (divs t).1, (divs t).0) (low_digits t (evens 4 (t / 256)))
    ∙ ap (λ (x : ℕ). x + 16 * evens 4 (t / 256)) (rw ((divs (t % 256)).1, (divs (t % 256)).0) at (back (t % 256)))
