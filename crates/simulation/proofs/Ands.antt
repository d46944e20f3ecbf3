-- Tests made one after the other. Assumes nothing.
use Prim.Native.Nat.{ℕ, ◌<◌}
use mathlib.Core.Path.{◌≡◌, refl, sym, ◌∙◌, ap}
use mathlib.Core.Bool.{Bool, true, false, ◌&&◌}
use native.Mathlib.Omega.{arith}
use lib.Dec.{eqb}
use borrow.Author.Tests.{ne_eqb}

pub and_true : (b : Bool) → (b && true) ≡ b
and_true true = refl
and_true false = refl

pub and_false : (b : Bool) → (b && false) ≡ false
and_false true = refl
and_false false = refl

pub and_stop : {a : Bool} (b : Bool) → a ≡ false → false ≡ (a && b)
and_stop b h = sym (rw h)

pub and_go : {a b x : Bool} → a ≡ true → x ≡ b → x ≡ (a && b)
and_go {a} {b} {x} h e = e ∙ sym (rw h)

-- the second of two fails
pub and_second : (a : Bool) {b : Bool} → b ≡ false → false ≡ (a && b)
and_second true h = sym h
and_second false h = refl

-- too many fields
pub long : (m k : ℕ) (x : Bool) → k < m → false ≡ (eqb m k && x)
long m k x h = sym (ap (λ (b : Bool). b && x) (ne_eqb m k (λ e. absurd (omega arith))))

-- three in a row
pub and3_first : {a : Bool} (b d : Bool) → a ≡ false → false ≡ (a && b && d)
and3_first b d h = sym (rw h)

pub and3_second : {a b : Bool} (d : Bool) → a ≡ true → b ≡ false → false ≡ (a && b && d)
and3_second d h g = sym (rw (h, g))

pub and3_third : {a b d x : Bool} → a ≡ true → b ≡ true → x ≡ d → x ≡ (a && b && d)
and3_third h g e = e ∙ sym (rw (h, g))
