-- Bits, numbers and tests, as every crate speaks of them.
use Rattle.std.specs.Prelude.{Bool, true, false, not, ◌&&◌, List, [], ◌∷◌, ◌++◌, ℕ, zero, suc, ◌+◌, ◌*◌, ◌/◌, ◌%◌, ◌^◌, eqb, get_or}

-- the first if the test holds, else the second
abbrev pub pick : {A : Type 0} → Bool → A → A → A
pick true a b = a
pick false a b = b

-- the parts of a list, one after the other
abbrev pub flat : {A : Type 0} → List (List A) → List A
flat [] = []
flat (l ∷ ls) = l ++ flat ls

-- the lowest bit comes first
abbrev pub Bits : Type 0
Bits = List Bool

abbrev pub digit : Bool → ℕ
digit true = 1
digit false = 0

abbrev pub number : Bits → ℕ
number [] = 0
number (b ∷ bs) = digit b + 2 * number bs

-- the lowest w bits of a number
abbrev pub binary : ℕ → ℕ → Bits
binary zero n = []
binary (suc w) n = eqb (n % 2) 1 ∷ binary w (n / 2)

-- bit i of a number, as of a truth table
abbrev pub table_bit : ℕ → ℕ → Bool
table_bit t i = eqb (t / 2 ^ i % 2) 1

-- the one bit of a value of one bit
abbrev pub lowest : Bits → Bool
lowest v = get_or v 0 false

-- w bits from bit l on
abbrev pub window : Bits → ℕ → ℕ → Bits
window v l zero = []
window v l (suc w) = get_or v l false ∷ window v (suc l) w

abbrev pub differ : Bool → Bool → Bool
differ true b = not b
differ false b = b

abbrev pub same : Bool → Bool → Bool
same true b = b
same false b = not b

abbrev pub same_bits : Bits → Bits → Bool
same_bits [] [] = true
same_bits [] (c ∷ cs) = false
same_bits (b ∷ bs) [] = false
same_bits (b ∷ bs) (c ∷ cs) = same b c && same_bits bs cs
