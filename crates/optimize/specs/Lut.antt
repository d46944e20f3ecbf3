-- A truth table by cofactors on its first input: the low cofactor is the table's even bits, the high one its odd bits.
use Rattle.std.specs.Prelude.{List, [], ◌∷◌, map, ℕ, zero, suc, ◌+◌, ◌-◌, ◌*◌, ◌/◌, ◌%◌, ◌^◌, eqb, length}
use Rattle.std.specs.Int.Bits.{bit_xor}
use Rattle.bits.specs.Bits.{pick}
use Rattle.recorder.specs.declared.ExprId.{ExprId}
use Rattle.recorder.specs.Writer.{Writer, pure, ◌>>=◌}
use Rattle.optimize.specs.Rewrite.{xor_of, mux_of}

-- the first k even bits of a number, drawn together
unfoldable pub evens : ℕ → ℕ → ℕ
evens zero t = 0
evens (suc k) t = t % 2 + 2 * evens k (t / 4)

-- the tables left when the first input is 0, and when it is 1
abbrev pub low_of : ℕ → ℕ
low_of t = evens 8 t

abbrev pub high_of : ℕ → ℕ
high_of t = evens 8 (t / 2)

-- the table of so many inputs that is 1 everywhere
abbrev pub full_table : ℕ → ℕ
full_table k = 2 ^ (2 ^ k) - 1

-- after the low cofactor, whose expression is l: nothing if the cofactors are equal, an exclusive or with the input if they are each
-- other's complement (`all` is 1 everywhere), else the high cofactor and a mux
unfoldable pub join_cofactors : ℕ → ℕ → ℕ → ℕ → Writer ℕ → ℕ → Writer ℕ
join_cofactors x low high all highs l =
    pick (eqb low high) (pure l)
    (pick (eqb (bit_xor low high) all) (xor_of x l)
    (highs >>= λ h. mux_of x h l))

-- a table over the inputs, the first of which is its lowest
unfoldable pub lut_cofactor : List ℕ → ℕ → Writer ℕ
lut_cofactor [] t n = pick (eqb t 0) (pure 0) (pure 1) n
lut_cofactor (x ∷ xs) t n =
    pick (eqb t 0) (pure 0)
    (pick (eqb t (full_table (suc (length xs)))) (pure 1)
    (pick (eqb x 0) (λ k. lut_cofactor xs (low_of t) k)
    (pick (eqb x 1) (λ k. lut_cofactor xs (high_of t) k)
    ((λ k. lut_cofactor xs (low_of t) k) >>= join_cofactors x (low_of t) (high_of t) (full_table (length xs)) (λ k. lut_cofactor xs (high_of t) k))))) n

abbrev pub numbers : List ExprId → List ℕ
numbers es = map (λ (e : ExprId). e.0) es
