-- What is claimed of the rewrites and of a truth table; proofs/ shows each.
use Rattle.std.specs.Prelude.{Bool, List, [], ◌∷◌, ℕ, ◌+◌, ◌*◌, ◌^◌, ◌<◌, ◌≤◌, length}
use Rattle.bits.specs.Bits.{pick, Bits, differ, digit, table_bit}
use Rattle.recorder.specs.Writer.{exprs_of, Count}
use Rattle.recorder.specs.Evaluate.{Signals, Values}
use Rattle.recorder.specs.Meaning.{Is, Base, Means}
use Rattle.optimize.specs.Rewrite.{xor_of, mux_of}
use Rattle.optimize.specs.Lut.{lut_cofactor}

-- expressions of one bit each have these bits
abbrev pub Inputs : Values → List ℕ → Bits → Type 0
Inputs env [] [] = Unit {0}
Inputs env [] (b ∷ bs) = ⊥
Inputs env (x ∷ xs) [] = ⊥
Inputs env (x ∷ xs) (b ∷ bs) = Is env x (b ∷ []) × Inputs env xs bs

-- whatever was rewritten, an exclusive or is one, and a mux a mux
abbrev pub XorMeans : Type 0
XorMeans = (σ : Signals) (env : Values) (a b : ℕ) (x y : Bool) → Base env → Is env a (x ∷ []) → Is env b (y ∷ []) → Means σ env (xor_of a b) (differ x y ∷ [])

abbrev pub MuxMeans : Type 0
MuxMeans = (σ : Signals) (env : Values) (s t f : ℕ) (b x y : Bool) → Base env → Is env s (b ∷ []) → Is env t (x ∷ []) → Is env f (y ∷ []) → Means σ env (mux_of s t f) (pick b x y ∷ [])

-- a LUT4 is its table's bit of number a + 2b + 4c + 8d, for any four operands
abbrev pub LutMeans : Type 0
LutMeans = (σ : Signals) (env : Values) (e₁ e₂ e₃ e₄ init : ℕ) (a b c d : Bool) → Base env → Is env e₁ (a ∷ []) → Is env e₂ (b ∷ []) → Is env e₃ (c ∷ []) → Is env e₄ (d ∷ []) → init < 2 ^ 16
    → Means σ env (lut_cofactor (e₁ ∷ e₂ ∷ e₃ ∷ e₄ ∷ []) init) (table_bit init (digit a + 2 * digit b + 4 * digit c + 8 * digit d) ∷ [])

-- a LUT4 adds at most 15 records
abbrev pub LutAdds : Type 0
LutAdds = (n : Count) (e₁ e₂ e₃ e₄ init : ℕ) → 2 ≤ n.exprs → e₁ < n.exprs → e₂ < n.exprs → e₃ < n.exprs → e₄ < n.exprs → init < 2 ^ 16
    → length (exprs_of (lut_cofactor (e₁ ∷ e₂ ∷ e₃ ∷ e₄ ∷ []) init n).events) ≤ 15
