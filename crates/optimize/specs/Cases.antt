-- The worked cases of the optimizer as rows of one table. Expressions 0 and 1 are the constants, 2 to 5 the inputs a to d, and 6 is the
-- next one.
use Rattle.std.specs.Prelude.{◌≡◌, refl, List, [], ◌∷◌, map, ℕ}
use Rattle.recorder.specs.Record.{Expr, Expr.not as complement, Expr.and, Expr.xor}
use Rattle.recorder.specs.Writer.{Event.expr, Count, End.ok, Out, Writer, ◌>>=◌}
use Rattle.optimize.specs.Rewrite.{emit_rewrite, xor_of, mux_of}
use Rattle.optimize.specs.Lut.{evens, join_cofactors, lut_cofactor}

-- what is asked for, and the records and the result that are due
pub record Case : Type 0 where
  pub asked : Writer ℕ
  pub records : List Expr
  pub result : ℕ

abbrev pub row : Writer ℕ → List Expr → ℕ → Case
row w xs e = record { asked = w; records = xs; result = e }

abbrev pub inputs : List ℕ
inputs = 2 ∷ 3 ∷ 4 ∷ 5 ∷ []

abbrev pub cases : List Case
cases =
    row (lut_cofactor inputs 0x8000) (and 4 5 ∷ and 3 6 ∷ and 2 7 ∷ []) 8
    ∷ row (lut_cofactor inputs 0x6996) (xor 4 5 ∷ xor 3 6 ∷ xor 2 7 ∷ []) 8
    ∷ row (lut_cofactor inputs 0xAAAA) [] 2
    -- a mux's select, its arms one and zero, then zero and one
    ∷ row (mux_of 2 1 0) [] 2
    ∷ row (mux_of 2 0 1) (complement 2 ∷ []) 6
    ∷ row (xor_of 2 2) [] 0
    ∷ []

abbrev pub six : Count
six = record { signals = 0; exprs = 6; stmts = 0 }

abbrev pub due : Case → Out ℕ
due c = record { events = map expr c.records; end = ok c.result }

pub cases_hold : map (λ c. c.asked six) cases ≡ map due cases
unfolding lut_cofactor join_cofactors evens xor_of mux_of emit_rewrite ◌>>=◌
cases_hold = refl
