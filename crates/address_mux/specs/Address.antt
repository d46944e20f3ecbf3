-- An address against an index, and counts that are limited.
use Rattle.std.specs.Prelude.{ℕ, leb}
use Rattle.bits.specs.Bits.{pick}
use Rattle.recorder.specs.Record.{Expr.const, Expr.eq}
use Rattle.recorder.specs.Writer.{Writer, refuse, emit, ◌>>=◌}

-- the address's expression and its width, the index
unfoldable pub match_address : ℕ → ℕ → ℕ → Writer ℕ
match_address address aw index = do
  k ← emit (const aw index)
  emit (eq address k)

-- n is at most so many, or the call is refused: an array holds no more
unfoldable pub at_most : {A : Type 0} → ℕ → ℕ → Writer A → Writer A
at_most most n w = pick (leb n most) w (refuse 1 n)
