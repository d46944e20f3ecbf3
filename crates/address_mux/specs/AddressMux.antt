-- The balanced mux of an address's candidates.
use Rattle.std.specs.Prelude.{List, [], ◌∷◌, ◌++◌, ℕ, zero, suc, length}
use Rattle.recorder.specs.Record.{Expr.or, Expr.mux}
use Rattle.recorder.specs.Writer.{Writer, pure, emit, ◌>>=◌}

-- a candidate of an address: the expression that says it is the one, and the word's
pub record Node : Type 0 where
  pub matched : ℕ
  pub value : ℕ

-- one level: neighbours are joined in order after those in `next`, the later one wins; words of this width
unfoldable pub mux_level : ℕ → List Node → List Node → Writer (List Node)
mux_level width [] next = pure next
mux_level width (l ∷ []) next = pure (next ++ (l ∷ []))
mux_level width (l ∷ r ∷ ns) next = do
  a ← emit (or l.matched r.matched)
  v ← emit (mux width r.matched r.value l.value)
  mux_level width ns (next ++ (record { matched = a; value = v } ∷ []))

-- none is left: zero; one: its word or zero; more: a level, and then k
abbrev pub top_level : ℕ → List Node → ℕ → (List Node → Writer ℕ) → Writer ℕ
top_level width [] e k = pure e
top_level width (root ∷ []) e k = emit (mux width root.matched root.value e)
top_level width (l ∷ r ∷ ns) e k = mux_level width (l ∷ r ∷ ns) [] >>= k

-- levels until one candidate is left, at most as many as the first number
unfoldable pub mux_levels : ℕ → ℕ → List Node → ℕ → Writer ℕ
mux_levels zero width level e = top_level width level e (λ next. pure e)
mux_levels (suc fuel) width level e = top_level width level e (λ next. mux_levels fuel width next e)

-- words' width, candidates, the expression of zero
abbrev pub balanced_address_mux : ℕ → List Node → ℕ → Writer ℕ
balanced_address_mux width level e = mux_levels (length level) width level e
