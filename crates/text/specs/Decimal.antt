-- A number's decimal digits in ASCII, the highest first.
use Rattle.std.specs.Prelude.{List, [], ◌∷◌, ◌++◌, ℕ, zero, suc, ◌+◌, ◌/◌, ◌%◌, cond, ltb}

-- as many as there are, but at most k
abbrev pub figures : ℕ → ℕ → List ℕ
figures zero n = []
figures (suc k) n = cond (ltb n 10) ((48 + n) ∷ []) (figures k (n / 10) ++ ((48 + n % 10) ∷ []))

-- a number has no more digits than its successor says
unfoldable pub decimal : ℕ → List ℕ
decimal n = figures (suc n) n
