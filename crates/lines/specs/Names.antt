-- The names that a listing uses, each spelled once.
use Rattle.std.specs.Prelude.{List, [], ◌∷◌, ℕ, get_or}
use Rattle.text.specs.Decimal.{decimal}
use Rattle.lines.specs.Ascii.{six, a, c, d, e, f, g, i, j, l, m, n, o, p, q, r, s, t, u, w, x, z}

-- signals' labels by number
abbrev pub labels : List (List ℕ)
labels =
    (i ∷ n ∷ p ∷ u ∷ t ∷ [])
    ∷ (o ∷ u ∷ t ∷ p ∷ u ∷ t ∷ [])
    ∷ (l ∷ u ∷ t ∷ [])
    ∷ (p ∷ f ∷ u ∷ m ∷ x ∷ [])
    ∷ (l ∷ six ∷ m ∷ u ∷ x ∷ [])
    ∷ (c ∷ c ∷ u ∷ [])
    ∷ (m ∷ u ∷ l ∷ [])
    ∷ (f ∷ f ∷ [])
    ∷ (r ∷ a ∷ m ∷ [])
    ∷ (d ∷ r ∷ a ∷ m ∷ [])
    ∷ (i ∷ o ∷ [])
    ∷ (j ∷ t ∷ a ∷ g ∷ g ∷ [])
    ∷ (p ∷ l ∷ l ∷ [])
    ∷ (w ∷ o ∷ r ∷ d ∷ [])
    ∷ (z ∷ e ∷ r ∷ o ∷ [])
    ∷ (o ∷ n ∷ e ∷ [])
    ∷ []

-- expressions' kinds by number
abbrev pub kinds : List (List ℕ)
kinds =
    (c ∷ o ∷ n ∷ s ∷ t ∷ [])
    ∷ (r ∷ e ∷ a ∷ d ∷ [])
    ∷ (c ∷ o ∷ n ∷ c ∷ a ∷ t ∷ [])
    ∷ (n ∷ o ∷ t ∷ [])
    ∷ (a ∷ n ∷ d ∷ [])
    ∷ (o ∷ r ∷ [])
    ∷ (x ∷ o ∷ r ∷ [])
    ∷ (m ∷ u ∷ x ∷ [])
    ∷ (e ∷ q ∷ [])
    ∷ (m ∷ u ∷ l ∷ [])
    ∷ []

-- statements' kinds by number
abbrev pub statements : List (List ℕ)
statements = (a ∷ s ∷ s ∷ i ∷ g ∷ n ∷ []) ∷ (r ∷ e ∷ g ∷ []) ∷ []

abbrev pub model : List ℕ
model = m ∷ o ∷ d ∷ e ∷ l ∷ []

abbrev pub refused : List ℕ
refused = r ∷ e ∷ f ∷ u ∷ s ∷ e ∷ d ∷ []

-- a number without a name stands for itself
unfoldable pub named : List (List ℕ) → ℕ → List ℕ
named names k = get_or names k (decimal k)
