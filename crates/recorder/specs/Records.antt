-- What is left of a list's records.
use Rattle.std.specs.Prelude.{ℕ, ◌≡◌, Bool, true, false, List, [], ◌∷◌, Option, MatchOption}
use Rattle.std.specs.Borrow.{Bor}
use Rattle.recorder.specs.Read.{split, before}
use Rattle.recorder.specs.declared.records.Records.{Records}

abbrev pub left : Records → List (List ℕ)
left s = (split s.rest.now).records

abbrev pub is_empty : List ℕ → Bool
is_empty [] = true
is_empty (w ∷ ws) = false

-- the first record's fields and what stands behind it; none if no whole one stands there, though words may be left
abbrev pub Splits : List ℕ → Option (Bor (List ℕ) × Bor (List ℕ)) → Type 0
Splits ws o = MatchOption o (split ws ≡ record { records = []; whole = is_empty ws }) (λ p. split ws ≡ before p.0.now (split p.1.now))
