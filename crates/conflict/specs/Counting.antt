-- How the statements are counted: in the first words of the signals' records. What `overdriven` answers and leaves, whatever the words.
use Rattle.std.specs.Prelude.{Bool, List, [], ◌∷◌, ℕ, suc, ◌*◌, eqb, ltb, get_or, set}
use Rattle.std.specs.Prelude.{Option, None, Some}
use Rattle.bits.specs.Bits.{pick}
use Rattle.recorder.specs.Read.{split}

-- 4, a record's length, then 5, and 6 for two or more
abbrev pub more : ℕ → ℕ
more n = pick (eqb n 4) 5 (pick (eqb n 5) 6 n)

abbrev pub raised : List ℕ → ℕ → List ℕ
raised s at = set s at (more (get_or s at 0))

-- by statements, without their lengths
unfoldable pub tally : List ℕ → List (List ℕ) → List ℕ
tally s [] = s
tally s (r ∷ rs) = tally (raised s (4 * get_or r 1 0)) rs

-- the signals' words, with the statements in the words m counted
abbrev pub counted : List ℕ → List ℕ → List ℕ
counted s m = tally s (split m).records

-- a count and a label
abbrev pub exceeds : ℕ → ℕ → Bool
exceeds count label = ltb (pick (eqb label 0) 4 5) count

-- the lowest with too many, the records being numbered from i on
unfoldable pub lowest_from : ℕ → List ℕ → Option ℕ
lowest_from i [] = None
lowest_from i (n ∷ []) = None
lowest_from i (n ∷ l ∷ []) = None
lowest_from i (n ∷ l ∷ w ∷ []) = None
lowest_from i (n ∷ l ∷ w ∷ o ∷ ws) = pick (ltb n 4) None (pick (exceeds n l) (Some i) (lowest_from (suc i) ws))

unfoldable pub restored : List ℕ → List ℕ
restored [] = []
restored (n ∷ []) = n ∷ []
restored (n ∷ l ∷ []) = n ∷ l ∷ []
restored (n ∷ l ∷ w ∷ []) = n ∷ l ∷ w ∷ []
restored (n ∷ l ∷ w ∷ o ∷ ws) = pick (ltb n 4) (n ∷ l ∷ w ∷ o ∷ ws) (4 ∷ l ∷ w ∷ o ∷ restored ws)
