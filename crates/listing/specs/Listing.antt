-- The listing of a model: its first line, then a line for each record.
use Rattle.std.specs.Prelude.{List, [], ◌∷◌, ◌++◌, ℕ, suc}
use Rattle.recorder.specs.Read.{split}
use Rattle.lines.specs.Ascii.{newline}

abbrev pub line_text : (ℕ → List ℕ → List ℕ) → ℕ → List ℕ → List ℕ
line_text text n r = text n r ++ (newline ∷ [])

-- a line for each record, numbered from n
abbrev pub lines_from : (ℕ → List ℕ → List ℕ) → ℕ → List (List ℕ) → List ℕ
lines_from text n [] = []
lines_from text n (r ∷ rs) = line_text text n r ++ lines_from text (suc n) rs

-- the records of a list of words, as far as they stand whole
unfoldable pub lines_of : (ℕ → List ℕ → List ℕ) → List ℕ → List ℕ
lines_of text ws = lines_from text 0 (split ws).records
