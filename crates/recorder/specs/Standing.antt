-- What stands at an index of a list: one step of a loop that reads it.
use Rattle.std.specs.Prelude.{ℕ, zero, suc, ◌+◌, ◌-◌, List, [], ◌∷◌, leb, length, take, drop}
use Rattle.bits.specs.Bits.{pick}
use Rattle.recorder.specs.declared.Cut.{Cut}
use Rattle.recorder.specs.declared.Cut.TheVariants.{Record, End, Broken}
use Rattle.recorder.specs.Read as read

abbrev pub standing : List ℕ → Cut
standing [] = End
standing (zero ∷ ws) = Broken
standing (suc n ∷ ws) = pick (leb n (length ws)) (Record n) Broken

unfoldable pub cut_at : List ℕ → ℕ → Cut
cut_at ws at = standing (drop at ws)

-- the split from an index on, by what stands there
abbrev pub split_by : List ℕ → ℕ → Cut → read.Cut
split_by ws at (Record n) = read.before (take n (drop (at + 1) ws)) (read.split (drop (at + 1 + n) ws))
split_by ws at End = read.none_left
split_by ws at Broken = read.stopped

-- the words of what stands there, the length's own among them; 0 for no whole record
abbrev pub size_of : Cut → ℕ
size_of (Record n) = n + 1
size_of End = 0
size_of Broken = 0

abbrev pub size_at : List ℕ → ℕ → ℕ
size_at ws at = size_of (cut_at ws at)

-- the fields of a record of so many words at an index, which stand behind its length
abbrev pub fields_at : List ℕ → ℕ → ℕ → List ℕ
fields_at ws at size = take (size - 1) (drop (at + 1) ws)
