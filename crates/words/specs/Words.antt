-- Little-endian 32-bit words of bytes, laid at the start of a list.
use Rattle.std.specs.Prelude.{◌≡◌, List, [], ◌∷◌, ◌++◌, ℕ, ◌+◌, ◌*◌, ◌≤◌, ◌<◌, min, length, take, drop, Option}
use Rattle.std.specs.Io.KnownBytes.{Consumes}

-- four bytes, the lowest first
abbrev pub le_word : ℕ → ℕ → ℕ → ℕ → ℕ
le_word a b c d = a + 256 * b + 65536 * c + 16777216 * d

-- bytes that are left over make no word
unfoldable pub words_of : List ℕ → List ℕ
words_of [] = []
words_of (a ∷ []) = []
words_of (a ∷ b ∷ []) = []
words_of (a ∷ b ∷ c ∷ []) = []
words_of (a ∷ b ∷ c ∷ d ∷ bytes) = le_word a b c d ∷ words_of bytes

-- r words of the bytes stand at the start of out', all that there are or that find room; the rest is out's
pub record Laid (bytes out : List ℕ) (r : ℕ) (out' : List ℕ) : Type 0 where
  pub count : r ≡ min (length (words_of bytes)) (length out)
  pub words : out' ≡ take r (words_of bytes) ++ drop r out

-- bytes came from outside, at most n words of them, to the start of bytes'; r words of them were laid. Where bytes have no room for n words, none came.
-- A reader whose bytes are known had `left` and has `left'`
pub record ReadWords (bytes out : List ℕ) (n r : ℕ) (bytes' out' : List ℕ) (left left' : Option (List ℕ)) : Type 0 where
  pub came : ℕ
  pub most : came ≤ 4 * n
  pub taken : Consumes left left' (take came bytes')
  pub laid : Laid (take came bytes') out r out'
  pub kept : drop (4 * n) bytes' ≡ drop (4 * n) bytes
  pub roomless : length bytes < 4 * n → (came ≡ 0) × (bytes' ≡ bytes)
