-- Lists of records: how many there are, which stands where.
use mathlib.Core.Path.{◌≡◌, refl, ◌∙◌, ap}
use mathlib.Core.List.{List}
use Prim.Native.Nat.{ℕ, zero, suc, ◌+◌, ◌<◌}
use native.Mathlib.Nat.{not-suc-le-zero, le_of_suc-le-suc}
use native.Mathlib.Omega.{arith}
use lib.ListN.{length, get_or}
use Rattle.netlist.specs.declared.Bit.{Bit}
use Rattle.netlist.specs.Fields.{records_at, end_at, after, word_at, bit_at, bits_at, wires_at}

pub records_length : {A : Type 0} (value : ℕ → A) (next : ℕ → ℕ) (n i : ℕ) → length (records_at value next n i) ≡ n
unfolding records_at
records_length value next zero i = refl
records_length value next (suc n) i = ap suc (records_length value next n (next i))

pub records_get : {A : Type 0} (value : ℕ → A) (next : ℕ → ℕ) (d : A) (n i k : ℕ) → k < n → get_or (records_at value next n i) k d ≡ value (end_at next k i)
unfolding records_at end_at
records_get value next d zero i k h = absurd (not-suc-le-zero h)
records_get value next d (suc n) i zero h = refl
records_get value next d (suc n) i (suc k) h = records_get value next d n (next i) k (le_of_suc-le-suc h)

pub end_more : (next : ℕ → ℕ) (n i : ℕ) → end_at next (suc n) i ≡ next (end_at next n i)
unfolding end_at
end_more next zero i = refl
end_more next (suc n) i = end_more next n (next i)

pub end_after : (n i : ℕ) → end_at after n i ≡ i + n
unfolding end_at
end_after zero i = omega arith
end_after (suc n) i = end_after n (i + 1) ∙ omega arith

pub bits_length : (words : List ℕ) (i n : ℕ) → length (bits_at words i n) ≡ n
bits_length words i n = records_length (bit_at words) after n i

pub bits_get : (words : List ℕ) (i n : ℕ) (d : Bit) (k : ℕ) → k < n → get_or (bits_at words i n) k d ≡ bit_at words (i + k)
bits_get words i n d k h = records_get (bit_at words) after d n i k h ∙ ap (bit_at words) (end_after k i)

pub wires_length : (words : List ℕ) (i n : ℕ) → length (wires_at words i n) ≡ n
wires_length words i n = records_length (word_at words) after n i

pub wires_get : (words : List ℕ) (i n d k : ℕ) → k < n → get_or (wires_at words i n) k d ≡ word_at words (i + k)
wires_get words i n d k h = records_get (word_at words) after d n i k h ∙ ap (word_at words) (end_after k i)
