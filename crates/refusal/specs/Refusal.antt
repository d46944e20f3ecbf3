-- The number and the place of each refusal.
use Rattle.std.specs.Prelude.{ℕ}
use Rattle.refusal.specs.declared.Refusal.{Refusal}
use Rattle.refusal.specs.declared.Refusal.TheVariants.{BufferTooShort, ListFull, BadTrailer, WordCount, WordValue, UnsupportedTrueDualPortMemoryClocking, DuplicateWire, MissingWire, NonScalarControl, UnsupportedTrueDualPortMemory, StatementConflict, MalformedModel, CombinationalLoop, BadTick}

abbrev pub number_of : Refusal → ℕ
number_of (BufferTooShort length) = 1
number_of (ListFull list) = 2
number_of BadTrailer = 3
number_of (WordCount index) = 4
number_of (WordValue index) = 5
number_of (UnsupportedTrueDualPortMemoryClocking cell) = 6
number_of (DuplicateWire wire) = 7
number_of (MissingWire wire) = 8
number_of (NonScalarControl wire) = 9
number_of (UnsupportedTrueDualPortMemory cell) = 10
number_of (StatementConflict signal) = 11
number_of (MalformedModel index) = 12
number_of (CombinationalLoop signal) = 13
number_of (BadTick place) = 14

-- 1: the length needed; 2: 0 signals, 1 expressions, 2 statements; 4 and 5: a word's index; 12: a record, counted through the three lists
abbrev pub place_of : Refusal → ℕ
place_of (BufferTooShort length) = length
place_of (ListFull list) = list
place_of BadTrailer = 0
place_of (WordCount index) = index
place_of (WordValue index) = index
place_of (UnsupportedTrueDualPortMemoryClocking cell) = cell
place_of (DuplicateWire wire) = wire
place_of (MissingWire wire) = wire
place_of (NonScalarControl wire) = wire
place_of (UnsupportedTrueDualPortMemory cell) = cell
place_of (StatementConflict signal) = signal
place_of (MalformedModel index) = index
place_of (CombinationalLoop signal) = signal
place_of (BadTick place) = place
