-- Where signals and expressions stand: their widths, offsets, words and drivers, and the tables that the code keeps of them.
use Rattle.std.specs.Prelude.{ℕ, zero, suc, ◌+◌, ◌≤◌, ◌<◌, min, ◌≡◌, List, [], ◌∷◌, map, Bool, ◌&&◌, eqb, ltb, length, get_or, set}
use Rattle.std.specs.Prelude.{Option, None, Some, Result, Ok, Err}
use Rattle.bits.specs.Bits.{pick}
use Rattle.recorder.specs.Record.{Stmt}
use Rattle.recorder.specs.Read.{split, read_stmt, read_all}
pub use Rattle.recorder.specs.Standing.{size_of, size_at, fields_at}
use Rattle.simulation.specs.Wellformed.{widths}
use Rattle.simulation.specs.Tick.{given, assigns}

abbrev pub records_in : List ℕ → List (List ℕ)
records_in list = (split list).records

-- how many there are; an error if other words are left behind them
abbrev pub counted : List ℕ → Result ℕ ℕ
counted list = let n = length (records_in list) in pick (split list).whole (Ok n) (Err n)

-- the widths that the records of a list give
abbrev pub widths_in : List ℕ → List ℕ
widths_in list = widths (records_in list)

-- the sum of the first i widths
abbrev pub offset : List ℕ → ℕ → ℕ
offset ws zero = 0
offset [] (suc i) = 0
offset (w ∷ ws) (suc i) = w + offset ws i

-- the word at which record k begins: each record has its fields and the word that counts them
unfoldable pub start_of : List ℕ → ℕ → ℕ
start_of list k = offset (map (λ (r : List ℕ). length r + 1) (records_in list)) k

-- TABLES, of any length

-- the first widths
pub record Listed (ws table : List ℕ) : Type 0 where
  pub width_at : (i : ℕ) → i < length table → i < length ws → get_or table i 0 ≡ get_or ws i 0

-- a number as a table holds it; the largest word stands for all that are no less
abbrev pub clipped : ℕ → ℕ
clipped n = min n 4294967295

-- the first offsets
pub record Indexed (ws table : List ℕ) : Type 0 where
  pub offset_at : (i : ℕ) → i < length table → i ≤ length ws → get_or table i 0 ≡ clipped (offset ws i)

-- where the first records begin
pub record Starts (list table : List ℕ) : Type 0 where
  pub start_at : (k : ℕ) → k < length table → k < length (records_in list) → get_or table k 0 ≡ clipped (start_of list k)

-- FILLING ONE: its first n entries, as far as it has them, are f's; the others are kept
unfoldable pub filling : (ℕ → ℕ) → ℕ → List ℕ → List ℕ
filling f zero table = table
filling f (suc n) [] = []
filling f (suc n) (w ∷ table) = f 0 ∷ filling (λ (i : ℕ). f (suc i)) n table

-- with each record's width
abbrev pub width_entry : List ℕ → ℕ → ℕ
width_entry list k = get_or (widths_in list) k 0

unfoldable pub width_table : List ℕ → List ℕ → List ℕ
width_table list table = filling (width_entry list) (length (records_in list)) table

-- with the word at which each begins
abbrev pub start_entry : List ℕ → ℕ → ℕ
start_entry list k = clipped (start_of list k)

unfoldable pub start_table : List ℕ → List ℕ → List ℕ
start_table list table = filling (start_entry list) (length (records_in list)) table

-- with each one's offset, and the one behind the last
abbrev pub offset_entry : List ℕ → ℕ → ℕ
offset_entry list k = clipped (offset (widths_in list) k)

unfoldable pub offset_table : List ℕ → List ℕ → List ℕ
offset_table list table = filling (offset_entry list) (length (records_in list) + 1) table

-- READING ONE: what it says at k; where that is the largest word, or behind its end, what is found without it
abbrev pub tabled : {A : Type 0} → List ℕ → ℕ → (ℕ → A) → A → A
tabled table k said found = pick (ltb (get_or table k 4294967295) 4294967295) (said (get_or table k 4294967295)) found

unfoldable pub start_by : List ℕ → List ℕ → ℕ → ℕ
start_by list table k = tabled table k (λ (w : ℕ). w) (start_of list k)

-- a sum that can't be named is the largest number
unfoldable pub offset_by : List ℕ → List ℕ → ℕ → ℕ
offset_by list table k = tabled table k (λ (w : ℕ). w) (min (offset (widths_in list) k) 18446744073709551615)

-- DRIVERS: which expression is assigned to a signal

abbrev pub stmts_in : List ℕ → List Stmt
stmts_in list = read_all read_stmt (records_in list)

-- none is 0, expression e is e + 1
abbrev pub coded : Option ℕ → ℕ
coded None = 0
coded (Some e) = clipped (e + 1)

abbrev pub uncoded : ℕ → Option ℕ
uncoded zero = None
uncoded (suc e) = Some e

pub record Driven (list table : List ℕ) : Type 0 where
  pub driver_at : (s : ℕ) → s < length table → get_or table s 0 ≡ coded (given assigns (stmts_in list) s)

-- a table of every signal's driver
abbrev pub driver_entry : List ℕ → ℕ → ℕ
driver_entry list s = coded (given assigns (stmts_in list) s)

unfoldable pub driver_table : List ℕ → List ℕ → List ℕ
driver_table list table = filling (driver_entry list) (length table) table

unfoldable pub driver_by : List ℕ → List ℕ → ℕ → Option ℕ
driver_by list table s = tabled table s uncoded (given assigns (stmts_in list) s)

-- from a record's fields: it is an assignment, and on signal s
abbrev pub is_assign : List ℕ → Bool
is_assign r = eqb (length r) 3 && eqb (get_or r 0 0) 0

-- its signal and its expression
abbrev pub assigned : List ℕ → Option (ℕ × ℕ)
assigned r = pick (is_assign r) (Some (get_or r 1 0, get_or r 2 0)) None

abbrev pub assigns_to : ℕ → List ℕ → Bool
assigns_to s r = is_assign r && eqb (get_or r 1 0) s

-- a table with the record noted, if it is the first assignment on its signal
abbrev pub noted : List ℕ → List ℕ → List ℕ
noted r table = pick (is_assign r && eqb (get_or table (get_or r 1 0) 0) 0) (set table (get_or r 1 0) (clipped (get_or r 2 0 + 1))) table
