-- What the code's tests say, from the records' fields; what refuses a call before any loop is looked for.
use Rattle.std.specs.Prelude.{ℕ, ◌+◌, ◌^◌, ◌<◌, min, ◌≡◌, Bool, true, ◌&&◌, List, [], ◌∷◌, eqb, leb, ltb, length, get_or, take, drop}
use Rattle.std.specs.Prelude.{Option, None, Some}
use Rattle.bits.specs.Bits.{pick}
use Rattle.recorder.specs.Read.{read_signal, read_expr, read_stmt}
use Rattle.recorder.specs.Record.{Model}
use Rattle.recorder.specs.Lists.{Lists}
use Rattle.simulation.specs.Index.{records_in}
use Rattle.simulation.specs.Wellformed.{widths, count_of, drives, wide, in_range, earlier, width_sum, broad, suits, fits, first_failing, signal_fits, expr_fits, stmt_fits, or_else, malformed}
use Rattle.simulation.specs.Run.{Call, call_model, total, short, no_bit, wrong_count, wrong_fired, first_of, causes}

-- a record that counts as a statement
abbrev pub stands : List ℕ → Bool
stands r = leb 2 (length r) && leb (get_or r 0 0) 1

-- for each signal, as far as the table goes, how many statements stand on it: none, one, or more
pub record Tallied (rs : List (List ℕ)) (table : List ℕ) : Type 0 where
  pub tally_at : (i : ℕ) → i < length table → get_or table i 0 ≡ min (count_of (drives i) rs) 2

-- the test of signal n, and the first that fails it
abbrev pub signal_test : ℕ → List (List ℕ) → ℕ → List ℕ → Bool
signal_test widest ts n r = fits (signal_fits widest (count_of (drives n) ts)) (read_signal r)

abbrev pub signal_fault_of : ℕ → List (List ℕ) → List (List ℕ) → Option ℕ
signal_fault_of widest ss ts = first_failing (signal_test widest ts) 0 ss

-- all these operands come before expression n and are w wide
abbrev pub all_wide : List ℕ → ℕ → ℕ → List ℕ → Bool
all_wide ew n w [] = true
all_wide ew n w (a ∷ l) = wide ew n a w && all_wide ew n w l

-- the test of expression n, and the same for each kind: how many fields, which widths
abbrev pub expr_test : ℕ → List ℕ → List ℕ → ℕ → List ℕ → Bool
expr_test widest sw ew n r = fits (expr_fits widest sw ew n) (read_expr r)

abbrev pub const_test : ℕ → List ℕ → Bool
const_test widest r = eqb (length r) 3 && (in_range widest (get_or r 1 0) && ltb (get_or r 2 0) (2 ^ get_or r 1 0))

abbrev pub read_test : ℕ → List ℕ → List ℕ → Bool
read_test widest sw r = eqb (length r) 4 && (in_range widest (get_or r 1 0) && ltb (get_or r 2 0) (length sw) && leb (get_or r 3 0 + get_or r 1 0) (get_or sw (get_or r 2 0) 0))

abbrev pub concat_test : ℕ → List ℕ → ℕ → List ℕ → Bool
concat_test widest ew n r = leb 2 (length r) && (in_range widest (get_or r 1 0) && earlier n (drop 2 r) && eqb (width_sum ew (drop 2 r)) (get_or r 1 0))

-- operands as wide as the expression itself
abbrev pub fixed_test : List ℕ → ℕ → ℕ → ℕ → List ℕ → Bool
fixed_test ew n fields w r = eqb (length r) fields && (eqb (get_or r 1 0) w && all_wide ew n w (drop 2 r))

abbrev pub mux_test : ℕ → List ℕ → ℕ → List ℕ → Bool
mux_test widest ew n r = eqb (length r) 5 && (in_range widest (get_or r 1 0) && wide ew n (get_or r 2 0) 1 && wide ew n (get_or r 3 0) (get_or r 1 0) && wide ew n (get_or r 4 0) (get_or r 1 0))

abbrev pub eq_test : List ℕ → ℕ → List ℕ → Bool
eq_test ew n r = eqb (length r) 4 && (eqb (get_or r 1 0) 1 && (ltb (get_or r 2 0) n && wide ew n (get_or r 3 0) (get_or ew (get_or r 2 0) 0)))

abbrev pub expr_fault_of : ℕ → List (List ℕ) → List (List ℕ) → Option ℕ
expr_fault_of widest ss es = first_failing (expr_test widest (widths ss) (widths es)) 0 es

-- the test of a statement, and the same for each kind
abbrev pub stmt_test : List ℕ → List ℕ → List ℕ → Bool
stmt_test sw ew r = fits (stmt_fits sw ew) (read_stmt r)

abbrev pub assign_test : List ℕ → List ℕ → List ℕ → Bool
assign_test sw ew r = eqb (length r) 3 && suits sw ew (get_or r 1 0) (get_or r 2 0)

-- target and next value, clock and edge of a register
abbrev pub head_test : List ℕ → List ℕ → List ℕ → Bool
head_test sw ew r = suits sw ew (get_or r 1 0) (get_or r 2 0) && broad sw (get_or r 3 0) 1 && leb (get_or r 4 0) 1

-- its reset, which stands from the sixth field on
abbrev pub reset_test : List ℕ → List ℕ → List ℕ → Bool
reset_test sw ew r = broad sw (get_or r 6 0) 1 && leb (get_or r 7 0) 1 && suits sw ew (get_or r 1 0) (get_or r 8 0)

-- its enable, the last fields
abbrev pub enable_test : List ℕ → List ℕ → Bool
enable_test sw e = pick (eqb (get_or e 0 0) 0) (eqb (length e) 1) (eqb (get_or e 0 0) 1 && (eqb (length e) 3 && (broad sw (get_or e 1 0) 1 && leb (get_or e 2 0) 1)))

abbrev pub reg_test : List ℕ → List ℕ → List ℕ → Bool
reg_test sw ew r = leb 7 (length r) && (head_test sw ew r && pick (eqb (get_or r 5 0) 0) (enable_test sw (drop 6 r)) (eqb (get_or r 5 0) 1 && (leb 10 (length r) && (reset_test sw ew r && enable_test sw (drop 9 r)))))

abbrev pub stmt_fault_of : List (List ℕ) → List (List ℕ) → List (List ℕ) → Option ℕ
stmt_fault_of ss es ts = first_failing (λ (n : ℕ) r. stmt_test (widths ss) (widths es) r) 0 ts

-- A CALL

-- the widths of all records of a list together, and those of inputs
abbrev pub second_field : List ℕ → ℕ
second_field r = get_or r 1 0

abbrev pub width_total : List ℕ → ℕ
width_total list = total second_field (records_in list)

abbrev pub input_field : List ℕ → ℕ
input_field r = pick (eqb (get_or r 0 0) 0) (get_or r 1 0) 0

abbrev pub input_total : List ℕ → ℕ
input_total list = total input_field (records_in list)

-- buffers that are too short, and then bits that are none
abbrev pub length_causes : List ℕ → List ℕ → List ℕ → List ℕ → List ℕ → List ℕ → List (Option (ℕ × ℕ))
length_causes signals exprs bytes work_bits work_exprs work_signals =
    short (width_total signals) bytes
    ∷ short (width_total exprs) work_bits
    ∷ short (length (records_in exprs)) work_exprs
    ∷ short (length (records_in signals)) work_signals
    ∷ []

-- what can be wrong with one tick on a model of so many signals and input bits
abbrev pub tick_causes : ℕ → ℕ → List ℕ → Option (ℕ × ℕ) → List (Option (ℕ × ℕ))
tick_causes signals bits ticks fired = wrong_count bits ticks ∷ no_bit 0 ticks ∷ wrong_fired signals fired ∷ []

abbrev pub bit_causes : List ℕ → List ℕ → List ℕ → Option (ℕ × ℕ) → List (Option (ℕ × ℕ))
bit_causes signals bytes ticks fired =
    no_bit 0 (take (width_total signals) bytes) ∷ tick_causes (length (records_in signals)) (input_total signals) ticks fired

abbrev pub call_causes : Call → Option (ℕ × ℕ)
call_causes c =
    or_else (first_of (length_causes c.lists.signals c.lists.exprs c.bytes c.work_bits c.work_exprs c.work_signals))
    (first_of (bit_causes c.lists.signals c.bytes c.ticks c.fired))

abbrev pub call_of : Lists → List ℕ → List ℕ → Option (ℕ × ℕ) → List ℕ → List ℕ → List ℕ → Call
call_of l bytes ticks fired work_bits work_exprs work_signals =
    record { lists = l; bytes = bytes; ticks = ticks; fired = fired; work_bits = work_bits; work_exprs = work_exprs; work_signals = work_signals }

-- refusals 12, 1 and 14: all causes but the last, which is a loop
abbrev pub checked : Model → Call → Option ℕ → Option (ℕ × ℕ)
checked m c (Some n) = Some (12, n)
checked m c None = first_of (take 8 (causes m c))

unfoldable pub checked_by : ℕ → Call → Option (ℕ × ℕ)
checked_by widest c = checked (call_model c) c (malformed widest c.lists)
