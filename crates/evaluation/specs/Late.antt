-- Ticks that store less. Of the signals to which an expression is assigned only those are stored that something looks at: the levels that
-- registers ask for, and the outputs. The state that is held then is late: settled, it is the one that is meant.
use Rattle.std.specs.Prelude.{ℕ, ◌+◌, ◌≤◌, ◌<◌, ◌≡◌, Bool, true, false, List, [], map, ◌⊎◌, length, get_or}
use Rattle.std.specs.Prelude.{Option, None, Some}
use Rattle.bits.specs.Bits.{Bits}
use Rattle.settle.specs.Table.{at as signals_at}
use Rattle.recorder.specs.Record.{Signal, RegReset, RegEnable, Stmt, Model, assign, reg}
use Rattle.simulation.specs.Tick.{Firing, given, assigns, loads, become, settle, tick}
use Rattle.simulation.specs.Run.{is_one}
use Rattle.simulation.specs.Index.{records_in, widths_in, start_of, stmts_in}
use Rattle.simulation.proofs.Stores.{store}
use Rattle.evaluation.specs.Bytes.{Holds}
use Rattle.evaluation.specs.Ready.{model_in}
use Rattle.evaluation.specs.Ticks.{signals_in}
use Rattle.evaluation.specs.Loads.{stmt_in, Begins, marked, by_marks}

-- x is one of k words of a list, from an index on
pub record Among (list : List ℕ) (from k x : ℕ) : Type 0 where
  pub place : ℕ
  pub before : place < k
  pub stands : get_or list (from + place) 0 ≡ x

-- STATES

-- two states that agree where nothing is assigned
pub record SameFree (m : Model) (a b : List Bits) : Type 0 where
  pub as_many : length a ≡ length b
  pub free : (s : ℕ) → given assigns m.stmts s ≡ None → get_or a s [] ≡ get_or b s []

abbrev pub no_signal : Signal
no_signal = record { label = 0; width = 0; owner = 0 }

abbrev pub signal_at : List ℕ → ℕ → Signal
signal_at signals k = get_or (signals_in signals) k no_signal

-- signal s is an output
pub record Output (signals : List Signal) (s : ℕ) : Type 0 where
  pub there : s < length signals
  pub labelled : (get_or signals s no_signal).label ≡ 1

-- a state that settles to another, and has its outputs already
pub record Late (m : Model) (state late : List Bits) : Type 0 where
  pub settles_to : settle m late ≡ state
  pub outputs : (s : ℕ) → Output m.signals s → get_or late s [] ≡ get_or state s []

-- PORTS: no input and no output begins at a word or behind it
pub record PortsBefore (signals : List ℕ) (word : ℕ) : Type 0 where
  pub inside : word ≤ length signals
  pub none_behind : (k : ℕ) → k < length (records_in signals) → word ≤ start_of signals k → ((signal_at signals k).label ≡ 0 → ⊥) × ((signal_at signals k).label ≡ 1 → ⊥)

-- REGISTERS

abbrev pub is_register : Stmt → Bool
is_register (assign t e) = false
is_register (reg t n c d r e) = true

abbrev pub reset_signal : Option RegReset → Option ℕ
reset_signal None = None
reset_signal (Some r) = Some r.signal

abbrev pub enable_signal : Option RegEnable → Option ℕ
enable_signal None = None
enable_signal (Some e) = Some e.signal

-- a register asks for the level of signal s
abbrev pub Asks : Stmt → ℕ → Type 0
Asks (assign t e) s = ⊥
Asks (reg t n c d r e) s = (reset_signal r ≡ Some s) ⊎ (enable_signal e ≡ Some s)

-- an expression that a register may load
pub record Loaded (stmts : List ℕ) (e : ℕ) : Type 0 where
  pub number : ℕ
  pub there : number < length (records_in stmts)
  pub loaded : (marked 1 (stmt_in stmts number) ≡ Some e) ⊎ (marked 2 (stmt_in stmts number) ≡ Some e)

-- k words of a list, from an index on, at which statements begin, all registers among them
pub record Registers (stmts list : List ℕ) (from k : ℕ) : Type 0 where
  pub each : (j : ℕ) → j < k → Begins stmts (get_or list (from + j) 0)
  pub all : (number : ℕ) → number < length (records_in stmts) → is_register (stmt_in stmts number) ≡ true → Among list from k (start_of stmts number)

-- WHAT IS STORED

module _ (signals exprs stmts : List ℕ) where
  -- signal s takes the value of what is assigned to it
  pub record StoresDriven (s : ℕ) (values bytes bytes' : List ℕ) : Type 0 where
    pub stores_driven : (old vs : List Bits) (behind rest : List ℕ) → Holds (widths_in signals) old behind bytes → Holds (widths_in exprs) vs rest values
        → Holds (widths_in signals) (store vs (given assigns (stmts_in stmts) s) s old) behind bytes'

  -- k signals of a list take the values of what is assigned to them; those to which nothing is assigned are kept
  pub record StoresListed (list : List ℕ) (from k : ℕ) (values bytes bytes' : List ℕ) : Type 0 where
    pub stores_listed : (old vs : List Bits) (behind rest : List ℕ) → Holds (widths_in signals) old behind bytes → Holds (widths_in exprs) vs rest values
        → (new : List Bits) × Holds (widths_in signals) new behind bytes' × ((s d : ℕ) → Among list from k s → given assigns (stmts_in stmts) s ≡ Some d → get_or new s [] ≡ get_or vs d []) × ((s : ℕ) → given assigns (stmts_in stmts) s ≡ None → get_or new s [] ≡ get_or old s [])

  -- every register takes what it loads by the marks
  pub record LoadsMarked (values marks bytes bytes' : List ℕ) : Type 0 where
    pub loads_marked : (old vs : List Bits) (behind rest : List ℕ) → Holds (widths_in signals) old behind bytes → Holds (widths_in exprs) vs rest values
        → (new : List Bits) × Holds (widths_in signals) new behind bytes' × ((s : ℕ) → get_or new s [] ≡ become vs (given (by_marks marks) (stmts_in stmts) s) (get_or old s []))

  -- every register that loads takes its value, by the levels that the bytes hold
  pub record LoadsListed (fires : Firing) (values bytes bytes' : List ℕ) : Type 0 where
    pub loads_listed : (old vs : List Bits) (behind rest : List ℕ) → Holds (widths_in signals) old behind bytes → Holds (widths_in exprs) vs rest values
        → (new : List Bits) × Holds (widths_in signals) new behind bytes' × ((s : ℕ) → get_or new s [] ≡ become vs (given (loads fires (signals_at [] old)) (stmts_in stmts) s) (get_or old s []))

  -- a tick, late
  pub record TicksLate (ticks : List ℕ) (fires : Firing) (bytes bytes' : List ℕ) : Type 0 where
    pub ticks_late : (old : List Bits) (behind : List ℕ) → Holds (widths_in signals) old behind bytes → (late : List Bits) × Holds (widths_in signals) late behind bytes' × Late (model_in signals exprs stmts) (tick (model_in signals exprs stmts) (map is_one ticks) fires old) late
