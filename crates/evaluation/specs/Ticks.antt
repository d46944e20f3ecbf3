-- What settling, storing, committing and a whole tick leave in the bytes, for all signals that they may hold.
use Rattle.std.specs.Prelude.{ℕ, ◌≤◌, ◌<◌, ◌≡◌, length, get_or, take, set}
use mathlib.Core.List.{List, [], map, Memᴰ as Mem}
use Rattle.std.specs.Prelude.{None}
use Rattle.bits.specs.Bits.{Bits}
use Rattle.recorder.specs.Record.{Signal, Model}
use Rattle.recorder.specs.Read.{read_signal, read_all}
use Rattle.recorder.specs.Lists.{lists}
use Rattle.recorder.specs.Words.{raw_of, EachReads}
use Rattle.simulation.specs.Wellformed.{first_fault}
use Rattle.simulation.specs.Index.{records_in, widths_in}
use Rattle.simulation.specs.Tick.{Firing, values_in, settle, commit, set_inputs, tick}
use Rattle.simulation.specs.Run.{is_one, input_width, total, no_bit}
use Rattle.ordering.specs.Order.{needs}
use Rattle.evaluation.specs.Bytes.{Holds}
use Rattle.evaluation.specs.Consistent.{stored, Consistent}
use Rattle.evaluation.specs.Ready.{model_in}
use Rattle.evaluation.specs.Loads.{SameNamed}

-- a model without a fault
pub record NoFault (signals exprs stmts : List ℕ) : Type 0 where
  pub widest : ℕ
  pub faultless : first_fault widest (raw_of (lists signals exprs stmts)) ≡ None

-- bytes that hold some values of these widths
pub record Filled (ws bytes : List ℕ) : Type 0 where
  pub values : List Bits
  pub rest : List ℕ
  pub holds : Holds ws values rest bytes

-- an order of all n expressions, each behind what it needs; nothing is said of one that has no room for them
pub record Ordered (m : Model) (n : ℕ) (order : List ℕ) : Type 0 where
  pub all : n ≤ length order → (e : ℕ) → e < n → Mem e (take n order)
  pub behind : n ≤ length order → (j : ℕ) → j < n → (d : ℕ) → Mem d (needs m (get_or order j 0)) → Mem d (take j order)

-- signals that can be read
abbrev pub signals_in : List ℕ → List Signal
signals_in signals = read_all read_signal (records_in signals)

pub record ReadSignals (signals : List ℕ) : Type 0 where
  pub readable : EachReads read_signal (records_in signals)

-- the bits of a tick: as many as the inputs have
pub record GoodTicks (signals ticks : List ℕ) : Type 0 where
  pub right_count : length ticks ≡ total input_width (signals_in signals)
  pub all_bits : no_bit 0 ticks ≡ None

-- the inputs take them
pub record Inputs (signals ticks bytes bytes' : List ℕ) : Type 0 where
  pub inputs : (old : List Bits) (behind : List ℕ) → Holds (widths_in signals) old behind bytes → Holds (widths_in signals) (set_inputs (signals_in signals) (map is_one ticks) old) behind bytes'

-- signal t takes the value of expression d
pub record StoresOne (signals exprs values : List ℕ) (t d : ℕ) (bytes bytes' : List ℕ) : Type 0 where
  pub stores_one : (old vs : List Bits) (behind rest : List ℕ) → Holds (widths_in signals) old behind bytes → Holds (widths_in exprs) vs rest values → Holds (widths_in signals) (set old t (get_or vs d [])) behind bytes'

module _ (signals exprs stmts : List ℕ) where
  -- the values are consistent over the signals
  pub record Settles (bytes values' : List ℕ) : Type 0 where
    pub settles : (old : List Bits) (behind : List ℕ) → Holds (widths_in signals) old behind bytes → (vs : List Bits) × (rest : List ℕ) × Holds (widths_in exprs) vs rest values' × Consistent (model_in signals exprs stmts) old vs

  -- of the expressions that statements name, those of the settled model
  pub record SettlesNamed (bytes values' : List ℕ) : Type 0 where
    pub settles_named : (old : List Bits) (behind : List ℕ) → Holds (widths_in signals) old behind bytes → (vs : List Bits) × (rest : List ℕ) × Holds (widths_in exprs) vs rest values' × SameNamed stmts vs (values_in (model_in signals exprs stmts) (settle (model_in signals exprs stmts) old))

  -- every assigned signal has its expression's value
  pub record Stores (values bytes bytes' : List ℕ) : Type 0 where
    pub stores : (old vs : List Bits) (behind rest : List ℕ) → Holds (widths_in signals) old behind bytes → Holds (widths_in exprs) vs rest values → Holds (widths_in signals) (stored (model_in signals exprs stmts) old vs) behind bytes'

  -- both
  pub record Settled (bytes bytes' values' : List ℕ) : Type 0 where
    pub signals_hold : (old : List Bits) (behind : List ℕ) → Holds (widths_in signals) old behind bytes → Holds (widths_in signals) (settle (model_in signals exprs stmts) old) behind bytes'
    pub values_hold : SettlesNamed bytes values'

  -- the registers load
  pub record Commits (fires : Firing) (values bytes bytes' : List ℕ) : Type 0 where
    pub commits : (t vs : List Bits) (behind rest : List ℕ) → Holds (widths_in signals) t behind bytes → Holds (widths_in exprs) vs rest values → SameNamed stmts vs (values_in (model_in signals exprs stmts) t) → Holds (widths_in signals) (commit (model_in signals exprs stmts) fires t) behind bytes'

  pub record Ticks (ticks : List ℕ) (fires : Firing) (bytes bytes' : List ℕ) : Type 0 where
    pub ticks_to : (old : List Bits) (behind : List ℕ) → Holds (widths_in signals) old behind bytes → Holds (widths_in signals) (tick (model_in signals exprs stmts) (map is_one ticks) fires old) behind bytes'
