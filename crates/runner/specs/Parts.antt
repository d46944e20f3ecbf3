-- What the parts of a list's run leave.
use Rattle.std.specs.Prelude.{ℕ, ◌≤◌, ◌≡◌, Bool, true, false, List, [], map, length, take}
use Rattle.std.specs.Prelude.{Option, None, Some}
use Rattle.bits.specs.Bits.{Bits}
use Rattle.recorder.specs.Lists.{Lists, over}
use Rattle.recorder.specs.Record.{Model}
use Rattle.recorder.specs.Read.{model_of}
use Rattle.recorder.specs.Words.{raw_of}
use Rattle.simulation.specs.Wellformed.{largest, malformed}
use Rattle.simulation.specs.Index.{widths_in}
use Rattle.simulation.specs.Tick.{Firing, settle, commit, tick, looped}
use Rattle.simulation.specs.Run.{answer_of, is_one, firing, signal_bytes, expr_bits, tick_bits, no_bit, on_loop, first_of, bytes_after}
use Rattle.simulation.specs.Fault.{tick_causes as causes_of_tick, call_of}
use Rattle.simulation.specs.Run.{Ran}
use Rattle.simulation.specs.Shown.{Entry, ByModel, shown_by_model, bytes_after_all}
use Rattle.evaluation.specs.Bytes.{Holds}
use Rattle.evaluation.specs.Ready.{model_in}
use Rattle.evaluation.specs.Late.{SameFree, Late}
use Rattle.runner.specs.Calls.{entries, answers_of, outputs_of}

-- what refuses one tick on a model of `count` signals and `inputs` input bits
abbrev pub tick_causes : ℕ → ℕ → List ℕ → Option (ℕ × ℕ) → Option (ℕ × ℕ)
tick_causes count inputs ticks fired = first_of (causes_of_tick count inputs ticks fired)

-- the signals after a tick, as they were if it was refused
abbrev pub after_tick : Model → List ℕ → Option (ℕ × ℕ) → Option (ℕ × ℕ) → List Bits → List Bits
after_tick m ticks fired None old = tick m (map is_one ticks) (firing fired) old
after_tick m ticks fired (Some r) old = old

pub record RunsTick (signals exprs stmts ticks : List ℕ) (fired answer : Option (ℕ × ℕ)) (bytes bytes' : List ℕ) : Type 0 where
  pub runs : (old : List Bits) (behind : List ℕ) → Holds (widths_in signals) old behind bytes → Holds (widths_in signals) (after_tick (model_in signals exprs stmts) ticks fired answer old) behind bytes'

-- the registers have loaded, late: what is held settles to what the tick comes to
pub record LoadsAfter (signals exprs stmts : List ℕ) (fires : Firing) (bytes bytes' : List ℕ) : Type 0 where
  pub loads_after : (old : List Bits) (behind : List ℕ) → Holds (widths_in signals) old behind bytes → (late : List Bits) × Holds (widths_in signals) late behind bytes' × SameFree (model_in signals exprs stmts) late (commit (model_in signals exprs stmts) fires (settle (model_in signals exprs stmts) old))

-- the outputs have the values of the settled state
pub record ShowsAfter (signals exprs stmts bytes bytes' : List ℕ) : Type 0 where
  pub shows_after : (old : List Bits) (behind : List ℕ) → Holds (widths_in signals) old behind bytes → (late : List Bits) × Holds (widths_in signals) late behind bytes' × Late (model_in signals exprs stmts) (settle (model_in signals exprs stmts) old) late

-- a tick, late; the signals are as they were if it was refused
abbrev pub LateAfter : Model → List ℕ → Option (ℕ × ℕ) → Option (ℕ × ℕ) → List Bits → List Bits → Type 0
LateAfter m ticks fired None old late = Late m (tick m (map is_one ticks) (firing fired) old) late
LateAfter m ticks fired (Some r) old late = late ≡ old

pub record RunsLate (signals exprs stmts ticks : List ℕ) (fired answer : Option (ℕ × ℕ)) (bytes bytes' : List ℕ) : Type 0 where
  pub runs_late : (old : List Bits) (behind : List ℕ) → Holds (widths_in signals) old behind bytes → (late : List Bits) × Holds (widths_in signals) late behind bytes' × LateAfter (model_in signals exprs stmts) ticks fired answer old late

abbrev pub is_made : Option (ℕ × ℕ) → Bool
is_made None = true
is_made (Some r) = false

-- the state that is meant
abbrev pub finished : Model → Bool → List Bits → List Bits
finished m true late = settle m late
finished m false late = late

pub record Finishes (signals exprs stmts : List ℕ) (late : Bool) (bytes bytes' : List ℕ) : Type 0 where
  pub finishes : (old : List Bits) (behind : List ℕ) → Holds (widths_in signals) old behind bytes → Holds (widths_in signals) (finished (model_in signals exprs stmts) late old) behind bytes'

-- works that are long enough for a model
abbrev pub Enough : Model → List ℕ → List ℕ → List ℕ → Type 0
Enough m wb we ws = (expr_bits m ≤ length wb) × (length m.exprs ≤ length we) × (length m.signals ≤ length ws)

-- a call that nothing refuses but maybe a loop
pub record Unrefused (l : Lists) (bytes ticks : List ℕ) (fired : Option (ℕ × ℕ)) (wb we ws : List ℕ) : Type 0 where
  pub well_formed : malformed largest l ≡ None
  pub bytes_enough : signal_bytes (model_of (raw_of l)) ≤ length bytes
  pub enough : Enough (model_of (raw_of l)) wb we ws
  pub bits : no_bit 0 (take (signal_bytes (model_of (raw_of l))) bytes) ≡ None
  pub no_cause : tick_causes (length (model_of (raw_of l)).signals) (tick_bits (model_of (raw_of l))) ticks fired ≡ None

-- its answer, 13 or none, and the signal bytes
pub record Tries (l : Lists) (bytes ticks : List ℕ) (fired : Option (ℕ × ℕ)) (r : Ran) (bytes' : List ℕ) : Type 0 where
  pub answered : answer_of r ≡ on_loop (looped (model_of (raw_of l)))
  pub left : bytes' ≡ bytes_after (call_of l bytes ticks fired [] [] []) (on_loop (looped (model_of (raw_of l))))

-- all ticks, as the calls of a run with whatever works are long enough
abbrev pub made : Lists → List ℕ → List Entry → List ByModel
made l bytes es = shown_by_model largest l (model_of (raw_of l)).signals bytes es

pub record RunsTicks (l : Lists) (heads bits bytes bytes' answers answers' shown shown' : List ℕ) : Type 0 where
  pub bytes_are : (wb we ws : List ℕ) → Enough (model_of (raw_of l)) wb we ws → bytes' ≡ bytes_after_all largest l bytes (entries (tick_bits (model_of (raw_of l))) wb we ws heads bits)
  pub answers_are : (wb we ws : List ℕ) → Enough (model_of (raw_of l)) wb we ws → answers' ≡ over answers 0 (answers_of (made l bytes (entries (tick_bits (model_of (raw_of l))) wb we ws heads bits)))
  pub shown_are : (wb we ws : List ℕ) → Enough (model_of (raw_of l)) wb we ws → shown' ≡ over shown 0 (outputs_of (made l bytes (entries (tick_bits (model_of (raw_of l))) wb we ws heads bits)))
