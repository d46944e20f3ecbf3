-- What the parts of a whole list's run answer and leave.
use Rattle.std.specs.Prelude.{ℕ, ◌*◌, ◌/◌, ◌≤◌, ◌≡◌, false, List, [], ◌∷◌, length, take}
use Rattle.std.specs.Prelude.{Option, None, Some}
use Rattle.recorder.specs.Lists.{Lists, over}
use Rattle.recorder.specs.Read.{model_of}
use Rattle.recorder.specs.Words.{raw_of}
use Rattle.simulation.specs.Run.{Ran}
use Rattle.simulation.specs.Wellformed.{largest, malformed, or_else}
use Rattle.simulation.specs.Tick.{looped}
use Rattle.simulation.specs.Run.{answer_of, total, signal_bytes, short, no_bit, on_loop, first_of}
use Rattle.simulation.specs.Fault.{length_causes}
use Rattle.simulation.specs.Shown.{bytes_after_all}
use Rattle.evaluation.specs.Ticks.{signals_in}
use Rattle.runner.specs.Calls.{ListCall, entries_of, output_width, output_bytes, answers_of, outputs_of, ListOutcome}
use Rattle.runner.specs.Parts.{is_made, Enough, made}

abbrev pub list_call : Lists → List ℕ → List ℕ → List ℕ → List ℕ → List ℕ → List ℕ → List ℕ → List ℕ → ListCall
list_call l heads bits bytes wb we ws answers shown =
    record { lists = l; heads = heads; bits = bits; bytes = bytes; work_bits = wb; work_exprs = we; work_signals = ws; answers = answers; shown = shown }

-- REFUSALS

-- 1 for the two buffers of what is shown, by the words
abbrev pub shown_causes : List ℕ → List ℕ → List ℕ → List ℕ → List (Option (ℕ × ℕ))
shown_causes signals heads answers shown =
    short (2 * (length heads / 3)) answers
    ∷ short (total output_width (signals_in signals) * (length heads / 3)) shown
    ∷ []

-- 1 for every buffer, by the words
abbrev pub fault_causes : ListCall → Option (ℕ × ℕ)
fault_causes c =
    or_else (first_of (length_causes c.lists.signals c.lists.exprs c.bytes c.work_bits c.work_exprs c.work_signals))
    (first_of (shown_causes c.lists.signals c.heads c.answers c.shown))

-- a list that nothing refuses as a whole
pub record ListFits (l : Lists) (heads bytes wb we ws answers shown : List ℕ) : Type 0 where
  pub well_formed : malformed largest l ≡ None
  pub bytes_enough : signal_bytes (model_of (raw_of l)) ≤ length bytes
  pub enough : Enough (model_of (raw_of l)) wb we ws
  pub answers_enough : 2 * (length heads / 3) ≤ length answers
  pub shown_enough : output_bytes (model_of (raw_of l)) * (length heads / 3) ≤ length shown

-- and whose signal bytes are bits
pub record ListUnrefused (l : Lists) (heads bytes wb we ws answers shown : List ℕ) : Type 0 where
  pub fits : ListFits l heads bytes wb we ws answers shown
  pub bits : no_bit 0 (take (signal_bytes (model_of (raw_of l))) bytes) ≡ None

-- WHAT STOPS EVERY TICK: a signal byte, ahead of its own causes, or a loop, behind them
abbrev pub among : Option (ℕ × ℕ) → Option (ℕ × ℕ) → Option (ℕ × ℕ) → Option (ℕ × ℕ)
among ahead own behind = or_else ahead (or_else own behind)

pub record Stopped (l : Lists) (bytes : List ℕ) (ahead behind : Option (ℕ × ℕ)) : Type 0 where
  pub stops : (own : Option (ℕ × ℕ)) → among ahead own behind ≡ among (no_bit 0 (take (signal_bytes (model_of (raw_of l))) bytes)) own (on_loop (looped (model_of (raw_of l))))
  pub refuses : (own : Option (ℕ × ℕ)) → is_made (among ahead own behind) ≡ false

-- WHAT IS LEFT

-- all as it was after a refusal, or all ticks' answers and outputs over what the buffers hold
abbrev pub leaves : ListCall → Option (ℕ × ℕ) → ListOutcome
leaves c (Some r) = record { answer = Some r; bytes = c.bytes; answers = c.answers; shown = c.shown }
leaves c None =
    let ts = made c.lists c.bytes (entries_of c) in
    record { answer = None; bytes = bytes_after_all largest c.lists c.bytes (entries_of c); answers = over c.answers 0 (answers_of ts); shown = over c.shown 0 (outputs_of ts) }

pub record Leaves (c : ListCall) (o : Option (ℕ × ℕ)) (r : Ran) (bytes' answers' shown' : List ℕ) : Type 0 where
  pub left : record { answer = answer_of r; bytes = bytes'; answers = answers'; shown = shown' } ≡ leaves c o
