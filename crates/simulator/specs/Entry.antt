-- The call of `simulate` as a value, and what it says of the netlist's own cells.
use Rattle.std.specs.Prelude.{◌≡◌, List, map, ℕ, ◌≤◌, length, take}
use Rattle.std.specs.Prelude.{Option, None, Some, Result}
use Rattle.netlist.specs.declared.Limits.{Limits}
use Rattle.netlist.specs.Netlist.{Netlist}
use Rattle.netlist.specs.Reader.{netlist, read_words}
use Rattle.recorder.specs.declared.Tapes.{Tapes}
use Rattle.recorder.specs.Lists.{Lists}
use Rattle.lowering.specs.Lower.{Lowered, Accepted, Refused, Lowering}
use Rattle.behaviour.specs.Behaviour.{start, NoWireLoop}
use Rattle.simulation.specs.Wellformed.{largest}
use Rattle.simulation.specs.Run.{Ran, zeroed, tick_bits}
use Rattle.simulation.specs.Run as s
use Rattle.simulation.specs.Shown.{Entry, ByModel}
use Rattle.forms.specs.Lowered.{lowered_model}
use Rattle.refusal.specs.declared.Refusal.{Refusal}
use Rattle.converter.specs.Entry.{answer_of, call_of, blank_of}
use Rattle.runner.specs.Calls.{ListCall, ListOutcome, entries, answers_of, outputs_of, filled, run_list}
use Rattle.runner.specs.Whole.{list_call}
use Rattle.equivalence.specs.Demand.{used_lists, shown_by_cells, AllAgree, Answered}

-- WHAT A CALLER HANDS OVER: netlist words, ticks (three words each, and their bits), and buffers. Of lists, works and outputs only the lengths matter
pub record Simulation : Type 0 where
  pub words : List ℕ
  pub heads : List ℕ
  pub bits : List ℕ
  pub lists : Lists
  pub works : List (List ℕ)
  pub bytes : List ℕ
  pub work_bits : List ℕ
  pub work_exprs : List ℕ
  pub work_signals : List ℕ
  pub answers : List ℕ
  pub shown : List ℕ

abbrev pub simulation : List ℕ → List ℕ → List ℕ → Lists → List (List ℕ) → List ℕ → List ℕ → List ℕ → List ℕ → List ℕ → List ℕ → Simulation
simulation words heads bits l works bytes wb we ws answers shown =
    record { words = words; heads = heads; bits = bits; lists = l; works = works; bytes = bytes; work_bits = wb; work_exprs = we; work_signals = ws; answers = answers; shown = shown }

-- what the caller has afterwards; every work is zeros
pub record Simulated : Type 0 where
  pub answer : Lowered
  pub lists : Lists
  pub answers : List ℕ
  pub shown : List ℕ

abbrev pub refused_by : Simulation → ℕ → ℕ → Simulated
refused_by x number place = record { answer = Refused number place; lists = blank_of x.lists; answers = zeroed x.answers; shown = zeroed x.shown }

-- the ticks on the words that lowering used, from signal bytes of zeros
abbrev pub ticks_on : Simulation → Lists → Tapes → ListCall
ticks_on x l t = record {
  lists = used_lists l t;
  heads = x.heads;
  bits = x.bits;
  bytes = zeroed x.bytes;
  work_bits = x.work_bits;
  work_exprs = x.work_exprs;
  work_signals = x.work_signals;
  answers = x.answers;
  shown = x.shown;
}

abbrev pub ran : Simulation → Lists → Tapes → Option (ℕ × ℕ) → ListOutcome → Simulated
ran x l t (Some r) o = refused_by x r.0 r.1
ran x l t None o = record { answer = Accepted t; lists = l; answers = o.answers; shown = o.shown }

abbrev pub lowered : Simulation → Lists → Lowered → Simulated
lowered x l (Refused number place) = refused_by x number place
lowered x l (Accepted t) = let o = run_list largest (ticks_on x l t) in ran x l t o.answer o

-- THE CALL: lowers, then runs the whole list
unfoldable pub simulate_call : Limits → Simulation → Simulated
simulate_call limits x = let r = call_of limits x.words x.lists x.works in lowered x r.lists r.answer

-- THE CELLS

-- the model's cells share their reads of so many wires
abbrev pub entries_of : ℕ → Netlist → Simulation → List Entry
entries_of shared n x = entries (tick_bits (lowered_model shared n)) x.work_bits x.work_exprs x.work_signals x.heads x.bits

-- for each tick its answer and the outputs after it stand in the buffers, and they are those of the netlist's own cells
pub record ShowsCells (shared : ℕ) (n : Netlist) (x : Simulation) (answers' shown' : List ℕ) : Type 0 where
  pub ticks : List ByModel
  pub agree : AllAgree ticks (shown_by_cells shared n (start n) (entries_of shared n x))
  pub answered : Answered (lowered_model shared n) (entries_of shared n x) ticks
  pub answers_are : answers' ≡ filled x.answers (answers_of ticks)
  pub shown_are : shown' ≡ filled x.shown (outputs_of ticks)

-- lists, answers and outputs at exit
pub record Simulates (limits : Limits) (x : Simulation) (r : Result Tapes Refusal) (l' : Lists) (answers' shown' : List ℕ) : Type 0 where
  pub value : record { answer = answer_of r; lists = l'; answers = answers'; shown = shown' } ≡ simulate_call limits x
  pub cells : (n : Netlist) → read_words limits x.words ≡ netlist n → NoWireLoop n → (t : Tapes) → answer_of r ≡ Accepted t → ShowsCells limits.wires n x answers' shown'
  -- a netlist that lowering accepts is refused only for a short buffer: 12 never comes, 13 and 14 are a tick's own
  pub only_short : (n : Netlist) → read_words limits x.words ≡ netlist n → (t : Tapes) (l : Lists) → call_of limits x.words x.lists x.works ≡ record { answer = Accepted t; lists = l }
      → (number place : ℕ) → answer_of r ≡ Refused number place → number ≡ 1

pub record Zeroed (works works' : List (List ℕ)) : Type 0 where
  pub zeros : works' ≡ map zeroed works
