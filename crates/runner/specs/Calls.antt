-- The calls of a run as values: one tick, and a list of ticks on one model.
use Rattle.std.specs.Prelude.{ℕ, zero, suc, ◌*◌, ◌≡◌, List, [], ◌∷◌, ◌++◌, eqb, leb, length, take, drop, replicate}
use Rattle.std.specs.Prelude.{Option, None, Some}
use Rattle.bits.specs.Bits.{pick}
use Rattle.recorder.specs.Record.{Signal, Model}
use Rattle.recorder.specs.Lists.{Lists, over}
use Rattle.recorder.specs.Read.{model_of}
use Rattle.recorder.specs.Words.{raw_of}
use Rattle.simulation.specs.Run.{Ran}
use Rattle.simulation.specs.Wellformed.{largest, malformed}
use Rattle.simulation.specs.Run.{Call, answer_of, run, answer, bytes_after, zeroed, flat, total, signal_bytes, expr_bits, tick_bits, short, first_of}
use Rattle.simulation.specs.Shown.{Entry, ByModel, shown_by_model, bytes_after_all}

-- ONE TICK

-- answer, signal bytes and works afterwards
pub record Runs (c : Call) (r : Ran) (bytes' work_bits' work_exprs' work_signals' : List ℕ) : Type 0 where
  pub value : record { answer = answer_of r; bytes = bytes'; work_bits = work_bits'; work_exprs = work_exprs'; work_signals = work_signals' } ≡ run largest c

-- all but the works
pub record Answers (c : Call) (r : Ran) (bytes' : List ℕ) : Type 0 where
  pub answered : answer_of r ≡ answer largest c
  pub left : bytes' ≡ bytes_after c (answer largest c)

-- A LIST OF TICKS

-- nothing fires (0), or an edge (1 rises, 2 falls) of signal s
abbrev pub fired_by : ℕ → ℕ → Option (ℕ × ℕ)
fired_by zero s = None
fired_by (suc d) s = Some (s, d)

-- n tick bits are asked for and these are there. Too few are a wrong count, whatever it is: one bit more than a model has inputs
abbrev pub handed : ℕ → ℕ → List ℕ → List ℕ
handed inputs n there = pick (leb n (length there)) there (replicate (suc inputs) 0)

-- three words a tick: how many tick bits it has, what fires, and of which signal; the bits of all ticks stand one after the other
abbrev pub entries : ℕ → List ℕ → List ℕ → List ℕ → List ℕ → List ℕ → List Entry
entries inputs wb we ws (n ∷ f ∷ s ∷ heads) bits = record { ticks = handed inputs n (take n bits); fired = fired_by f s; work_bits = wb; work_exprs = we; work_signals = ws } ∷ entries inputs wb we ws heads (drop n bits)
entries inputs wb we ws (n ∷ f ∷ []) bits = []
entries inputs wb we ws (n ∷ []) bits = []
entries inputs wb we ws [] bits = []

-- what a caller hands over: of the two buffers for what is shown only the lengths matter
pub record ListCall : Type 0 where
  pub lists : Lists
  pub heads : List ℕ
  pub bits : List ℕ
  pub bytes : List ℕ
  pub work_bits : List ℕ
  pub work_exprs : List ℕ
  pub work_signals : List ℕ
  pub answers : List ℕ
  pub shown : List ℕ

abbrev pub list_model : ListCall → Model
list_model c = model_of (raw_of c.lists)

abbrev pub entries_of : ListCall → List Entry
entries_of c = entries (tick_bits (list_model c)) c.work_bits c.work_exprs c.work_signals c.heads c.bits

-- the bytes of all output signals together
abbrev pub output_width : Signal → ℕ
output_width s = pick (eqb s.label 1) s.width 0

abbrev pub output_bytes : Model → ℕ
output_bytes m = total output_width m.signals

-- what refuses the whole list: 1. The other causes are each tick's own
abbrev pub list_causes : Model → ListCall → List (Option (ℕ × ℕ))
list_causes m c =
    short (signal_bytes m) c.bytes
    ∷ short (expr_bits m) c.work_bits
    ∷ short (length m.exprs) c.work_exprs
    ∷ short (length m.signals) c.work_signals
    ∷ short (2 * length (entries_of c)) c.answers
    ∷ short (output_bytes m * length (entries_of c)) c.shown
    ∷ []

-- 12 comes first
abbrev pub list_verdict : Model → ListCall → Option ℕ → Option (ℕ × ℕ)
list_verdict m c (Some n) = Some (12, n)
list_verdict m c None = first_of (list_causes m c)

unfoldable pub list_answer : ℕ → ListCall → Option (ℕ × ℕ)
list_answer widest c = list_verdict (list_model c) c (malformed widest c.lists)

-- a tick's answer as two numbers: 0 and 0 for one that was made
abbrev pub answer_words : Option (ℕ × ℕ) → List ℕ
answer_words None = 0 ∷ 0 ∷ []
answer_words (Some a) = a.0 ∷ a.1 ∷ []

abbrev pub answers_of : List ByModel → List ℕ
answers_of [] = []
answers_of (t ∷ ts) = answer_words t.answer ++ answers_of ts

abbrev pub outputs_of : List ByModel → List ℕ
outputs_of [] = []
outputs_of (t ∷ ts) = flat t.outputs ++ outputs_of ts

-- what the caller has afterwards
pub record ListOutcome : Type 0 where
  pub answer : Option (ℕ × ℕ)
  pub bytes : List ℕ
  pub answers : List ℕ
  pub shown : List ℕ

-- a list begins with these, and zeros stand behind
abbrev pub filled : List ℕ → List ℕ → List ℕ
filled buffer l = over (zeroed buffer) 0 l

abbrev pub list_outcome : ℕ → ListCall → Option (ℕ × ℕ) → ListOutcome
list_outcome widest c (Some r) = record { answer = Some r; bytes = c.bytes; answers = zeroed c.answers; shown = zeroed c.shown }
list_outcome widest c None =
    let ts = shown_by_model widest c.lists (list_model c).signals c.bytes (entries_of c) in
    record { answer = None; bytes = bytes_after_all widest c.lists c.bytes (entries_of c); answers = filled c.answers (answers_of ts); shown = filled c.shown (outputs_of ts) }

unfoldable pub run_list : ℕ → ListCall → ListOutcome
run_list widest c = list_outcome widest c (list_answer widest c)

-- the works and tables are zeroed always
pub record RunsList (c : ListCall) (r : Ran) (bytes' answers' shown' : List ℕ) : Type 0 where
  pub value : record { answer = answer_of r; bytes = bytes'; answers = answers'; shown = shown' } ≡ run_list largest c
