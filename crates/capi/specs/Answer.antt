-- Answers as numbers, for other languages.
use Rattle.std.specs.Prelude.{Bool, false, List, [], ◌∷◌, ◌++◌, map, ◌≡◌, ℕ, ◌≤◌, eqb, ltb, length, get_or, take, drop}
use Rattle.std.specs.Prelude.{Option, None, Some, Result}
use Rattle.std.proofs.lemmas.List.Edits.{sets}
use Rattle.bits.specs.Bits.{pick}
use Rattle.netlist.specs.Reader.{base}
use Rattle.recorder.specs.Record.{Model}
use Rattle.recorder.specs.Lists.{Lists}
use Rattle.lowering.specs.Lower.{Lowered, Accepted, Refused, Lowering}
use Rattle.simulation.specs.Wellformed.{largest, malformed}
use Rattle.simulation.specs.Run.{Call, call_model, zeroed, short, causes, first_of, bytes_after}
use Rattle.refusal.specs.declared.Refusal.{Refusal}
use Rattle.recorder.specs.declared.Tapes.{Tapes}
use Rattle.converter.specs.Entry.{answer_of, any_short, call_of, blank_of}
use Rattle.simulator.specs.Entry.{Simulation, Simulated, Simulates, refused_by}
use Rattle.simulator.specs.Entry as e

-- number and place of a refusal, or zeros
abbrev pub refusal_numbers : Option (ℕ × ℕ) → List ℕ
refusal_numbers None = 0 ∷ 0 ∷ []
refusal_numbers (Some r) = r.0 ∷ r.1 ∷ []

-- the same, and behind the zeros each list's records and words used
abbrev pub numbers_of : Lowered → List ℕ
numbers_of (Accepted t) = 0 ∷ 0 ∷ t.signals.count ∷ t.signals.used ∷ t.exprs.count ∷ t.exprs.used ∷ t.stmts.count ∷ t.stmts.used ∷ []
numbers_of (Refused number place) = number ∷ place ∷ []

-- the first is the code; as many as fit stand in a lent buffer, and zeros behind them
pub record Hands (numbers buffer : List ℕ) (code : ℕ) (buffer' : List ℕ) : Type 0 where
  pub coded : code ≡ get_or numbers 0 0
  pub handed : buffer' ≡ sets (zeroed buffer) 0 numbers

-- THE CALLS. A short `answer` is a short lent buffer: 1, place 8

-- lowering and simulating look at it directly after the five works
abbrev pub no_room : List (List ℕ) → List ℕ → Bool
no_room works buffer = pick (any_short (map length works)) false (ltb (length buffer) 8)

abbrev pub lower_call : List ℕ → Lists → List (List ℕ) → List ℕ → Lowering
lower_call words l works buffer = pick (no_room works buffer) (record { answer = Refused 1 8; lists = blank_of l }) (call_of base words l works)

pub record HandsLowered (words : List ℕ) (l : Lists) (works : List (List ℕ)) (buffer : List ℕ) (code : ℕ) (l' : Lists) (works' : List (List ℕ)) (buffer' : List ℕ) : Type 0 where
  pub lists : l' ≡ (lower_call words l works buffer).lists
  pub zeros : works' ≡ map zeroed works
  pub hands : Hands (numbers_of (lower_call words l works buffer).answer) buffer code buffer'

abbrev pub simulate_call : Simulation → List ℕ → Simulated
simulate_call x buffer = pick (no_room x.works buffer) (refused_by x 1 8) (e.simulate_call base x)

-- with room: demand 3 too
pub record HandsSimulated (x : Simulation) (buffer : List ℕ) (code : ℕ) (l' : Lists) (answers' shown' buffer' : List ℕ) : Type 0 where
  pub answer : Result Tapes Refusal
  pub value : record { answer = answer_of answer; lists = l'; answers = answers'; shown = shown' } ≡ simulate_call x buffer
  pub simulates : 8 ≤ length buffer → Simulates base x answer l' answers' shown'
  pub hands : Hands (numbers_of (answer_of answer)) buffer code buffer'

-- a run looks at it last among its buffers, which are the first four causes
abbrev pub run_causes : Model → Call → List ℕ → List (Option (ℕ × ℕ))
run_causes m k buffer = take 4 (causes m k) ++ (short 8 buffer ∷ drop 4 (causes m k))

abbrev pub run_verdict : Call → List ℕ → Option ℕ → Option (ℕ × ℕ)
run_verdict k buffer (Some n) = Some (12, n)
run_verdict k buffer None = first_of (run_causes (call_model k) k buffer)

abbrev pub run_answer : Call → List ℕ → Option (ℕ × ℕ)
run_answer k buffer = run_verdict k buffer (malformed largest k.lists)

pub record HandsRan (k : Call) (buffer : List ℕ) (code : ℕ) (bytes' work_bits' work_exprs' work_signals' buffer' : List ℕ) : Type 0 where
  pub bytes : bytes' ≡ bytes_after k (run_answer k buffer)
  pub bits_zeros : work_bits' ≡ zeroed k.work_bits
  pub exprs_zeros : work_exprs' ≡ zeroed k.work_exprs
  pub signals_zeros : work_signals' ≡ zeroed k.work_signals
  pub hands : Hands (refusal_numbers (run_answer k buffer)) buffer code buffer'

-- FOR THEIR PARTS: what a call that is refused in any case is refused for, where `answer` has no room

abbrev pub or_no_room : Lowered → Lowered
or_no_room (Accepted t) = Refused 1 8
or_no_room (Refused number place) = pick (eqb number 1) (Refused number place) (Refused 1 8)

abbrev pub or_no_room_ran : Option (ℕ × ℕ) → Option (ℕ × ℕ)
or_no_room_ran None = Some (1, 8)
or_no_room_ran (Some r) = pick (ltb r.0 13) (Some r) (Some (1, 8))
