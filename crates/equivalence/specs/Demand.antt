-- Demand 3: an accepted model shows what the netlist's own cells show, over whole lists of ticks, and refuses the same ticks.
use Rattle.std.specs.Prelude.{◌≡◌, ◌⊎◌, Bool, true, false, ◌&&◌, List, [], ◌∷◌, map, ℕ, leb, length, take, drop, replicate}
use Rattle.std.specs.Prelude.{Option, None, Some}
use Rattle.bits.specs.Bits.{pick, Bits, digit}
use Rattle.netlist.specs.declared.Limits.{Limits}
use Rattle.netlist.specs.Netlist.{Netlist}
use Rattle.netlist.specs.Reader.{netlist, read_words}
use Rattle.recorder.specs.declared.Tapes.{Tapes}
use Rattle.recorder.specs.Record.{Model}
use Rattle.recorder.specs.Lists.{Lists, lists}
use Rattle.recorder.specs.Read.{model_of}
use Rattle.recorder.specs.Words.{raw_of}
use Rattle.lowering.specs.Lower.{Accepted, lower_sharing}
use Rattle.behaviour.specs.Behaviour.{Fired, Tick, State, start, tick, accepts, NoWireLoop}
use Rattle.simulation.specs.Run.{expr_bits, signal_bytes, tick_bits, short, no_bit, wrong_count, wrong_fired, first_of}
use Rattle.simulation.specs.Shown.{Entry, ByModel, shown_by_model, bytes_after_all}
use Rattle.forms.specs.Lowered.{lowered_model, Roomy}

-- THE MODEL

-- a run is lent just the words that lowering used
abbrev pub used_lists : Lists → Tapes → Lists
used_lists l t = lists (take t.signals.used l.signals) (take t.exprs.used l.exprs) (take t.stmts.used l.stmts)

-- THE CELLS

abbrev pub fired_by : Option (ℕ × ℕ) → Option Fired
fired_by None = None
fired_by (Some f) = Some (record { signal = f.0; edge = f.1 })

abbrev pub tick_by : Entry → Tick
tick_by e = record { bits = e.ticks; fired = fired_by e.fired }

-- the works are as long as the model asks
abbrev pub enough : Model → Entry → Bool
enough M e = leb (expr_bits M) (length e.work_bits) && (leb (length M.exprs) (length e.work_exprs) && leb (length M.signals) (length e.work_signals))

-- the tick is made; the model is the netlist's that shares its cells' reads of so many wires
abbrev pub made : ℕ → Netlist → Entry → Bool
made shared n e = enough (lowered_model shared n) e && accepts n (tick_by e)

abbrev pub after : ℕ → Netlist → State → Entry → State
after shared n s e = pick (made shared n e) (tick n s (tick_by e)) s

pub record ByCells : Type 0 where
  pub made : Bool
  pub outputs : List (List ℕ)

abbrev pub bytes_of : List Bits → List (List ℕ)
bytes_of outputs = map (λ (bits : Bits). map digit bits) outputs

abbrev pub shown_by_cells : ℕ → Netlist → State → List Entry → List ByCells
shown_by_cells shared n s [] = []
shown_by_cells shared n s (e ∷ es) = record { made = made shared n e; outputs = bytes_of (after shared n s e).outputs } ∷ shown_by_cells shared n (after shared n s e) es

-- THE SAME: the outputs, and the ticks that are made; a refusal is 1 or 14

pub data Agrees : ByModel → ByCells → Type 0 where
  done : (outputs : List (List ℕ)) → Agrees (record { answer = None; outputs = outputs }) (record { made = true; outputs = outputs })
  refused : (number place : ℕ) (outputs : List (List ℕ)) → (number ≡ 1) ⊎ (number ≡ 14) → Agrees (record { answer = Some (number, place); outputs = outputs }) (record { made = false; outputs = outputs })

abbrev pub AllAgree : List ByModel → List ByCells → Type 0
AllAgree [] [] = Unit {0}
AllAgree [] (c ∷ cs) = ⊥
AllAgree (m ∷ ms) [] = ⊥
AllAgree (m ∷ ms) (c ∷ cs) = Agrees m c × AllAgree ms cs

-- WHAT EACH CALL ANSWERS: a short work (1), or tick bits or a fired edge that do not fit (14). The model and its signal bytes never refuse (12, 13, 1 and 14)

abbrev pub entry_causes : Model → Entry → List (Option (ℕ × ℕ))
entry_causes M e =
    short (expr_bits M) e.work_bits
    ∷ short (length M.exprs) e.work_exprs
    ∷ short (length M.signals) e.work_signals
    ∷ wrong_count (tick_bits M) e.ticks
    ∷ no_bit 0 e.ticks
    ∷ wrong_fired (length M.signals) e.fired
    ∷ []

abbrev pub answer_to : Model → Entry → Option (ℕ × ℕ)
answer_to M e = first_of (entry_causes M e)

abbrev pub Answered : Model → List Entry → List ByModel → Type 0
Answered M entries shown = map (λ (m : ByModel). m.answer) shown ≡ map (answer_to M) entries

-- FROM THE START: at least k bytes, the first k of them zeros; behind them anything
abbrev pub Fresh : ℕ → List ℕ → Type 0
Fresh k bytes = take k bytes ≡ replicate k 0

-- what P says of a list of calls and what the model shows, for each netlist without a loop that lowering accepts, whatever reads its
-- cells share: those of all wires, as lowering does (the limit on wires), or none (0)
abbrev pub Always : (ℕ → Netlist → List Entry → List ByModel → Type 0) → Type 0
Always P =
    (shared : ℕ) (limits : Limits) (widest : ℕ) → Roomy limits widest
    → (words : List ℕ) (s e t : ℕ) (tapes : Tapes) (l : Lists) → lower_sharing shared limits words s e t ≡ record { answer = Accepted tapes; lists = l }
    → (n : Netlist) → read_words limits words ≡ netlist n → NoWireLoop n
    → (bytes : List ℕ) → Fresh (signal_bytes (lowered_model shared n)) bytes
    → (entries : List Entry) → P shared n entries (shown_by_model widest (used_lists l tapes) (lowered_model shared n).signals bytes entries)

abbrev pub Demand3 : Type 0
Demand3 = Always (λ (shared : ℕ) (n : Netlist) (entries : List Entry) (shown : List ByModel). AllAgree shown (shown_by_cells shared n (start n) entries))

abbrev pub AllAnswered : Type 0
AllAnswered = Always (λ (shared : ℕ) (n : Netlist) (entries : List Entry) (shown : List ByModel). Answered (lowered_model shared n) entries shown)

-- SHARED OR NOT: two models of one netlist without a loop, each in its own lists, that share the reads of different numbers of wires, with
-- works long enough for both: after every tick they show the same outputs
abbrev pub AllEnough : Model → List Entry → Type 0
AllEnough M [] = Unit {0}
AllEnough M (e ∷ es) = (enough M e ≡ true) × AllEnough M es

abbrev pub outputs_shown : List ByModel → List (List (List ℕ))
outputs_shown shown = map (λ (m : ByModel). m.outputs) shown

abbrev pub SharingShowsTheSame : Type 0
SharingShowsTheSame =
    (a b : ℕ) (limits : Limits) (widest : ℕ) → Roomy limits widest → (words : List ℕ)
    → (s e t : ℕ) (tapes : Tapes) (l : Lists) → lower_sharing a limits words s e t ≡ record { answer = Accepted tapes; lists = l }
    → (s' e' t' : ℕ) (tapes' : Tapes) (l' : Lists) → lower_sharing b limits words s' e' t' ≡ record { answer = Accepted tapes'; lists = l' }
    → (n : Netlist) → read_words limits words ≡ netlist n → NoWireLoop n
    → (bytes bytes' : List ℕ) → Fresh (signal_bytes (lowered_model a n)) bytes → Fresh (signal_bytes (lowered_model b n)) bytes'
    → (entries : List Entry) → AllEnough (lowered_model a n) entries → AllEnough (lowered_model b n) entries
    → outputs_shown (shown_by_model widest (used_lists l tapes) (lowered_model a n).signals bytes entries)
    ≡ outputs_shown (shown_by_model widest (used_lists l' tapes') (lowered_model b n).signals bytes' entries)

-- THE BYTES BEHIND: after a list of calls on any model they are the old ones
abbrev pub BehindKept : Type 0
BehindKept =
    (widest : ℕ) (l : Lists) (bytes : List ℕ) (entries : List Entry)
    → let k = signal_bytes (model_of (raw_of l)) in drop k (bytes_after_all widest l bytes entries) ≡ drop k bytes
