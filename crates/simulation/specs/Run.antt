-- One call of the run, as a value: the answer, the signal bytes and the three works afterwards.
use Rattle.std.specs.Prelude.{ℕ, suc, ◌+◌, min, Bool, false, ◌&&◌, List, [], ◌∷◌, ◌++◌, map, eqb, leb, ltb, length, take, drop}
use Rattle.std.specs.Prelude.{Option, None, Some, option_map, Result, Ok, Err, ⊤}
use Rattle.bits.specs.Bits.{pick, Bits, digit}
pub use Rattle.bits.specs.Bits.{flat}
use Rattle.refusal.specs.declared.Refusal.{Refusal}
use Rattle.refusal.specs.Refusal.{number_of, place_of}
use Rattle.recorder.specs.Record.{Signal, Expr, Model}
use Rattle.recorder.specs.Record.{const, read, concat, not, and, or, xor, mux, eq, mul}
use Rattle.recorder.specs.Lists.{Lists}
use Rattle.recorder.specs.Read.{only, model_of}
use Rattle.recorder.specs.Words.{raw_of}
pub use Rattle.recorder.specs.Words.{zeroed}
use Rattle.simulation.specs.declared.Edge.{Edge}
use Rattle.simulation.specs.Wellformed.{or_else, malformed}
use Rattle.simulation.specs.Tick.{Firing, tick, looped}

-- how a run ends
abbrev pub Ran : Type 0
Ran = Result ⊤ Refusal

-- a refusal's number and place, none for a run that is accepted
abbrev pub answer_of : Ran → Option (ℕ × ℕ)
answer_of (Ok x) = None
answer_of (Err x) = Some (number_of x, place_of x)

abbrev pub fired_of : Option Edge → Option (ℕ × ℕ)
fired_of = option_map (λ e. (e.signal.0, e.edge))

-- nothing fires, or one edge of one signal
abbrev pub firing : Option (ℕ × ℕ) → Firing
firing None c d = false
firing (Some f) c d = eqb f.0 c && eqb f.1 d

-- what a caller hands over
pub record Call : Type 0 where
  pub lists : Lists
  pub bytes : List ℕ
  pub ticks : List ℕ
  pub fired : Option (ℕ × ℕ)
  pub work_bits : List ℕ
  pub work_exprs : List ℕ
  pub work_signals : List ℕ

-- the model that its lists hold
abbrev pub call_model : Call → Model
call_model c = model_of (raw_of c.lists)

-- what the caller has afterwards
pub record Outcome : Type 0 where
  pub answer : Option (ℕ × ℕ)
  pub bytes : List ℕ
  pub work_bits : List ℕ
  pub work_exprs : List ℕ
  pub work_signals : List ℕ

-- SIZES

abbrev pub expr_width : Expr → ℕ
expr_width (const w v) = w
expr_width (read w s l) = w
expr_width (concat w ps) = w
expr_width (not a) = 1
expr_width (and a b) = 1
expr_width (or a b) = 1
expr_width (xor a b) = 1
expr_width (mux w s t f) = w
expr_width (eq a b) = 1
expr_width (mul a b) = 36

abbrev pub input_width : Signal → ℕ
input_width s = pick (eqb s.label 0) s.width 0

abbrev pub total : {A : Type 0} → (A → ℕ) → List A → ℕ
total w [] = 0
total w (a ∷ l) = w a + total w l

abbrev pub signal_bytes : Model → ℕ
signal_bytes m = total (λ (s : Signal). s.width) m.signals

abbrev pub expr_bits : Model → ℕ
expr_bits m = total expr_width m.exprs

abbrev pub tick_bits : Model → ℕ
tick_bits m = total input_width m.signals

-- REFUSALS 1, 14 AND 13

-- a buffer shorter than n. No buffer has more than 2^64 - 1 bytes, and no answer can ask for more
abbrev pub short : ℕ → List ℕ → Option (ℕ × ℕ)
short n buffer = only (ltb (length buffer) n) (Some (1, min n 18446744073709551615))

-- the first byte that is no bit, counted from n
abbrev pub no_bit : ℕ → List ℕ → Option (ℕ × ℕ)
no_bit n [] = None
no_bit n (b ∷ bs) = pick (leb b 1) (no_bit (suc n) bs) (Some (14, n))

abbrev pub wrong_count : ℕ → List ℕ → Option (ℕ × ℕ)
wrong_count n ticks = pick (eqb (length ticks) n) None (Some (14, n))

abbrev pub wrong_fired : ℕ → Option (ℕ × ℕ) → Option (ℕ × ℕ)
wrong_fired signals None = None
wrong_fired signals (Some f) = pick (ltb f.0 signals && leb f.1 1) None (Some (14, 0))

abbrev pub on_loop : Option ℕ → Option (ℕ × ℕ)
on_loop None = None
on_loop (Some s) = Some (13, s)

-- the first of some answers
abbrev pub first_of : List (Option (ℕ × ℕ)) → Option (ℕ × ℕ)
first_of [] = None
first_of (o ∷ os) = or_else o (first_of os)

-- the refusals of a well-formed model's call, in their order
abbrev pub causes : Model → Call → List (Option (ℕ × ℕ))
causes m c =
    short (signal_bytes m) c.bytes
    ∷ short (expr_bits m) c.work_bits
    ∷ short (length m.exprs) c.work_exprs
    ∷ short (length m.signals) c.work_signals
    ∷ no_bit 0 (take (signal_bytes m) c.bytes)
    ∷ wrong_count (tick_bits m) c.ticks
    ∷ no_bit 0 c.ticks
    ∷ wrong_fired (length m.signals) c.fired
    ∷ on_loop (looped m)
    ∷ []

unfoldable pub refusal : Model → Call → Option (ℕ × ℕ)
refusal m c = first_of (causes m c)

-- THE SIGNAL BYTES

-- the bits of each signal, from those of all
abbrev pub per_signal : List Signal → Bits → List Bits
per_signal [] bs = []
per_signal (s ∷ ss) bs = take s.width bs ∷ per_signal ss (drop s.width bs)

abbrev pub is_one : ℕ → Bool
is_one b = eqb b 1

-- the signals before a tick and after it
abbrev pub state_before : Call → List Bits
state_before c = per_signal (call_model c).signals (map is_one c.bytes)

abbrev pub state_after : Call → List Bits
state_after c = tick (call_model c) (map is_one c.ticks) (firing c.fired) (state_before c)

-- the signal bytes after a tick; those behind the needed ones are kept
unfoldable pub ticked : Call → List ℕ
ticked c = map digit (flat (state_after c)) ++ drop (signal_bytes (call_model c)) c.bytes

-- THE CALL

abbrev pub bytes_after : Call → Option (ℕ × ℕ) → List ℕ
bytes_after c None = ticked c
bytes_after c (Some r) = c.bytes

-- 12 comes first
abbrev pub verdict : Model → Call → Option ℕ → Option (ℕ × ℕ)
verdict m c (Some n) = Some (12, n)
verdict m c None = refusal m c

unfoldable pub answer : ℕ → Call → Option (ℕ × ℕ)
answer widest c = verdict (call_model c) c (malformed widest c.lists)

unfoldable pub run : ℕ → Call → Outcome
run widest c = record {
  answer = answer widest c;
  bytes = bytes_after c (answer widest c);
  work_bits = zeroed c.work_bits;
  work_exprs = zeroed c.work_exprs;
  work_signals = zeroed c.work_signals;
}
