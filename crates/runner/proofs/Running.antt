-- All ticks of a list, one after the other. Assumes nothing.
use Prim.Native.Nat.{ℕ, suc, ◌+◌, ◌-◌, ◌*◌, ◌/◌, ◌≤◌, ◌<◌, min}
use mathlib.Core.Path.{◌≡◌, refl, sym, ◌∙◌, ap, ap₂, subst}
use mathlib.Core.Bool.{Bool, true, false}
use mathlib.Core.List.{List, [], ◌∷◌, ◌++◌}
use Rattle.std.specs.Prelude.{Option, None, Some}
use native.Mathlib.Omega.{arith}
use native.Mathlib.Numerals.{add-one}
use native.Mathlib.Nat.{le_trans, le_of_eq, zero-add, mul-suc, mul-zero, mul-le-mul_left}
use native.Mathlib.Decide.{dec_lt}
use lib.Dec.{eqb}
use lib.ListN.{length, get_or, take, drop, length-append, length-drop, drop_of_length-le}
use lib.Seq.{take_all, drop-cons, drop-drop, length-take-le}
use Rattle.bits.specs.Bits.{pick}
use Rattle.recorder.specs.Record.{Signal}
use Rattle.recorder.specs.Lists.{Lists, over}
use Rattle.recorder.specs.Read.{model_of}
use Rattle.recorder.specs.Words.{raw_of}
use Rattle.recorder.proofs.Room.{over_over}
use Rattle.simulation.specs.Wellformed.{largest, malformed}
use Rattle.simulation.specs.Tick.{looped}
use Rattle.simulation.specs.Run.{Call, input_width, total, signal_bytes, tick_bits, flat, answer, run}
use Rattle.simulation.specs.Shown.{Entry, entry_call, shown_bytes, ByModel, bytes_after_all}
use Rattle.simulation.specs.Index.{records_in, widths_in}
use Rattle.simulation.proofs.Found.{faultless}
use Rattle.evaluation.specs.Ticks.{Filled, signals_in}
use Rattle.evaluation.proofs.Calling.{holds_enough}
use Rattle.runner.specs.Calls.{fired_by, handed, entries, output_width, answer_words, answers_of, outputs_of}
use Rattle.runner.specs.Parts.{tick_causes, RunsTick, Enough, made, RunsTicks}
use Rattle.runner.proofs.Showing.{over_nothing}
use Rattle.runner.proofs.Ticking.{tick_filled, same_answer, same_bytes}

-- THE BITS OF ONE TICK

module _ (bits : List ℕ) (pos n end : ℕ) (p : pos ≤ length bits) (e : end ≡ min (pos + n) (length bits)) where
  pub end_behind : pos ≤ end
  end_behind = omega arith

  pub end_inside : end ≤ length bits
  end_inside = omega arith

  pub bits_taken : take (end - pos) (drop pos bits) ≡ take n (drop pos bits)
  bits_taken = go (dec_lt (length bits) (pos + n))
    where
      long : length (drop pos bits) ≡ length bits - pos
      long = length-drop pos bits

      go : Dec (length bits < pos + n) → take (end - pos) (drop pos bits) ≡ take n (drop pos bits)
      go (yes q) = take_all (end - pos) (drop pos bits) (omega (arith, long)) ∙ sym (take_all n (drop pos bits) (omega (arith, long)))
      go (no q) = let z : end - pos ≡ n = omega arith in ap (λ (k : ℕ). take k (drop pos bits)) z

  pub bits_left : drop n (drop pos bits) ≡ drop end bits
  bits_left = drop-drop n pos bits ∙ go (dec_lt (length bits) (pos + n))
    where
      go : Dec (length bits < pos + n) → drop (pos + n) bits ≡ drop end bits
      go (yes q) = drop_of_length-le bits {i = pos + n} (omega arith) ∙ sym (drop_of_length-le bits {i = end} (omega arith))
      go (no q) = let z : pos + n ≡ end = omega arith in ap (λ (k : ℕ). drop k bits) z

-- THREE WORDS A TICK

module _ (inputs : ℕ) (wb we ws : List ℕ) where
  abbrev pub entry_at : List ℕ → List ℕ → ℕ → ℕ → Entry
  entry_at heads bits at pos = record { ticks = handed inputs (get_or heads at 0) (take (get_or heads at 0) (drop pos bits)); fired = fired_by (get_or heads (at + 1) 0) (get_or heads (at + 2) 0); work_bits = wb; work_exprs = we; work_signals = ws }

  entries_next : (heads bits : List ℕ) (at : ℕ) → at + 3 ≤ length heads → entries inputs wb we ws (drop at heads) bits ≡ record { ticks = handed inputs (get_or heads at 0) (take (get_or heads at 0) bits); fired = fired_by (get_or heads (at + 1) 0) (get_or heads (at + 2) 0); work_bits = wb; work_exprs = we; work_signals = ws } ∷ entries inputs wb we ws (drop (at + 3) heads) (drop (get_or heads at 0) bits)
  entries_next heads bits at q = ap (λ (h : List ℕ). entries inputs wb we ws h bits) three
    where
      one : suc at ≡ at + 1
      one = omega arith

      two : suc (at + 1) ≡ at + 2
      two = omega arith

      all : suc (at + 2) ≡ at + 3
      all = omega arith

      three : drop at heads ≡ get_or heads at 0 ∷ get_or heads (at + 1) 0 ∷ get_or heads (at + 2) 0 ∷ drop (at + 3) heads
      three =
          drop-cons heads at 0 (omega arith)
          ∙ ap (λ (r : List ℕ). get_or heads at 0 ∷ r)
          (ap (λ (k : ℕ). drop k heads) one ∙ drop-cons heads (at + 1) 0 (omega arith)
          ∙ ap (λ (r : List ℕ). get_or heads (at + 1) 0 ∷ r)
          (ap (λ (k : ℕ). drop k heads) two ∙ drop-cons heads (at + 2) 0 (omega arith)
          ∙ ap (λ (k : ℕ). get_or heads (at + 2) 0 ∷ drop k heads) all))

  few : (heads bits : List ℕ) → length heads < 3 → entries inputs wb we ws heads bits ≡ []
  few [] bits q = refl
  few (n ∷ []) bits q = refl
  few (n ∷ f ∷ []) bits q = refl
  few (n ∷ f ∷ s ∷ heads) bits q = absurd (omega arith)

  entries_end : (heads bits : List ℕ) (at : ℕ) → length heads < at + 3 → entries inputs wb we ws (drop at heads) bits ≡ []
  entries_end heads bits at q = few (drop at heads) bits (omega (arith, length-drop at heads))

-- WHAT ONE TICK SHOWS

pub words_two : (a : Option (ℕ × ℕ)) → length (answer_words a) ≡ 2
words_two None = refl
words_two (Some a) = refl

pub shown_length : (ss : List Signal) (bytes : List ℕ) → total (λ (s : Signal). s.width) ss ≤ length bytes → length (flat (shown_bytes ss bytes)) ≡ total output_width ss
shown_length [] bytes h = refl
shown_length (s ∷ ss) bytes h = go (eqb s.label 1) (shown_length ss (drop s.width bytes) (omega (arith, length-drop s.width bytes)))
  where
    go : (b : Bool) → length (flat (shown_bytes ss (drop s.width bytes))) ≡ total output_width ss → length (flat (pick b (take s.width bytes ∷ shown_bytes ss (drop s.width bytes)) (shown_bytes ss (drop s.width bytes)))) ≡ pick b s.width 0 + total output_width ss
    go true ih = length-append (take s.width bytes) (flat (shown_bytes ss (drop s.width bytes))) ∙ ap₂ ◌+◌ (length-take-le s.width bytes (omega arith)) ih
    go false ih = ih ∙ sym (zero-add (total output_width ss))

run_answer : (c : Call) → (run largest c).answer ≡ answer largest c
unfolding run
run_answer c = refl

pub signals_in_lem : (l : Lists) → (model_of (raw_of l)).signals ≡ signals_in l.signals
unfolding model_of
signals_in_lem l = refl

-- ALL TICKS

-- what is asked for of a model's inputs
abbrev asks : Lists → ℕ
asks l = tick_bits (model_of (raw_of l))

-- i ticks are made: the next head stands at a word, its bits at an index; its answer and outputs go to others
pub record Running (l : Lists) (heads bits bytes₀ bytes answers₀ answers shown₀ shown : List ℕ) (at pos to i : ℕ) : Type 0 where
  pub at_is : at ≡ 3 * i
  pub to_is : to ≡ total output_width (signals_in l.signals) * i
  pub pos_inside : pos ≤ length bits
  pub bytes_long : length bytes ≡ length bytes₀
  pub answers_long : length answers ≡ length answers₀
  pub shown_long : length shown ≡ length shown₀
  pub bytes_left : (wb we ws : List ℕ) → Enough (model_of (raw_of l)) wb we ws → bytes_after_all largest l bytes (entries (asks l) wb we ws (drop at heads) (drop pos bits)) ≡ bytes_after_all largest l bytes₀ (entries (asks l) wb we ws heads bits)
  pub answers_left : (wb we ws : List ℕ) → Enough (model_of (raw_of l)) wb we ws → over answers (2 * i) (answers_of (made l bytes (entries (asks l) wb we ws (drop at heads) (drop pos bits)))) ≡ over answers₀ 0 (answers_of (made l bytes₀ (entries (asks l) wb we ws heads bits)))
  pub shown_left : (wb we ws : List ℕ) → Enough (model_of (raw_of l)) wb we ws → over shown to (outputs_of (made l bytes (entries (asks l) wb we ws (drop at heads) (drop pos bits)))) ≡ over shown₀ 0 (outputs_of (made l bytes₀ (entries (asks l) wb we ws heads bits)))

pub running_start : {l : Lists} (heads bits bytes₀ answers₀ shown₀ : List ℕ) → Running l heads bits bytes₀ bytes₀ answers₀ answers₀ shown₀ shown₀ 0 0 0 0
running_start {l} heads bits bytes₀ answers₀ shown₀ = record {
  at_is = refl;
  to_is = sym (mul-zero (total output_width (signals_in l.signals)));
  pos_inside = omega arith;
  bytes_long = refl;
  answers_long = refl;
  shown_long = refl;
  bytes_left = λ wb we ws q. refl;
  answers_left = λ wb we ws q. refl;
  shown_left = λ wb we ws q. refl;
}

-- the model's inputs and its signals' bytes, by the words
pub inputs_asked : (l : Lists) {inputs : ℕ} → inputs ≡ total input_width (signals_in l.signals) → inputs ≡ tick_bits (model_of (raw_of l))
inputs_asked l e = e ∙ ap (total input_width) (sym (signals_in_lem l))

pub bytes_held : (l : Lists) {n : ℕ} → signal_bytes (model_of (raw_of l)) ≤ n → total (λ (s : Signal). s.width) (signals_in l.signals) ≤ n
bytes_held l h = le_trans (le_of_eq (ap (total (λ (s : Signal). s.width)) (sym (signals_in_lem l)))) h

module _ {l : Lists} {heads bits bytes₀ bytes answers₀ answers shown₀ shown : List ℕ} {at pos to i : ℕ} (g : Running l heads bits bytes₀ bytes answers₀ answers shown₀ shown at pos to i) where
  -- the bits that the next head hands over
  pub ticks_handed : {inputs end : ℕ} {ticks : List ℕ} → inputs ≡ total input_width (signals_in l.signals) → end ≡ min (pos + get_or heads at 0) (length bits) → ticks ≡ handed inputs (get_or heads at 0) (take (end - pos) (drop pos bits)) → ticks ≡ handed (tick_bits (model_of (raw_of l))) (get_or heads at 0) (take (get_or heads at 0) (drop pos bits))
  ticks_handed {inputs} {end} hi he ht = ht ∙ ap₂ (λ (k : ℕ) (b : List ℕ). handed k (get_or heads at 0) b) (inputs_asked l hi) (bits_taken bits pos (get_or heads at 0) end g.pos_inside he)

  pub running_end : length heads / 3 ≤ i → RunsTicks l heads bits bytes₀ bytes answers₀ answers shown₀ shown
  running_end q = record {
    bytes_are = λ wb we ws e. ap (bytes_after_all largest l bytes) (sym (gone wb we ws)) ∙ g.bytes_left wb we ws e;
    answers_are = λ wb we ws e. sym (over_nothing answers (2 * i)) ∙ ap (λ (es : List Entry). over answers (2 * i) (answers_of (made l bytes es))) (sym (gone wb we ws)) ∙ g.answers_left wb we ws e;
    shown_are = λ wb we ws e. sym (over_nothing shown to) ∙ ap (λ (es : List Entry). over shown to (outputs_of (made l bytes es))) (sym (gone wb we ws)) ∙ g.shown_left wb we ws e;
  }
    where
      gone : (wb we ws : List ℕ) → entries (asks l) wb we ws (drop at heads) (drop pos bits) ≡ []
      gone wb we ws = entries_end (asks l) wb we ws heads (drop pos bits) at (omega (arith, g.at_is))

  -- the next one
  module _ (q : i < length heads / 3) where
    pub head_inside : at + 3 ≤ length heads
    head_inside = omega (arith, g.at_is)

    pub answer_room : 2 * (length heads / 3) ≤ length answers₀ → 2 * i + 2 ≤ length answers
    answer_room r = omega (arith, g.answers_long)

    next_room : total output_width (signals_in l.signals) * (i + 1) ≡ to + total output_width (signals_in l.signals)
    next_room = ap (λ (n : ℕ). total output_width (signals_in l.signals) * n) (add-one i) ∙ mul-suc (total output_width (signals_in l.signals)) i ∙ ap (λ (n : ℕ). n + total output_width (signals_in l.signals)) (sym g.to_is)

    pub shown_room : total output_width (signals_in l.signals) * (length heads / 3) ≤ length shown₀ → to + total output_width (signals_in l.signals) ≤ length shown
    shown_room r =
        let z : i + 1 ≤ length heads / 3 = omega arith in
        le_trans (le_of_eq (sym next_room)) (le_trans (mul-le-mul_left (total output_width (signals_in l.signals)) z) (le_trans r (le_of_eq (sym g.shown_long))))

    -- whoever answers and leaves what a call of a run does, and shows it
    module _ {end : ℕ} (he : end ≡ min (pos + get_or heads at 0) (length bits)) {a : Option (ℕ × ℕ)} {bytes' answers' shown' : List ℕ} (room : total (λ (s : Signal). s.width) (signals_in l.signals) ≤ length bytes')
        (wa : answers' ≡ over answers (2 * i) (answer_words a)) (hs : shown' ≡ over shown to (flat (shown_bytes (signals_in l.signals) bytes')))
        (answered : (wb we wt : List ℕ) → Enough (model_of (raw_of l)) wb we wt → a ≡ answer largest (entry_call l bytes (entry_at (asks l) wb we wt heads bits at pos)))
        (left : (wb we wt : List ℕ) → Enough (model_of (raw_of l)) wb we wt → bytes' ≡ (run largest (entry_call l bytes (entry_at (asks l) wb we wt heads bits at pos))).bytes) where
      -- whatever works the calls of a run are lent
      module _ (wb we wt : List ℕ) (w : Enough (model_of (raw_of l)) wb we wt) where
        abbrev e : Entry
        e = entry_at (asks l) wb we wt heads bits at pos

        abbrev c : Call
        c = entry_call l bytes e

        abbrev es : List Entry
        es = entries (asks l) wb we wt (drop (at + 3) heads) (drop end bits)

        these : entries (asks l) wb we wt (drop at heads) (drop pos bits) ≡ entry_at (asks l) wb we wt heads bits at pos ∷ entries (asks l) wb we wt (drop (at + 3) heads) (drop end bits)
        these = entries_next (asks l) wb we wt heads (drop pos bits) at head_inside ∙ ap (λ (b : List ℕ). e ∷ entries (asks l) wb we wt (drop (at + 3) heads) b) (bits_left bits pos (get_or heads at 0) end g.pos_inside he)

        made_next : made l bytes (entries (asks l) wb we wt (drop at heads) (drop pos bits)) ≡ record { answer = a; outputs = shown_bytes (model_of (raw_of l)).signals bytes' } ∷ made l bytes' (entries (asks l) wb we wt (drop (at + 3) heads) (drop end bits))
        made_next = ap (made l bytes) these ∙ ap₂ (λ (o : Option (ℕ × ℕ)) (b : List ℕ). record { answer = o; outputs = shown_bytes (model_of (raw_of l)).signals b } ∷ made l b es) (run_answer c ∙ sym (answered wb we wt w)) (sym (left wb we wt w))

        bytes_next : bytes_after_all largest l bytes' (entries (asks l) wb we wt (drop (at + 3) heads) (drop end bits)) ≡ bytes_after_all largest l bytes₀ (entries (asks l) wb we wt heads bits)
        bytes_next = ap (λ (b : List ℕ). bytes_after_all largest l b es) (left wb we wt w) ∙ ap (bytes_after_all largest l bytes) (sym these) ∙ g.bytes_left wb we wt w

        answers_next : over answers' (2 * (i + 1)) (answers_of (made l bytes' (entries (asks l) wb we wt (drop (at + 3) heads) (drop end bits)))) ≡ over answers₀ 0 (answers_of (made l bytes₀ (entries (asks l) wb we wt heads bits)))
        answers_next =
            let z : 2 * (i + 1) ≡ 2 * i + length (answer_words a) = omega (arith, words_two a) in
            ap₂ (λ (l' : List ℕ) (k : ℕ). over l' k (answers_of (made l bytes' es))) wa z
            ∙ over_over (answer_words a) (answers_of (made l bytes' es)) answers (2 * i)
            ∙ ap (λ (ts : List ByModel). over answers (2 * i) (answers_of ts)) (sym made_next)
            ∙ g.answers_left wb we wt w

        shown_next : over shown' (to + total output_width (signals_in l.signals)) (outputs_of (made l bytes' (entries (asks l) wb we wt (drop (at + 3) heads) (drop end bits)))) ≡ over shown₀ 0 (outputs_of (made l bytes₀ (entries (asks l) wb we wt heads bits)))
        shown_next =
            ap₂ (λ (l' : List ℕ) (k : ℕ). over l' (to + k) (outputs_of (made l bytes' es))) hs (sym (shown_length (signals_in l.signals) bytes' room))
            ∙ over_over (flat (shown_bytes (signals_in l.signals) bytes')) (outputs_of (made l bytes' es)) shown to
            ∙ ap (λ (ss : List Signal). over shown to (flat (shown_bytes ss bytes') ++ outputs_of (made l bytes' es))) (sym (signals_in_lem l))
            ∙ ap (λ (ts : List ByModel). over shown to (outputs_of ts)) (sym made_next)
            ∙ g.shown_left wb we wt w

      pub running_next : length bytes' ≡ length bytes → length answers' ≡ length answers → length shown' ≡ length shown → Running l heads bits bytes₀ bytes' answers₀ answers' shown₀ shown' (at + 3) end (to + total output_width (signals_in l.signals)) (i + 1)
      running_next lb la ls = record {
        at_is = omega (arith, g.at_is);
        to_is = sym next_room;
        pos_inside = end_inside bits pos (get_or heads at 0) end g.pos_inside he;
        bytes_long = lb ∙ g.bytes_long;
        answers_long = la ∙ g.answers_long;
        shown_long = ls ∙ g.shown_long;
        bytes_left = λ wb we wt w. bytes_next wb we wt w;
        answers_left = λ wb we wt w. answers_next wb we wt w;
        shown_left = λ wb we wt w. shown_next wb we wt w;
      }

    -- a tick on a model without a loop, from bytes that are bits
    module _ (f : Filled (widths_in l.signals) bytes) (h : malformed largest l ≡ None) (u : looped (model_of (raw_of l)) ≡ None) {count inputs : ℕ} (hc : count ≡ length (records_in l.signals)) (hi : inputs ≡ total input_width (signals_in l.signals))
        {end : ℕ} (he : end ≡ min (pos + get_or heads at 0) (length bits)) {ticks : List ℕ} (ht : ticks ≡ handed inputs (get_or heads at 0) (take (end - pos) (drop pos bits))) {fired : Option (ℕ × ℕ)} (hf : fired ≡ fired_by (get_or heads (at + 1) 0) (get_or heads (at + 2) 0))
        {a : Option (ℕ × ℕ)} {bytes' answers' shown' : List ℕ} (ha : a ≡ tick_causes count inputs ticks fired) (hr : RunsTick l.signals l.exprs l.stmts ticks fired a bytes bytes')
        (wa : answers' ≡ over answers (2 * i) (answer_words a)) (hs : shown' ≡ over shown to (flat (shown_bytes (signals_in l.signals) bytes'))) where
      long : total (λ (s : Signal). s.width) (signals_in l.signals) ≤ length bytes'
      long = bytes_held l (holds_enough largest l (faultless largest l h) (tick_filled hr f).holds)

      ticks_are : ticks ≡ handed (tick_bits (model_of (raw_of l))) (get_or heads at 0) (take (get_or heads at 0) (drop pos bits))
      ticks_are = ticks_handed hi he ht

      module _ (wb we wt : List ℕ) (w : Enough (model_of (raw_of l)) wb we wt) where
        cause : a ≡ tick_causes count inputs (handed (tick_bits (model_of (raw_of l))) (get_or heads at 0) (take (get_or heads at 0) (drop pos bits))) (fired_by (get_or heads (at + 1) 0) (get_or heads (at + 2) 0))
        cause = ha ∙ ap₂ (tick_causes count inputs) ticks_are hf

        runs : RunsTick l.signals l.exprs l.stmts (handed (tick_bits (model_of (raw_of l))) (get_or heads at 0) (take (get_or heads at 0) (drop pos bits))) (fired_by (get_or heads (at + 1) 0) (get_or heads (at + 2) 0)) a bytes bytes'
        runs = subst (λ (z : Option (ℕ × ℕ)). RunsTick l.signals l.exprs l.stmts (handed (tick_bits (model_of (raw_of l))) (get_or heads at 0) (take (get_or heads at 0) (drop pos bits))) z a bytes bytes') hf (subst (λ (t : List ℕ). RunsTick l.signals l.exprs l.stmts t fired a bytes bytes') ticks_are hr)

        as_called : a ≡ answer largest (entry_call l bytes (entry_at (asks l) wb we wt heads bits at pos))
        as_called = same_answer l h u (entry_at (asks l) wb we wt heads bits at pos) w f.holds hc hi cause

        as_left : bytes' ≡ (run largest (entry_call l bytes (entry_at (asks l) wb we wt heads bits at pos))).bytes
        as_left = same_bytes l h u (entry_at (asks l) wb we wt heads bits at pos) w f.holds hc hi cause runs

      pub running_step : length bytes' ≡ length bytes → length answers' ≡ length answers → length shown' ≡ length shown → Running l heads bits bytes₀ bytes' answers₀ answers' shown₀ shown' (at + 3) end (to + total output_width (signals_in l.signals)) (i + 1)
      running_step = running_next he long wa hs as_called as_left
