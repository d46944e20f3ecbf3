-- One tick of a list: what refuses it, and what it leaves in the signal bytes. Assumes nothing.
use Prim.Native.Nat.{ℕ, suc, ◌≤◌, ◌<◌, min}
use mathlib.Core.Path.{◌≡◌, refl, sym, ◌∙◌, ap, ap₂, subst}
use mathlib.Core.List.{List, [], ◌∷◌, ◌++◌, map}
use Rattle.std.specs.Prelude.{Option, None, Some, Ok, Err, is_ok}
use Rattle.bits.proofs.Options.{some_ne_none}
use native.Mathlib.Omega.{arith}
use mathlib.Core.Bool.{Bool, true, false, false≢true}
use lib.Dec.{leb}
use lib.ListN.{length, take, replicate, length-map, length-replicate}
use borrow.Author.Tests.{le-ltb, le-leb, lt-leb, leb-false}
use Rattle.bits.specs.Bits.{Bits, digit, pick}
use Rattle.recorder.specs.Record.{Model}
use Rattle.recorder.specs.Lists.{Lists}
use Rattle.recorder.specs.Read.{model_of}
use Rattle.recorder.specs.Words.{raw_of}
use Rattle.simulation.specs.Wellformed.{largest, first_fault, malformed, or_else}
use Rattle.simulation.specs.Tick.{looped, tick}
use Rattle.simulation.specs.Run.{Ran, Call, answer_of, firing, input_width, total, signal_bytes, tick_bits, short, no_bit, wrong_count, wrong_fired, on_loop, first_of, refusal, verdict, answer, flat, is_one, ticked, bytes_after, run}
use Rattle.simulation.specs.Shown.{Entry, entry_call}
use Rattle.simulation.specs.Index.{records_in, widths_in}
use Rattle.simulation.proofs.Found.{faultless, signals_count}
use Rattle.simulation.proofs.Kept.{AllNone, all_none, count_none, accepted_good}
use Rattle.simulation.proofs.Calls.{only_false, count_wrong, firsts_append, or_else_none}
use Rattle.evaluation.specs.Bytes.{Holds}
use Rattle.evaluation.specs.Ready.{model_in}
use Rattle.evaluation.specs.Ticks.{Filled, signals_in, GoodTicks}
use Rattle.evaluation.proofs.Calling.{holds_same, holds_state, holds_behind, holds_enough, holds_bits, holds_ticked}
use Rattle.runner.specs.Calls.{handed}
use Rattle.runner.specs.Parts.{tick_causes, after_tick, RunsTick, Enough, is_made}
use Rattle.runner.specs.Whole.{among}

pub short_so : (n : ℕ) (l : List ℕ) → n ≤ length l → short n l ≡ None
short_so n l h = sym (only_false (Some (1, min n 18446744073709551615)) (le-ltb (length l) n h))

-- of a call's causes the signal bytes', the tick's own and a loop are left
causes_among : {a b c d : Option (ℕ × ℕ)} (p x y z q : Option (ℕ × ℕ)) → a ≡ None → b ≡ None → c ≡ None → d ≡ None → first_of (a ∷ b ∷ c ∷ d ∷ p ∷ x ∷ y ∷ z ∷ q ∷ []) ≡ among p (first_of (x ∷ y ∷ z ∷ [])) q
causes_among {a} {b} {c} {d} p x y z q qa qb qc qd =
    let left : first_of (a ∷ b ∷ c ∷ d ∷ p ∷ x ∷ y ∷ z ∷ q ∷ []) ≡ first_of (p ∷ x ∷ y ∷ z ∷ q ∷ []) = rw (qa, qb, qc, qd) in
    left ∙ ap (or_else p) (firsts_append (x ∷ y ∷ z ∷ []) (q ∷ []) ∙ ap (or_else (first_of (x ∷ y ∷ z ∷ []))) (or_else_none q))

-- ONE TICK

pub good_ticks : (signals ticks : List ℕ) (fired : Option (ℕ × ℕ)) (count inputs : ℕ) → inputs ≡ total input_width (signals_in signals) → tick_causes count inputs ticks fired ≡ None → GoodTicks signals ticks
good_ticks signals ticks fired count inputs e q =
    let a : AllNone (wrong_count inputs ticks ∷ no_bit 0 ticks ∷ wrong_fired count fired ∷ []) = all_none (wrong_count inputs ticks ∷ no_bit 0 ticks ∷ wrong_fired count fired ∷ []) q in
    record { right_count = count_none inputs ticks a.0 ∙ e; all_bits = a.1.0 }

module _ {signals exprs stmts ticks : List ℕ} {fired : Option (ℕ × ℕ)} {bytes : List ℕ} where
  pub tick_filled : {a : Option (ℕ × ℕ)} {bytes' : List ℕ} → RunsTick signals exprs stmts ticks fired a bytes bytes' → Filled (widths_in signals) bytes → Filled (widths_in signals) bytes'
  tick_filled {a} t f = record { values = after_tick (model_in signals exprs stmts) ticks fired a f.values; rest = f.rest; holds = t.runs f.values f.rest f.holds }

-- THE BITS THAT A HEAD ASKS FOR

module _ (inputs asked : ℕ) (ticks : List ℕ) where
  pub handed_all : asked ≤ length ticks → handed inputs asked ticks ≡ ticks
  handed_all h = ap (λ (b : Bool). pick b ticks (replicate (suc inputs) 0)) (le-leb asked (length ticks) h)

  pub handed_few : length ticks < asked → handed inputs asked ticks ≡ replicate (suc inputs) 0
  handed_few h = ap (λ (b : Bool). pick b ticks (replicate (suc inputs) 0)) (lt-leb asked (length ticks) h)

  module _ (count : ℕ) (fired : Option (ℕ × ℕ)) where
    -- too few: a wrong count
    pub few_refused : length ticks < asked → Some (14, inputs) ≡ tick_causes count inputs (handed inputs asked ticks) fired
    few_refused h =
        let w : Some (14, inputs) ≡ wrong_count inputs (replicate (suc inputs) 0) = count_wrong inputs (replicate (suc inputs) 0) (λ q. let z = length-replicate {A = ℕ} (suc inputs) 0 in omega (arith, q, z)) in
        ap (λ (o : Option (ℕ × ℕ)). first_of (o ∷ no_bit 0 (replicate (suc inputs) 0) ∷ wrong_fired count fired ∷ [])) w
        ∙ ap (λ (t : List ℕ). tick_causes count inputs t fired) (sym (handed_few h))

    -- what is refused for nothing was there
    pub handed_made : None ≡ tick_causes count inputs (handed inputs asked ticks) fired → handed inputs asked ticks ≡ ticks
    handed_made h = go (leb asked (length ticks)) refl
      where
        go : (b : Bool) → leb asked (length ticks) ≡ b → handed inputs asked ticks ≡ ticks
        go true z = ap (λ (b : Bool). pick b ticks (replicate (suc inputs) 0)) z
        go false z = absurd (some_ne_none (14, inputs) (few_refused (leb-false asked (length ticks) z) ∙ sym h))

    pub handed_causes : None ≡ tick_causes count inputs (handed inputs asked ticks) fired → tick_causes count inputs ticks fired ≡ None
    handed_causes h = ap (λ (t : List ℕ). tick_causes count inputs t fired) (sym (handed_made h)) ∙ sym h

-- A CALL, whatever the bytes and the loops

module _ (l : Lists) (h : malformed largest l ≡ None) (bytes : List ℕ) (b : signal_bytes (model_of (raw_of l)) ≤ length bytes) (e : Entry) (q : Enough (model_of (raw_of l)) e.work_bits e.work_exprs e.work_signals) where
  pub entry_among : answer largest (entry_call l bytes e) ≡ among (no_bit 0 (take (signal_bytes (model_of (raw_of l))) bytes)) (tick_causes (length (model_of (raw_of l)).signals) (tick_bits (model_of (raw_of l))) e.ticks e.fired) (on_loop (looped (model_of (raw_of l))))
  unfolding answer refusal
  entry_among =
      ap (verdict (model_of (raw_of l)) (entry_call l bytes e)) h
      ∙ causes_among (no_bit 0 (take (signal_bytes (model_of (raw_of l))) bytes)) (wrong_count (tick_bits (model_of (raw_of l))) e.ticks) (no_bit 0 e.ticks) (wrong_fired (length (model_of (raw_of l)).signals) e.fired) (on_loop (looped (model_of (raw_of l))))
      (short_so (signal_bytes (model_of (raw_of l))) bytes b)
      (short_so _ e.work_bits q.0)
      (short_so _ e.work_exprs q.1)
      (short_so _ e.work_signals q.2)

  -- a refused call leaves the bytes
  pub entry_kept : is_made (answer largest (entry_call l bytes e)) ≡ false → bytes ≡ (run largest (entry_call l bytes e)).bytes
  unfolding run
  entry_kept = go (answer largest (entry_call l bytes e))
    where
      go : (o : Option (ℕ × ℕ)) → is_made o ≡ false → bytes ≡ bytes_after (entry_call l bytes e) o
      go (Some r) z = refl
      go None z = absurd (false≢true (sym z))

-- THE SAME AS A CALL

module _ (l : Lists) (h : malformed largest l ≡ None) (u : looped (model_of (raw_of l)) ≡ None) where
  abbrev m : Model
  m = model_of (raw_of l)

  fine : first_fault largest (raw_of l) ≡ None
  fine = faultless largest l h

  module _ (e : Entry) (q : Enough (model_of (raw_of l)) e.work_bits e.work_exprs e.work_signals) {bytes behind : List ℕ} {old : List Bits} (ho : Holds (widths_in l.signals) old behind bytes) where
    abbrev c : Call
    c = entry_call l bytes e

    pub entry_answer : answer largest (entry_call l bytes e) ≡ tick_causes (length (model_of (raw_of l)).signals) (tick_bits (model_of (raw_of l))) e.ticks e.fired
    entry_answer =
        entry_among l h bytes (holds_enough largest l fine ho) e q
        ∙ ap₂ (λ (p o : Option (ℕ × ℕ)). among p (tick_causes (length m.signals) (tick_bits m) e.ticks e.fired) o) (holds_bits largest l fine ho) (ap on_loop u)
        ∙ or_else_none (tick_causes (length m.signals) (tick_bits m) e.ticks e.fired)

    pub entry_holds : Holds (widths_in l.signals) (after_tick (model_of (raw_of l)) e.ticks e.fired (answer largest (entry_call l bytes e)) old) behind (run largest (entry_call l bytes e)).bytes
    unfolding run ticked
    entry_holds = go (answer largest c) refl
      where
        go : (o : Option (ℕ × ℕ)) → answer largest (entry_call l bytes e) ≡ o → Holds (widths_in l.signals) (after_tick (model_of (raw_of l)) e.ticks e.fired o old) behind (bytes_after (entry_call l bytes e) o)
        go (Some r) z = ho
        go None z =
            subst (Holds (widths_in l.signals) (tick m (map is_one e.ticks) (firing e.fired) old) behind)
            (sym (ap₂ (λ (t : List Bits) (b : List ℕ). map digit (flat (tick m (map is_one e.ticks) (firing e.fired) t)) ++ b) (holds_state largest l fine ho) (holds_behind largest l fine ho)))
            (holds_ticked largest l fine ho (map is_one e.ticks) (firing e.fired) (omega (arith, (accepted_good largest c z).right_count, length-map e.ticks is_one)))

    module _ {count inputs : ℕ} (hc : count ≡ length (records_in l.signals)) (hi : inputs ≡ total input_width (signals_in l.signals)) {a : Option (ℕ × ℕ)} (ha : a ≡ tick_causes count inputs e.ticks e.fired) where
      -- whoever finds the same causes answers the same
      pub same_answer : a ≡ answer largest (entry_call l bytes e)
      unfolding model_of
      same_answer = ha ∙ ap₂ (λ (n k : ℕ). tick_causes n k e.ticks e.fired) (hc ∙ sym (signals_count largest l fine)) hi ∙ sym entry_answer

      -- and leaves the same
      pub same_bytes : {bytes' : List ℕ} → RunsTick l.signals l.exprs l.stmts e.ticks e.fired a bytes bytes' → bytes' ≡ (run largest (entry_call l bytes e)).bytes
      same_bytes {bytes'} r = holds_same (subst (λ (o : Option (ℕ × ℕ)). Holds (widths_in l.signals) (after_tick m e.ticks e.fired o old) behind bytes') same_answer (r.runs old behind ho)) entry_holds

-- a tick that is not refused is made
pub ok_made : (r : Ran) → is_ok r ≡ is_made (answer_of r)
ok_made (Ok u) = refl
ok_made (Err x) = refl
