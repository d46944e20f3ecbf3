-- One call: what its checks leave, and what it answers. Assumes nothing.
use Prim.Native.Nat.{ℕ, zero, suc, ◌+◌, ◌-◌, ◌≤◌}
use mathlib.Core.Path.{◌≡◌, refl, sym, ◌∙◌, ap, ap₂, subst}
use mathlib.Core.Bool.{false}
use mathlib.Core.List.{List, [], ◌∷◌, ◌++◌, map, map-append}
use Rattle.std.specs.Prelude.{Option, None, Some}
use Rattle.bits.proofs.Options.{some_ne_none}
use native.Mathlib.Omega.{arith}
use lib.ListN.{length, take, drop, replicate, length-replicate, replicate-append-replicate}
use Rattle.bits.specs.Bits.{Bits, digit}
use Rattle.recorder.specs.Lists.{Lists, lists}
use Rattle.recorder.specs.Read.{model_of}
use Rattle.recorder.specs.Words.{raw_of}
use Rattle.simulation.specs.Run.{Ran}
use Rattle.simulation.specs.Wellformed.{largest, first_fault, malformed, or_else}
use Rattle.simulation.specs.Tick.{looped}
use Rattle.simulation.specs.Index.{records_in, widths_in, offset}
use Rattle.simulation.specs.Run.{Call, call_model, total, expr_width, flat, tick_bits, answer_of, is_one, firing, signal_bytes, expr_bits, causes, first_of, on_loop, per_signal, ticked, bytes_after, answer, run, zeroed}
use Rattle.simulation.specs.Fault.{call_of, checked, checked_by}
use Rattle.simulation.proofs.Calls.{answer_checked}
use Rattle.simulation.proofs.Flat.{Wide}
use Rattle.simulation.proofs.Steps.{length_widths}
use Rattle.simulation.proofs.Found.{faultless, signals_count, exprs_count, exprs_wide}
use Rattle.simulation.proofs.Kept.{AllNone, all_none, short_none}
use Rattle.evaluation.specs.Bytes.{Holds}
use Rattle.evaluation.specs.Ready.{Room, model_in}
use Rattle.simulation.proofs.Sound.{signals_read}
use Rattle.evaluation.specs.Ticks.{ReadSignals, Filled, GoodTicks, Ticks}
use Rattle.evaluation.proofs.Calling.{bytes_hold, bytes_count}
use Rattle.runner.specs.Calls.{Answers, Runs}
use Rattle.runner.specs.Parts.{Unrefused, Tries}
use Rattle.runner.proofs.Ticking.{good_ticks}

firsts_none : {a b d : Option (ℕ × ℕ)} → a ≡ None → b ≡ None → d ≡ None → first_of (a ∷ b ∷ d ∷ []) ≡ None
firsts_none p q r = rw (p, q, r)

-- zeros of a buffer's length, whatever it held in between
pub zeroed_same : (n : ℕ) (b : List ℕ) {zeros : List ℕ} → n ≡ length b → zeros ≡ replicate n 0 → zeros ≡ zeroed b
zeroed_same n b e z = z ∙ ap (λ (k : ℕ). replicate k 0) e

-- ZEROS HOLD VALUES

abbrev blanks : List ℕ → List Bits
blanks [] = []
blanks (w ∷ ws) = replicate w false ∷ blanks ws

map_same : (n : ℕ) → map digit (replicate n false) ≡ replicate n 0
map_same zero = refl
map_same (suc n) = ap (λ (l : List ℕ). 0 ∷ l) (map_same n)

blank_wide : (ws : List ℕ) → Wide ws (blanks ws)
blank_wide [] = tt
blank_wide (w ∷ ws) = (length-replicate w false, blank_wide ws)

blank_flat : (ws : List ℕ) → map digit (flat (blanks ws)) ≡ replicate (offset ws (length ws)) 0
blank_flat [] = refl
blank_flat (w ∷ ws) =
    map-append digit (replicate w false) (flat (blanks ws))
    ∙ ap₂ ◌++◌ (map_same w) (blank_flat ws)
    ∙ replicate-append-replicate w (offset ws (length ws)) 0

pub zeros_fill : (ws : List ℕ) (buffer : List ℕ) {zeros : List ℕ} → zeros ≡ zeroed buffer → offset ws (length ws) ≤ length buffer → Filled ws zeros
zeros_fill ws buffer {zeros} e h = record {
  values = blanks ws;
  rest = replicate (length buffer - offset ws (length ws)) 0;
  holds = record {
    wide = blank_wide ws;
    begin =
        e
        ∙ ap (λ (n : ℕ). replicate n 0) (let z : length buffer ≡ offset ws (length ws) + (length buffer - offset ws (length ws)) = omega (arith, h) in z)
        ∙ sym (replicate-append-replicate (offset ws (length ws)) (length buffer - offset ws (length ws)) 0)
        ∙ ap (λ (l : List ℕ). l ++ replicate (length buffer - offset ws (length ws)) 0) (sym (blank_flat ws));
  };
}

-- A CALL THAT NOTHING REFUSES BUT MAYBE A LOOP

pub total_offset : {A : Type 0} (f : A → ℕ) (l : List A) → total f l ≡ offset (map f l) (length (map f l))
total_offset f [] = refl
total_offset f (a ∷ l) = ap (λ (n : ℕ). f a + n) (total_offset f l)

module _ {signals exprs stmts bytes ticks : List ℕ} {fired : Option (ℕ × ℕ)} {wb we ws : List ℕ} (u : Unrefused (lists signals exprs stmts) bytes ticks fired wb we ws) where
  abbrev l : Lists
  l = lists signals exprs stmts

  pub fine : first_fault largest (raw_of (lists signals exprs stmts)) ≡ None
  fine = faultless largest (lists signals exprs stmts) u.well_formed

  pub signals_read_in : ReadSignals signals
  signals_read_in = record { readable = signals_read largest (raw_of (lists signals exprs stmts)) fine }

  pub exprs_fit : {n : ℕ} → n ≡ length (records_in exprs) → n ≤ length we
  exprs_fit e = let c = exprs_count largest l fine in let h = u.enough.1 in omega (arith, c, e, h)

  pub signals_fit : {n : ℕ} → n ≡ length (records_in signals) → n ≤ length ws
  signals_fit e = let c = signals_count largest l fine in let h = u.enough.2 in omega (arith, c, e, h)

  bits_count : expr_bits (model_of (raw_of (lists signals exprs stmts))) ≡ offset (widths_in exprs) (length (widths_in exprs))
  bits_count = total_offset expr_width (model_of (raw_of l)).exprs ∙ ap (λ (x : List ℕ). offset x (length x)) (sym (exprs_wide largest l fine))

  pub values_fill : {zeros : List ℕ} → zeros ≡ zeroed wb → Filled (widths_in exprs) zeros
  values_fill e = zeros_fill (widths_in exprs) wb e (let c = bits_count in let h = u.enough.0 in omega (arith, c, h))

  pub room : {values : List ℕ} → length values ≡ length wb → Room signals exprs bytes values
  room e = record {
    bytes_room = let c = bytes_count largest l fine in let h = u.bytes_enough in omega (arith, c, h);
    values_room = let c = bits_count in let h = u.enough.0 in let k = ap (offset (widths_in exprs)) (length_widths exprs) in omega (arith, c, h, e, k);
  }

  pub holds : Holds (widths_in signals) (per_signal (model_of (raw_of (lists signals exprs stmts))).signals (map is_one bytes)) (drop (signal_bytes (model_of (raw_of (lists signals exprs stmts)))) bytes) bytes
  holds = bytes_hold largest l fine u.bytes_enough u.bits

  pub bytes_fill : Filled (widths_in signals) bytes
  bytes_fill = record { values = _; rest = _; holds = holds }

  pub ticks_good : GoodTicks signals ticks
  unfolding model_of
  ticks_good = good_ticks signals ticks fired (length (model_of (raw_of l)).signals) (tick_bits (model_of (raw_of l))) refl u.no_cause

  -- with a loop
  pub tried_looped : (x : ℕ) {found : Option ℕ} → found ≡ Some x → found ≡ looped (model_in signals exprs stmts) → (r : Ran) → answer_of r ≡ Some (13, x) → Tries (lists signals exprs stmts) bytes ticks fired r bytes
  tried_looped x {found} e f r a = record { answered = a ∙ ap on_loop so; left = sym (ap (bytes_after (call_of (lists signals exprs stmts) bytes ticks fired [] [] [])) (sym (ap on_loop so))) }
    where
      so : Some x ≡ looped (model_in signals exprs stmts)
      so = sym e ∙ f

  -- without
  pub tried_made : looped (model_in signals exprs stmts) ≡ None → {bytes' : List ℕ} → Ticks signals exprs stmts ticks (firing fired) bytes bytes' → (r : Ran) → answer_of r ≡ None → Tries (lists signals exprs stmts) bytes ticks fired r bytes'
  unfolding ticked
  tried_made q {bytes'} t r a = record {
    answered = a ∙ ap on_loop (sym q);
    left = (t.ticks_to _ _ holds).begin ∙ ap (bytes_after (call_of (lists signals exprs stmts) bytes ticks fired [] [] [])) (ap on_loop (sym q));
  }

-- on the same lists
pub same_lists : {l l' : Lists} {bytes ticks : List ℕ} {fired : Option (ℕ × ℕ)} {wb we ws : List ℕ} → l ≡ l' → Unrefused l' bytes ticks fired wb we ws → Unrefused l bytes ticks fired wb we ws
same_lists {bytes = bytes} {ticks} {fired} {wb} {we} {ws} e u = subst (λ (x : Lists). Unrefused x bytes ticks fired wb we ws) (sym e) u

pub tried_same : {l l' : Lists} {bytes ticks : List ℕ} {fired : Option (ℕ × ℕ)} {r : Ran} {bytes' : List ℕ} → l ≡ l' → Tries l bytes ticks fired r bytes' → Tries l' bytes ticks fired r bytes'
tried_same {bytes = bytes} {ticks} {fired} {r} {bytes'} e t = subst (λ (x : Lists). Tries x bytes ticks fired r bytes') e t

-- ALL OF A CALL

module _ (c : Call) where
  pub checked_none : checked_by largest c ≡ None → Unrefused c.lists c.bytes c.ticks c.fired c.work_bits c.work_exprs c.work_signals
  unfolding checked_by
  checked_none = go (malformed largest c.lists) refl
    where
      go : (o : Option ℕ) → malformed largest c.lists ≡ o → checked (call_model c) c o ≡ None → Unrefused c.lists c.bytes c.ticks c.fired c.work_bits c.work_exprs c.work_signals
      go (Some n) e h = absurd (some_ne_none (12, n) h)
      go None e h =
          let a : AllNone (take 8 (causes (call_model c) c)) = all_none (take 8 (causes (call_model c) c)) h in
          record {
            well_formed = e;
            bytes_enough = short_none (signal_bytes (call_model c)) c.bytes a.0;
            enough = (short_none (expr_bits (call_model c)) c.work_bits a.1.0, short_none (length (call_model c).exprs) c.work_exprs a.1.1.0, short_none (length (call_model c).signals) c.work_signals a.1.1.1.0);
            bits = a.1.1.1.1.0;
            no_cause = firsts_none a.1.1.1.1.1.0 a.1.1.1.1.1.1.0 a.1.1.1.1.1.1.1.0;
          }

  -- refused before a loop is looked for
  pub answers_refused : (x : ℕ × ℕ) (r : Ran) → answer_of r ≡ Some x → answer_of r ≡ checked_by largest c → Answers c r c.bytes
  answers_refused x r e q =
      let a : Some x ≡ answer largest c = ap (λ (o : Option (ℕ × ℕ)). or_else o (on_loop (looped (call_model c)))) (sym e ∙ q) ∙ sym (answer_checked largest c) in
      record { answered = e ∙ a; left = ap (bytes_after c) a }

  -- or not
  pub answers_tried : {r : Ran} {bytes' : List ℕ} → None ≡ checked_by largest c → Tries c.lists c.bytes c.ticks c.fired r bytes' → Answers c r bytes'
  unfolding ticked
  answers_tried {r} {bytes'} q t =
      let a : on_loop (looped (call_model c)) ≡ answer largest c = ap (λ (o : Option (ℕ × ℕ)). or_else o (on_loop (looped (call_model c)))) q ∙ sym (answer_checked largest c) in
      record { answered = t.answered ∙ a; left = t.left ∙ same_after (on_loop (looped (call_model c))) ∙ ap (bytes_after c) a }
    where
      same_after : (o : Option (ℕ × ℕ)) → bytes_after (call_of c.lists c.bytes c.ticks c.fired [] [] []) o ≡ bytes_after c o
      same_after None = refl
      same_after (Some x) = refl

  -- works of the same length
  pub same_works : {wb we ws : List ℕ} → wb ≡ c.work_bits → we ≡ c.work_exprs → ws ≡ zeroed c.work_signals → Unrefused c.lists c.bytes c.ticks c.fired c.work_bits c.work_exprs c.work_signals → Unrefused c.lists c.bytes c.ticks c.fired wb we ws
  same_works p q e u = record {
    well_formed = u.well_formed;
    bytes_enough = u.bytes_enough;
    enough = ((let h = u.enough.0 in omega (arith, h, ap length p)), (let h = u.enough.1 in omega (arith, h, ap length q)), (let h = u.enough.2 in omega (arith, h, ap length e ∙ length-replicate {A = ℕ} (length c.work_signals) 0)));
    bits = u.bits;
    no_cause = u.no_cause;
  }

  pub runs : {r : Ran} {bytes' wb' we' ws' : List ℕ} → Answers c r bytes' → wb' ≡ zeroed c.work_bits → we' ≡ zeroed c.work_exprs → ws' ≡ zeroed c.work_signals → Runs c r bytes' wb' we' ws'
  unfolding run
  runs a b e s = record { value = rw (a.answered, a.left, b, e, s) }
