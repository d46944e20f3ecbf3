-- A list of ticks of which none is made. Assumes nothing.
use Prim.Native.Nat.{ℕ, ◌+◌, ◌-◌, ◌*◌, ◌/◌, ◌≤◌, ◌<◌, min}
use mathlib.Core.Path.{◌≡◌, refl, sym, ◌∙◌, ap, ap₂}
use mathlib.Core.List.{List, []}
use Rattle.std.specs.Prelude.{Option, None}
use native.Mathlib.Omega.{arith}
use lib.ListN.{length, get_or, take, drop}
use Rattle.recorder.specs.Lists.{Lists, over}
use Rattle.recorder.specs.Read.{model_of}
use Rattle.recorder.specs.Words.{raw_of}
use Rattle.simulation.specs.Wellformed.{largest, malformed}
use Rattle.simulation.specs.Tick.{looped}
use Rattle.simulation.specs.Index.{records_in, widths_in, offset}
use Rattle.simulation.specs.Fault.{call_of, second_field}
use Rattle.simulation.specs.Run.{total, input_width, tick_bits, signal_bytes, no_bit, on_loop, flat, answer, run}
use Rattle.simulation.specs.Shown.{entry_call, shown_bytes}
use Rattle.simulation.proofs.Steps.{length_widths}
use Rattle.simulation.proofs.Found.{faultless, signals_count}
use Rattle.simulation.proofs.Calls.{bytes_same}
use Rattle.evaluation.specs.Ticks.{signals_in}
use Rattle.runner.specs.Calls.{fired_by, handed, output_width, answer_words}
use Rattle.runner.specs.Parts.{tick_causes, is_made, Enough}
use Rattle.runner.specs.Whole.{among, Stopped}
use Rattle.runner.proofs.Ticking.{entry_among, entry_kept}
use Rattle.runner.proofs.Call.{total_offset}
use Rattle.runner.proofs.Running.{Running, running_next, entry_at, inputs_asked, bytes_held, ticks_handed}

-- ALL TICKS

module _ (l : Lists) (h : malformed largest l ≡ None) (bytes : List ℕ) (b : signal_bytes (model_of (raw_of l)) ≤ length bytes) where
  pub sum_inside : offset (widths_in l.signals) (length (records_in l.signals)) ≤ length bytes
  sum_inside =
      let z = bytes_same largest (call_of l [] [] None [] [] []) h in
      let e = total_offset second_field (records_in l.signals) in
      let k = ap (offset (widths_in l.signals)) (length_widths l.signals) in omega (arith, b, z, e, k)

  module _ {ahead behind : Option (ℕ × ℕ)} (st : Stopped l bytes ahead behind)
      {heads bits answers₀ answers shown₀ shown : List ℕ} {at pos to i : ℕ} (g : Running l heads bits bytes bytes answers₀ answers shown₀ shown at pos to i) (q : i < length heads / 3)
      {count inputs : ℕ} (hc : count ≡ length (records_in l.signals)) (hi : inputs ≡ total input_width (signals_in l.signals))
      {end : ℕ} (he : end ≡ min (pos + get_or heads at 0) (length bits)) {ticks : List ℕ} (ht : ticks ≡ handed inputs (get_or heads at 0) (take (end - pos) (drop pos bits))) {fired : Option (ℕ × ℕ)} (hf : fired ≡ fired_by (get_or heads (at + 1) 0) (get_or heads (at + 2) 0))
      {a : Option (ℕ × ℕ)} (ha : a ≡ among ahead (tick_causes count inputs ticks fired) behind) where
    own_so : tick_causes count inputs ticks fired ≡ tick_causes (length (model_of (raw_of l)).signals) (tick_bits (model_of (raw_of l))) (handed (tick_bits (model_of (raw_of l))) (get_or heads at 0) (take (get_or heads at 0) (drop pos bits))) (fired_by (get_or heads (at + 1) 0) (get_or heads (at + 2) 0))
    own_so = ap₂ (λ (n k : ℕ). tick_causes n k ticks fired) (hc ∙ sym (signals_count largest l (faultless largest l h))) (inputs_asked l hi) ∙ ap₂ (tick_causes (length (model_of (raw_of l)).signals) (tick_bits (model_of (raw_of l)))) (ticks_handed g hi he ht) hf

    module _ (wb we wt : List ℕ) (w : Enough (model_of (raw_of l)) wb we wt) where
      as_called : a ≡ answer largest (entry_call l bytes (entry_at (tick_bits (model_of (raw_of l))) wb we wt heads bits at pos))
      as_called =
          ha
          ∙ st.stops (tick_causes count inputs ticks fired)
          ∙ ap (λ (o : Option (ℕ × ℕ)). among (no_bit 0 (take (signal_bytes (model_of (raw_of l))) bytes)) o (on_loop (looped (model_of (raw_of l))))) own_so
          ∙ sym (entry_among l h bytes b (entry_at (tick_bits (model_of (raw_of l))) wb we wt heads bits at pos) w)

      as_left : bytes ≡ (run largest (entry_call l bytes (entry_at (tick_bits (model_of (raw_of l))) wb we wt heads bits at pos))).bytes
      as_left = entry_kept l h bytes b (entry_at (tick_bits (model_of (raw_of l))) wb we wt heads bits at pos) w (ap is_made (sym as_called ∙ ha) ∙ st.refuses (tick_causes count inputs ticks fired))

    pub refused_next : {answers' shown' : List ℕ} → answers' ≡ over answers (2 * i) (answer_words a) → shown' ≡ over shown to (flat (shown_bytes (signals_in l.signals) bytes)) → length answers' ≡ length answers → length shown' ≡ length shown → Running l heads bits bytes bytes answers₀ answers' shown₀ shown' (at + 3) end (to + total output_width (signals_in l.signals)) (i + 1)
    refused_next wa hs la ls = running_next g q he (bytes_held l b) wa hs as_called as_left refl la ls
