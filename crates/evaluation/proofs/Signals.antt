-- The next signal of a list that is walked through: its record, its width, where its bytes stand. Assumes nothing.
use Prim.Native.Nat.{ℕ, ◌+◌, ◌≤◌, ◌<◌}
use mathlib.Core.Path.{◌≡◌, sym, ◌∙◌, ap}
use mathlib.Core.List.{List, [], ◌∷◌, map}
use native.Mathlib.Omega.{arith}
use native.Mathlib.Numerals.{add-one}
use lib.ListN.{length, get_or, drop}
use lib.Seq.{drop-cons}
use Rattle.recorder.specs.Record.{Signal, sized, signal_words}
use Rattle.recorder.specs.Read.{read_signal}
use Rattle.recorder.proofs.Roundtrip.{signal_said}
use Rattle.simulation.specs.Run.{total}
use Rattle.simulation.specs.Index.{size_at, records_in, widths_in, offset, start_of}
use Rattle.simulation.proofs.Offsets.{offset_next, offset_le}
use Rattle.simulation.proofs.Found.{read_count, read_at}
use Rattle.simulation.proofs.Steps.{Walked, walked_there, width_of}
use Rattle.evaluation.specs.Ticks.{signals_in, ReadSignals}
use Rattle.evaluation.specs.Late.{no_signal, signal_at, PortsBefore}
use Rattle.evaluation.proofs.Evaluating.{offset_before}
use Rattle.evaluation.proofs.Whole.{record_word}

module _ {signals : List ℕ} (h : ReadSignals signals) where
  pub signals_long : length (signals_in signals) ≡ length (records_in signals)
  signals_long = read_count read_signal (records_in signals) h.readable

  -- behind a word behind which no port begins
  pub no_port : {at count word : ℕ} → PortsBefore signals word → Walked signals at count → word ≤ at → (k : ℕ) → count ≤ k → k < length (records_in signals) → ((signal_at signals k).label ≡ 0 → ⊥) × ((signal_at signals k).label ≡ 1 → ⊥)
  unfolding start_of
  no_port {at} {count} p g w k a b = p.none_behind k b (omega (arith, w, g.begins, offset_le (map (λ (r : List ℕ). length r + 1) (records_in signals)) count k a))

  module _ {at k : ℕ} (g : Walked signals at k) {size : ℕ} (e : size ≡ size_at signals at) (d : size ≡ 0 → ⊥) where
    pub signal_there : k < length (records_in signals)
    signal_there = walked_there g size e d

    said : signal_words (signal_at signals k) ≡ sized (get_or (records_in signals) k [])
    said = signal_said (get_or (records_in signals) k []) (read_at read_signal (records_in signals) h.readable k signal_there no_signal)

    four : length (sized (get_or (records_in signals) k [])) ≡ 4
    four = ap length (sym said)

    word : (j : ℕ) → j < 4 → get_or signals (at + j) 0 ≡ get_or (signal_words (signal_at signals k)) j 0
    word j q = ap (λ (n : ℕ). get_or signals (n + j) 0) g.begins ∙ record_word signals k signal_there j (omega (arith, four)) ∙ ap (λ (ws : List ℕ). get_or ws j 0) (sym said)

    pub label_is : get_or signals (at + 1) 0 ≡ (signal_at signals k).label
    label_is = word 1 (omega arith)

    -- it and those behind it
    pub signals_left : drop k (signals_in signals) ≡ signal_at signals k ∷ drop (k + 1) (signals_in signals)
    signals_left = drop-cons (signals_in signals) k no_signal (omega (arith, signals_long, signal_there)) ∙ ap (λ (n : ℕ). signal_at signals k ∷ drop n (signals_in signals)) (sym (add-one k))

    pub total_left : (f : Signal → ℕ) → total f (drop k (signals_in signals)) ≡ f (signal_at signals k) + total f (drop (k + 1) (signals_in signals))
    total_left f = ap (total f) signals_left

    module _ {w : ℕ} (hw : w ≡ get_or signals (at + 2) 0) where
      pub width_is : w ≡ (signal_at signals k).width
      width_is = hw ∙ word 2 (omega arith)

      pub own_width : get_or (widths_in signals) k 0 ≡ w
      own_width = width_of signals k ∙ ap (λ (ws : List ℕ). get_or ws 2 0) (sym said) ∙ sym width_is

      pub next_byte : offset (widths_in signals) k + w ≡ offset (widths_in signals) (k + 1)
      next_byte = omega (arith, own_width, offset_next (widths_in signals) k)

      pub signal_end : offset (widths_in signals) k + w ≤ offset (widths_in signals) (length (records_in signals))
      signal_end = omega (arith, own_width, offset_before (widths_in signals) k (length (records_in signals)) signal_there)
