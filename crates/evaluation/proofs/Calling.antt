-- The signal bytes of a call as the state of its model, and back. Assumes nothing.
use Prim.Native.Nat.{ℕ, suc, ◌+◌, ◌≤◌}
use mathlib.Core.Path.{◌≡◌, refl, sym, ◌∙◌, ap, subst}
use mathlib.Core.Bool.{true, false}
use mathlib.Core.List.{List, [], ◌∷◌, ◌++◌, map}
use Rattle.std.specs.Prelude.{None}
use native.Mathlib.Omega.{arith}
use lib.ListN.{length, take, drop, length-append, length-map, take-append-drop}
use lib.Seq.{take_at, drop_at, take-add}
use Rattle.bits.specs.Bits.{Bits, digit}
use Rattle.recorder.specs.Record.{Signal, Model}
use Rattle.recorder.specs.Lists.{Lists}
use Rattle.recorder.specs.Read.{model_of}
use Rattle.recorder.specs.Words.{raw_of}
use Rattle.simulation.specs.Wellformed.{first_fault}
use Rattle.simulation.specs.Tick.{Firing, tick}
use Rattle.simulation.specs.Run.{total, signal_bytes, tick_bits, no_bit, per_signal, flat, is_one}
use Rattle.simulation.specs.Index.{widths_in, records_in, offset}
use Rattle.simulation.specs.Kept.{Fits}
use Rattle.simulation.proofs.Flat.{Wide}
use Rattle.simulation.proofs.Sound.{sound}
use Rattle.simulation.proofs.Found.{signals_wide}
use Rattle.simulation.proofs.Kept.{fits_cut, fits_tick, flat_length, back_bits, cut_flat}
use Rattle.simulation.proofs.Steps.{length_widths}
use Rattle.evaluation.specs.Bytes.{Holds}
use Rattle.evaluation.proofs.InBytes.{bytes_back}
use Rattle.evaluation.proofs.Held.{map_take}

-- bytes that hold the same, with the same behind it, are the same
pub holds_same : {ws : List ℕ} {vs : List Bits} {rest bytes bytes' : List ℕ} → Holds ws vs rest bytes → Holds ws vs rest bytes' → bytes ≡ bytes'
holds_same h k = h.begin ∙ sym k.begin

abbrev widths_of : List Signal → List ℕ
widths_of ss = map (λ (s : Signal). s.width) ss

fits_wide : (ss : List Signal) (t : List Bits) → Fits ss t → Wide (widths_of ss) t
fits_wide [] [] h = tt
fits_wide [] (v ∷ t) h = absurd h
fits_wide (s ∷ ss) [] h = absurd h
fits_wide (s ∷ ss) (v ∷ t) h = (h.0, fits_wide ss t h.1)

wide_fits : (ss : List Signal) (t : List Bits) → Wide (widths_of ss) t → Fits ss t
wide_fits [] [] h = tt
wide_fits [] (v ∷ t) h = absurd h
wide_fits (s ∷ ss) [] h = absurd h
wide_fits (s ∷ ss) (v ∷ t) h = (h.0, wide_fits ss t h.1)

-- the parts one after the other are what was cut
flat_cut : (ss : List Signal) (bs : Bits) → flat (per_signal ss bs) ≡ take (total (λ (s : Signal). s.width) ss) bs
flat_cut [] bs = refl
flat_cut (s ∷ ss) bs = ap (λ (l : Bits). take s.width bs ++ l) (flat_cut ss (drop s.width bs)) ∙ sym (take-add s.width (total (λ (x : Signal). x.width) ss) bs)

widths_total : (ss : List Signal) → total (λ (s : Signal). s.width) ss ≡ offset (widths_of ss) (length (widths_of ss))
widths_total [] = refl
widths_total (s ∷ ss) = ap (λ (n : ℕ). s.width + n) (widths_total ss)

digits_fine : (k : ℕ) (bs : Bits) → no_bit k (map digit bs) ≡ None
digits_fine k [] = refl
digits_fine k (true ∷ bs) = digits_fine (suc k) bs
digits_fine k (false ∷ bs) = digits_fine (suc k) bs

module _ (widest : ℕ) (l : Lists) (h : first_fault widest (raw_of l) ≡ None) where
  abbrev m : Model
  m = model_of (raw_of l)

  module _ {old : List Bits} {behind bytes : List ℕ} (ho : Holds (widths_in l.signals) old behind bytes) where
    holds_fits : Fits m.signals old
    holds_fits = wide_fits m.signals old (subst (λ (ws : List ℕ). Wide ws old) (signals_wide widest l h) ho.wide)

    long : length (map digit (flat old)) ≡ signal_bytes m
    long = length-map (flat old) digit ∙ flat_length m.signals old holds_fits

    -- the state
    pub holds_state : per_signal (model_of (raw_of l)).signals (map is_one bytes) ≡ old
    holds_state = ap (λ (b : List ℕ). per_signal m.signals (map is_one b)) ho.begin ∙ ap (per_signal m.signals) (back_bits (flat old) behind) ∙ cut_flat m.signals old (map is_one behind) holds_fits

    -- what stands behind it
    pub holds_behind : drop (signal_bytes (model_of (raw_of l))) bytes ≡ behind
    holds_behind = ap (drop (signal_bytes m)) ho.begin ∙ drop_at (map digit (flat old)) behind (signal_bytes m) long

    pub holds_enough : signal_bytes (model_of (raw_of l)) ≤ length bytes
    holds_enough = omega (arith, ap length ho.begin, length-append (map digit (flat old)) behind, long)

    pub holds_bits : no_bit 0 (take (signal_bytes (model_of (raw_of l))) bytes) ≡ None
    holds_bits = ap (no_bit 0) (ap (take (signal_bytes m)) ho.begin ∙ take_at (map digit (flat old)) behind (signal_bytes m) long) ∙ digits_fine 0 (flat old)

    -- the state after a tick
    pub holds_ticked : (bs : Bits) (f : Firing) → tick_bits (model_of (raw_of l)) ≤ length bs → Holds (widths_in l.signals) (tick (model_of (raw_of l)) bs f old) behind (map digit (flat (tick (model_of (raw_of l)) bs f old)) ++ behind)
    holds_ticked bs f q = record {
      wide = subst (λ (ws : List ℕ). Wide ws (tick m bs f old)) (sym (signals_wide widest l h)) (fits_wide m.signals (tick m bs f old) (fits_tick widest m (sound widest (raw_of l) h) bs f old q holds_fits));
      begin = refl;
    }

  -- bytes that are bits hold some state
  pub bytes_hold : {bytes : List ℕ} → signal_bytes (model_of (raw_of l)) ≤ length bytes → no_bit 0 (take (signal_bytes (model_of (raw_of l))) bytes) ≡ None → Holds (widths_in l.signals) (per_signal (model_of (raw_of l)).signals (map is_one bytes)) (drop (signal_bytes (model_of (raw_of l))) bytes) bytes
  bytes_hold {bytes} q n = record {
    wide = subst (λ (ws : List ℕ). Wide ws (per_signal m.signals (map is_one bytes))) (sym (signals_wide widest l h)) (fits_wide m.signals (per_signal m.signals (map is_one bytes)) (fits_cut m.signals (map is_one bytes) (omega (arith, q, length-map bytes is_one))));
    begin =
        sym (take-append-drop (signal_bytes m) bytes)
        ∙ ap (λ (b : List ℕ). b ++ drop (signal_bytes m) bytes)
        (sym (bytes_back 0 (take (signal_bytes m) bytes) n)
        ∙ ap (map digit) (sym (map_take is_one (signal_bytes m) bytes) ∙ sym (flat_cut m.signals (map is_one bytes))));
  }

  -- as many bytes as all widths together
  pub bytes_count : signal_bytes (model_of (raw_of l)) ≡ offset (widths_in l.signals) (length (records_in l.signals))
  bytes_count = widths_total m.signals ∙ ap (λ (ws : List ℕ). offset ws (length ws)) (sym (signals_wide widest l h)) ∙ ap (offset (widths_in l.signals)) (length_widths l.signals)
