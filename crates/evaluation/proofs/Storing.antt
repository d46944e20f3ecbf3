-- What is stored in the signals' bytes: the value of an expression, those of all that are assigned, the inputs. Assumes nothing.
use Prim.Native.Nat.{ℕ, zero, suc, ◌+◌, ◌-◌, ◌≤◌, ◌<◌}
use mathlib.Core.Path.{◌≡◌, refl, sym, ◌∙◌, ap, ap₂, subst}
use mathlib.Core.Bool.{Bool}
use mathlib.Core.List.{List, [], ◌∷◌, map}
use Rattle.std.specs.Prelude.{Option, None, Some}
use native.Mathlib.Omega.{arith}
use native.Mathlib.Numerals.{add-one}
use native.Mathlib.Nat.{not-suc-le-zero, zero-add}
use native.Mathlib.Decide.{ℕ_discrete}
use lib.ListN.{length, get_or, take, drop, set, length-set, length-map, length-drop}
use lib.Seq.{get_or-set_same, get_or-set_other, set-get_or, ext_get_or, drop-drop, length-take-le}
use borrow.Author.Tests.{eq-eqb, ne_eqb}
use Rattle.bits.specs.Bits.{pick, Bits, digit}
use Rattle.settle.specs.Table.{tab_from, length_tab, get_d_tab}
use Rattle.recorder.specs.Record.{Signal}
use Rattle.recorder.specs.Lists.{over}
use Rattle.recorder.specs.Read.{model_of}
use Rattle.simulation.specs.Tick.{given, assigns, become, set_inputs}
use Rattle.simulation.specs.Run.{input_width, total, is_one}
use Rattle.simulation.specs.Index.{size_at, records_in, widths_in, offset, Indexed, stmts_in}
use Rattle.simulation.proofs.Offsets.{offset_next}
use Rattle.simulation.proofs.Steps.{Walked, walked_start, walked_next, length_widths}
use Rattle.evaluation.specs.Consistent.{assigned}
use Rattle.evaluation.specs.Bytes.{part, Holds}
use Rattle.evaluation.specs.Ready.{model_in, Prepared, Room}
use Rattle.evaluation.specs.Ticks.{signals_in, ReadSignals, GoodTicks, Inputs, StoresOne, Stores}
use Rattle.evaluation.proofs.InBytes.{bytes_back}
use Rattle.evaluation.proofs.Held.{map_take, map_drop, holds_length, holds_width, holds_part, holds_set}
use Rattle.evaluation.proofs.Evaluating.{offset_before}
use Rattle.evaluation.proofs.Whole.{signals_wide, driver_there, driver_wide}
use Rattle.evaluation.specs.Late.{no_signal, signal_at}
use Rattle.evaluation.proofs.Signals.{signals_long, signal_there, label_is, total_left, width_is, own_width, next_byte, signal_end}

-- ONE VALUE

module _ {signals exprs bytes values : List ℕ} {t d : ℕ} (r : Room signals exprs bytes values) (pt : t < length (records_in signals)) (pd : d < length (records_in exprs)) (w : get_or (widths_in exprs) d 0 ≡ get_or (widths_in signals) t 0) where
  module _ {to from end : ℕ} (ht : to ≡ offset (widths_in signals) t) (hf : from ≡ offset (widths_in exprs) d) (he : end ≡ offset (widths_in exprs) (d + 1)) where
    as_wide : end ≡ from + get_or (widths_in exprs) d 0
    as_wide = he ∙ offset_next (widths_in exprs) d ∙ ap (λ (n : ℕ). n + get_or (widths_in exprs) d 0) (sym hf)

    pub one_less : from ≤ end
    one_less = omega (arith, as_wide)

    pub one_room : (to + (end - from) ≤ length bytes) × (from + (end - from) ≤ length values)
    one_room = (
      omega (arith, as_wide, w, offset_before (widths_in signals) t (length (records_in signals)) pt, r.bytes_room),
      omega (arith, as_wide, offset_before (widths_in exprs) d (length (records_in exprs)) pd, r.values_room),
    )

    pub one_stored : {bytes' : List ℕ} → bytes' ≡ over bytes to (part values from (end - from)) → StoresOne signals exprs values t d bytes bytes'
    one_stored {bytes'} z = record { stores_one = λ old vs behind rest ho hv. laid old vs behind rest ho hv }
      where
        long : end - from ≡ get_or (widths_in exprs) d 0
        long = omega (arith, as_wide)

        laid : (old vs : List Bits) (behind rest : List ℕ) → Holds (widths_in signals) old behind bytes → Holds (widths_in exprs) vs rest values → Holds (widths_in signals) (set old t (get_or vs d [])) behind bytes'
        laid old vs behind rest ho hv =
            let q : d < length (widths_in exprs) = omega (arith, pd, length_widths exprs) in
            subst (λ (l : List ℕ). Holds (widths_in signals) (set old t (get_or vs d [])) behind l) (sym (z ∙ ap₂ (λ (i : ℕ) (l : List ℕ). over bytes i l) ht (ap₂ (λ (i n : ℕ). part values i n) hf long ∙ holds_part hv d q)))
            (holds_set ho t (get_or vs d []) (omega (arith, pt, length_widths signals)) (holds_width hv d q ∙ w))

-- ALL THAT ARE ASSIGNED

-- the first n of a list set anew, one after the other
module _ {A : Type 0} (g : ℕ → A) (l : List A) where
  abbrev pub anew : ℕ → List A
  anew zero = l
  anew (suc n) = set (anew n) n (g n)

  length_anew : (n : ℕ) → length (anew n) ≡ length l
  length_anew zero = refl
  length_anew (suc n) = length-set (anew n) n (g n) ∙ length_anew n

  anew_behind : (d : A) (n i : ℕ) → n ≤ i → get_or (anew n) i d ≡ get_or l i d
  anew_behind d zero i q = refl
  anew_behind d (suc n) i q = get_or-set_other (anew n) n i (g n) d (λ z. absurd (omega arith)) ∙ anew_behind d n i (omega arith)

  anew_before : (d : A) (n i : ℕ) → i < n → i < length l → get_or (anew n) i d ≡ g i
  anew_before d zero i q k = absurd (not-suc-le-zero q)
  anew_before d (suc n) i q k = go (ℕ_discrete i n) (λ h. anew_before d n i h k)
    where
      go : Dec (i ≡ n) → (i < n → get_or (anew n) i d ≡ g i) → get_or (set (anew n) n (g n)) i d ≡ g i
      go (yes z) ih = ap (λ (j : ℕ). get_or (set (anew n) n (g n)) j d) z ∙ get_or-set_same (anew n) n (g n) d (omega (arith, length_anew n)) ∙ ap g (sym z)
      go (no z) ih = get_or-set_other (anew n) n i (g n) d z ∙ ih (omega (arith, z))

  -- all of them
  anew_all : (d : A) (n k : ℕ) → length l ≡ n → n ≤ k → anew k ≡ tab_from g 0 n
  anew_all d n k e q = ext_get_or d (anew k) (tab_from g 0 n) (length_anew k ∙ e ∙ sym (length_tab g 0 n)) (λ i z. anew_before d k i (omega (arith, length_anew k)) (omega (arith, length_anew k)) ∙ sym (get_d_tab g d 0 n i (omega (arith, length_anew k)) ∙ ap g (zero-add i)))

-- signal s is next
pub record Storing (signals exprs stmts values bytes₀ bytes : List ℕ) (s : ℕ) : Type 0 where
  pub as_long : length bytes ≡ length bytes₀
  pub so_far : (old vs : List Bits) (behind rest : List ℕ) → Holds (widths_in signals) old behind bytes₀ → Holds (widths_in exprs) vs rest values → Holds (widths_in signals) (anew (assigned (model_in signals exprs stmts) old vs) old s) behind bytes

module _ {signals exprs stmts values : List ℕ} where
  pub storing_start : (bytes₀ : List ℕ) → Storing signals exprs stmts values bytes₀ bytes₀ 0
  storing_start bytes₀ = record { as_long = refl; so_far = λ old vs behind rest ho hv. ho }

  module _ {bytes₀ bytes : List ℕ} {s : ℕ} (g : Storing signals exprs stmts values bytes₀ bytes s) where
    next : {bytes' : List ℕ} → length bytes' ≡ length bytes → ((old vs : List Bits) (behind rest : List ℕ) → Holds (widths_in signals) (anew (assigned (model_in signals exprs stmts) old vs) old s) behind bytes → Holds (widths_in exprs) vs rest values → Holds (widths_in signals) (anew (assigned (model_in signals exprs stmts) old vs) old (suc s)) behind bytes') → Storing signals exprs stmts values bytes₀ bytes' (s + 1)
    next {bytes'} e f = subst (λ (n : ℕ). Storing signals exprs stmts values bytes₀ bytes' n) (sym (add-one s)) (record { as_long = e ∙ g.as_long; so_far = λ old vs behind rest ho hv. f old vs behind rest (g.so_far old vs behind rest ho hv) hv })

    -- it takes its expression's value
    pub storing_by : {bytes' : List ℕ} {d : ℕ} → given assigns (stmts_in stmts) s ≡ Some d → length bytes' ≡ length bytes → StoresOne signals exprs values s d bytes bytes' → Storing signals exprs stmts values bytes₀ bytes' (s + 1)
    unfolding model_of
    storing_by {bytes'} z e o = next e (λ old vs behind rest ho hv. subst (λ (x : Option ℕ). Holds (widths_in signals) (set (anew (assigned (model_in signals exprs stmts) old vs) old s) s (become vs x (get_or old s []))) behind bytes') (sym z) (o.stores_one (anew (assigned (model_in signals exprs stmts) old vs) old s) vs behind rest ho hv))

    -- none is assigned: it keeps what it had
    pub storing_none : given assigns (stmts_in stmts) s ≡ None → Storing signals exprs stmts values bytes₀ bytes (s + 1)
    unfolding model_of
    storing_none z = next refl (λ old vs behind rest ho hv.
        subst (λ (l : List Bits). Holds (widths_in signals) l behind bytes)
        (sym (ap (set (anew (assigned (model_in signals exprs stmts) old vs) old s) s) (ap (λ (x : Option ℕ). become vs x (get_or old s [])) z ∙ sym (anew_behind (assigned (model_in signals exprs stmts) old vs) old [] s s (omega arith))) ∙ set-get_or (anew (assigned (model_in signals exprs stmts) old vs) old s) s []))
        ho)

    module _ {expr_table signal_table : List ℕ} (p : Prepared signals exprs stmts expr_table signal_table) where
      -- what storing one asks
      pub storing_asks : {d : ℕ} → Room signals exprs bytes₀ values → s < length (records_in signals) → given assigns (stmts_in stmts) s ≡ Some d → Indexed (widths_in exprs) expr_table × Indexed (widths_in signals) signal_table × Room signals exprs bytes values × (s < length (records_in signals)) × (d < length (records_in exprs)) × (get_or (widths_in exprs) d 0 ≡ get_or (widths_in signals) s 0)
      storing_asks r q z = (p.expr_offsets, p.signal_offsets, record { bytes_room = omega (arith, r.bytes_room, g.as_long); values_room = r.values_room }, q, omega (arith, driver_there p s z, length_widths exprs), driver_wide p s z)

      pub storing_end : length (records_in signals) ≤ s → Stores signals exprs stmts values bytes₀ bytes
      storing_end q = record {
        stores = λ old vs behind rest ho hv.
            subst (λ (l : List Bits). Holds (widths_in signals) l behind bytes)
            (anew_all (assigned (model_in signals exprs stmts) old vs) old [] (length (model_in signals exprs stmts).signals) s (holds_length ho ∙ count) (omega (arith, count, length_widths signals)))
            (g.so_far old vs behind rest ho hv);
      }
        where
          count : length (widths_in signals) ≡ length (model_in signals exprs stmts).signals
          count = ap length (signals_wide p) ∙ length-map (model_in signals exprs stmts).signals (λ (x : Signal). x.width)

-- INPUTS

-- the first k signals stay, the inputs among the others take the bits
abbrev inputs_from : ℕ → List Signal → Bits → List Bits → List Bits
inputs_from zero ss bs t = set_inputs ss bs t
inputs_from (suc k) [] bs t = []
inputs_from (suc k) (s ∷ ss) bs [] = []
inputs_from (suc k) (s ∷ ss) bs (v ∷ t) = v ∷ inputs_from k ss bs t

-- signal k is next
module _ (d : Signal) where
  from_input : (k : ℕ) (ss : List Signal) (bs : Bits) (t : List Bits) → k < length ss → k < length t → (get_or ss k d).label ≡ 0 → inputs_from (suc k) ss (drop (get_or ss k d).width bs) (set t k (take (get_or ss k d).width bs)) ≡ inputs_from k ss bs t
  from_input k [] bs t q r e = absurd (not-suc-le-zero q)
  from_input k (s ∷ ss) bs [] q r e = absurd (not-suc-le-zero r)
  from_input zero (s ∷ ss) bs (v ∷ t) q r e = sym (rw (eq-eqb s.label 0 e))
  from_input (suc k) (s ∷ ss) bs (v ∷ t) q r e = ap (λ (l : List Bits). v ∷ l) (from_input k ss bs t (omega arith) (omega arith) e)

  from_other : (k : ℕ) (ss : List Signal) (bs : Bits) (t : List Bits) → k < length ss → k < length t → ((get_or ss k d).label ≡ 0 → ⊥) → inputs_from (suc k) ss bs t ≡ inputs_from k ss bs t
  from_other k [] bs t q r e = absurd (not-suc-le-zero q)
  from_other k (s ∷ ss) bs [] q r e = absurd (not-suc-le-zero r)
  from_other zero (s ∷ ss) bs (v ∷ t) q r e = sym (rw (ne_eqb s.label 0 e))
  from_other (suc k) (s ∷ ss) bs (v ∷ t) q r e = ap (λ (l : List Bits). v ∷ l) (from_other k ss bs t (omega arith) (omega arith) e)

-- no input is left
from_none : (d : Signal) (ss : List Signal) (bs : Bits) (t : List Bits) → length t ≡ length ss → ((i : ℕ) → i < length ss → (get_or ss i d).label ≡ 0 → ⊥) → set_inputs ss bs t ≡ t
from_none d [] bs [] e n = refl
from_none d [] bs (v ∷ t) e n = absurd (omega arith)
from_none d (s ∷ ss) bs [] e n = absurd (omega arith)
from_none d (s ∷ ss) bs (v ∷ t) e n = ap (λ (b : Bool). pick b (take s.width bs ∷ set_inputs ss (drop s.width bs) t) (v ∷ set_inputs ss bs t)) (ne_eqb s.label 0 (n 0 (omega arith))) ∙ ap (λ (l : List Bits). v ∷ l) (from_none d ss bs t (omega arith) (λ i q. n (suc i) (omega arith)))

from_rest : (d : Signal) (k : ℕ) (ss : List Signal) (bs : Bits) (t : List Bits) → length t ≡ length ss → ((i : ℕ) → k ≤ i → i < length ss → (get_or ss i d).label ≡ 0 → ⊥) → inputs_from k ss bs t ≡ t
from_rest d zero ss bs t e n = from_none d ss bs t e (λ i q. n i (omega arith) q)
from_rest d (suc k) [] bs [] e n = refl
from_rest d (suc k) [] bs (v ∷ t) e n = absurd (omega arith)
from_rest d (suc k) (s ∷ ss) bs [] e n = absurd (omega arith)
from_rest d (suc k) (s ∷ ss) bs (v ∷ t) e n = ap (λ (l : List Bits). v ∷ l) (from_rest d k ss bs t (omega arith) (λ i a b. n (suc i) (omega arith) (omega arith)))

-- the state that the bytes hold becomes that with all inputs
abbrev Becomes : (signals ticks bytes : List ℕ) → ℕ → ℕ → List Bits → List ℕ → Type 0
Becomes signals ticks bytes k pos goal behind = (t : List Bits) × Holds (widths_in signals) t behind bytes × (inputs_from k (signals_in signals) (drop pos (map is_one ticks)) t ≡ goal)

-- the next signal's record stands at a word, its bytes and its bits at their indices
pub record Taking (signals ticks bytes₀ bytes : List ℕ) (at to pos : ℕ) : Type 0 where
  pub count : ℕ
  pub walked : Walked signals at count
  pub byte_is : to ≡ offset (widths_in signals) count
  pub bits_left : pos + total input_width (drop count (signals_in signals)) ≡ length ticks
  pub as_long : length bytes ≡ length bytes₀
  pub so_far : (old : List Bits) (behind : List ℕ) → Holds (widths_in signals) old behind bytes₀ → Becomes signals ticks bytes count pos (set_inputs (signals_in signals) (map is_one ticks) old) behind

module _ {signals ticks : List ℕ} (h : ReadSignals signals) (ticked : GoodTicks signals ticks) where
  pub taking_start : (bytes₀ : List ℕ) → Taking signals ticks bytes₀ bytes₀ 0 0 0
  taking_start bytes₀ = record {
    count = 0;
    walked = walked_start signals;
    byte_is = refl;
    bits_left = omega (arith, ticked.right_count);
    as_long = refl;
    so_far = λ old behind ho. (old, ho, refl);
  }

  module _ {bytes₀ bytes : List ℕ} {at to pos : ℕ} (g : Taking signals ticks bytes₀ bytes at to pos) where
    -- no input is left
    pub taking_end : ((i : ℕ) → g.count ≤ i → i < length (records_in signals) → (signal_at signals i).label ≡ 0 → ⊥) → Inputs signals ticks bytes₀ bytes
    taking_end n = record { inputs = λ old behind ho. done (set_inputs (signals_in signals) (map is_one ticks) old) behind (g.so_far old behind ho) }
      where
        done : (goal : List Bits) (behind : List ℕ) → Becomes signals ticks bytes g.count pos goal behind → Holds (widths_in signals) goal behind bytes
        done goal behind b =
            subst (λ (l : List Bits). Holds (widths_in signals) l behind bytes)
            (sym (from_rest no_signal g.count (signals_in signals) (drop pos (map is_one ticks)) b.0 (holds_length b.1 ∙ length_widths signals ∙ sym (signals_long h)) (λ i a q. n i a (omega (arith, q, signals_long h)))) ∙ b.2)
            b.1

    -- the next signal
    module _ {size : ℕ} (e : size ≡ size_at signals at) (d : size ≡ 0 → ⊥) {w : ℕ} (hw : w ≡ get_or signals (at + 2) 0) where
      abbrev x : Signal
      x = signal_at signals g.count

      there : g.count < length (records_in signals)
      there = signal_there h g.walked e d

      pub input_room : offset (widths_in signals) (length (records_in signals)) ≤ length bytes₀ → to + w ≤ length bytes
      input_room r = omega (arith, r, g.byte_is, g.as_long, signal_end h g.walked e d hw)

      byte_next : to + w ≡ offset (widths_in signals) (g.count + 1)
      byte_next = omega (arith, g.byte_is, next_byte h g.walked e d hw)

      -- it is an input
      module _ (l : get_or signals (at + 1) 0 ≡ 0) where
        labelled : x.label ≡ 0
        labelled = sym (label_is h g.walked e d) ∙ l

        bits_next : pos + w + total input_width (drop (g.count + 1) (signals_in signals)) ≡ length ticks
        bits_next = omega (arith, g.bits_left, total_left h g.walked e d input_width, ap (λ (b : Bool). pick b x.width 0) (eq-eqb x.label 0 labelled), width_is h g.walked e d hw)

        pub input_copies : offset (widths_in signals) (length (records_in signals)) ≤ length bytes₀ → (to + w ≤ length bytes) × (pos + w ≤ length ticks)
        input_copies r = (input_room r, omega (arith, bits_next))

        pub input_taken : {bytes' : List ℕ} → length bytes' ≡ length bytes → bytes' ≡ over bytes to (part ticks pos w) → Taking signals ticks bytes₀ bytes' (at + size) (to + w) (pos + w)
        input_taken {bytes'} n z = record {
          count = g.count + 1;
          walked = walked_next g.walked size e d;
          byte_is = byte_next;
          bits_left = bits_next;
          as_long = n ∙ g.as_long;
          so_far = λ old behind ho. step (set_inputs (signals_in signals) (map is_one ticks) old) behind (g.so_far old behind ho);
        }
          where
            long : length (take w (drop pos (map is_one ticks))) ≡ w
            long = length-take-le w (drop pos (map is_one ticks)) (omega (arith, bits_next, length-drop pos (map is_one ticks), length-map ticks is_one))

            bytes_are : part ticks pos w ≡ map digit (take w (drop pos (map is_one ticks)))
            bytes_are =
                ap (λ (b : List ℕ). part b pos w) (sym (bytes_back 0 ticks ticked.all_bits))
                ∙ ap (take w) (map_drop digit pos (map is_one ticks))
                ∙ map_take digit w (drop pos (map is_one ticks))

            step : (goal : List Bits) (behind : List ℕ) → Becomes signals ticks bytes g.count pos goal behind → Becomes signals ticks bytes' (g.count + 1) (pos + w) goal behind
            step goal behind b = (
              set b.0 g.count (take w (drop pos (map is_one ticks))),
              subst (λ (y : List ℕ). Holds (widths_in signals) (set b.0 g.count (take w (drop pos (map is_one ticks)))) behind y)
                  (sym (z ∙ ap₂ (λ (i : ℕ) (y : List ℕ). over bytes i y) g.byte_is bytes_are))
                  (holds_set b.1 g.count (take w (drop pos (map is_one ticks))) (omega (arith, there, length_widths signals)) (long ∙ sym (own_width h g.walked e d hw))),
              ap₂ (λ (j : ℕ) (y : Bits). inputs_from j (signals_in signals) y (set b.0 g.count (take w (drop pos (map is_one ticks))))) (add-one g.count) (sym (drop-drop w pos (map is_one ticks)))
                  ∙ ap (λ (i : ℕ). inputs_from (suc g.count) (signals_in signals) (drop i (drop pos (map is_one ticks))) (set b.0 g.count (take i (drop pos (map is_one ticks))))) (width_is h g.walked e d hw)
                  ∙ from_input no_signal g.count (signals_in signals) (drop pos (map is_one ticks)) b.0 (omega (arith, signals_long h, there)) (omega (arith, there, holds_length b.1, length_widths signals)) labelled
                  ∙ b.2,
            )

      -- it is none
      pub input_none : (get_or signals (at + 1) 0 ≡ 0 → ⊥) → Taking signals ticks bytes₀ bytes (at + size) (to + w) pos
      input_none l = record {
        count = g.count + 1;
        walked = walked_next g.walked size e d;
        byte_is = byte_next;
        bits_left = omega (arith, g.bits_left, total_left h g.walked e d input_width, ap (λ (b : Bool). pick b x.width 0) (ne_eqb x.label 0 labelled));
        as_long = g.as_long;
        so_far = λ old behind ho. step (set_inputs (signals_in signals) (map is_one ticks) old) behind (g.so_far old behind ho);
      }
        where
          labelled : x.label ≡ 0 → ⊥
          labelled q = l (label_is h g.walked e d ∙ q)

          step : (goal : List Bits) (behind : List ℕ) → Becomes signals ticks bytes g.count pos goal behind → Becomes signals ticks bytes (g.count + 1) pos goal behind
          step goal behind b = (
            b.0,
            b.1,
            ap (λ (j : ℕ). inputs_from j (signals_in signals) (drop pos (map is_one ticks)) b.0) (add-one g.count)
                ∙ from_other no_signal g.count (signals_in signals) (drop pos (map is_one ticks)) b.0 (omega (arith, signals_long h, there)) (omega (arith, there, holds_length b.1, length_widths signals)) labelled
                ∙ b.2,
          )
