-- What refuses a call before any loop is looked for. Assumes nothing.
use Prim.Native.Nat.{ℕ, zero, suc, ◌+◌, ◌≤◌, ◌<◌, min}
use mathlib.Core.Path.{◌≡◌, refl, sym, ◌∙◌, ap, ap₂}
use mathlib.Core.Bool.{Bool, true, false, ◌&&◌}
use mathlib.Core.List.{List, [], ◌∷◌, ◌++◌, map, tail}
use Rattle.std.specs.Prelude.{Option, None, Some}
use native.Mathlib.Omega.{arith}
use native.Mathlib.Numerals.{add-one}
use native.Mathlib.Nat.{not-suc-le-zero}
use native.Mathlib.Decide.{dec_lt}
use lib.Dec.{eqb, leb, ltb}
use lib.ListN.{length, get_or, take, drop, drop_of_length-le}
use lib.Seq.{drop-cons, take_all, take-length}
use borrow.Author.Tests.{le-leb, lt-leb, eq-eqb, ne_eqb, lt-ltb, le-ltb}
use Rattle.bits.specs.Bits.{pick}
use Rattle.recorder.specs.Record.{Signal, Model}
use Rattle.recorder.specs.Lists.{Lists}
use Rattle.recorder.specs.Read.{only, read_signal, read_expr, read_all, model_of}
use Rattle.recorder.specs.Words.{raw_of, EachReads}
use Rattle.recorder.proofs.Roundtrip.{signal_said}
use Rattle.simulation.specs.Wellformed.{or_else, malformed}
use Rattle.simulation.specs.Tick.{looped}
use Rattle.simulation.specs.Run.{Call, call_model, expr_width, input_width, total, signal_bytes, expr_bits, tick_bits, short, no_bit, wrong_count, wrong_fired, first_of, on_loop, causes, refusal, verdict, answer}
use Rattle.simulation.specs.Index.{records_in, widths_in, offset}
use Rattle.simulation.specs.Fault.{second_field, width_total, input_field, input_total, length_causes, bit_causes, call_causes, call_of, checked, checked_by}
use Rattle.simulation.proofs.Sound.{signals_read, exprs_read, signal_width, expr_width_lem}
use Rattle.simulation.proofs.Found.{read_head, faultless, signals_count, exprs_count}

-- ANSWERS ONE AFTER THE OTHER

pub or_else_none : {A : Type 0} (o : Option A) → or_else o None ≡ o
or_else_none None = refl
or_else_none (Some a) = refl

pub firsts_append : (xs ys : List (Option (ℕ × ℕ))) → first_of (xs ++ ys) ≡ or_else (first_of xs) (first_of ys)
firsts_append [] ys = refl
firsts_append (None ∷ xs) ys = firsts_append xs ys
firsts_append (Some a ∷ xs) ys = refl

-- A BUFFER'S LENGTH

pub only_true : {A : Type 0} {b : Bool} (o : Option A) → b ≡ true → o ≡ only b o
only_true o h = sym (ap (λ (x : Bool). only x o) h)

pub only_false : {A : Type 0} {b : Bool} (o : Option A) → b ≡ false → None ≡ only b o
only_false o h = sym (ap (λ (x : Bool). only x o) h)

-- a sum that stopped at the largest number is as good: no buffer is that long
pub short_min : (n : ℕ) (l : List ℕ) (v : ℕ) → v ≡ min n 18446744073709551615 → length l < 18446744073709551615 → only (ltb (length l) v) (Some (1, v)) ≡ short n l
short_min n l v e h = go (dec_lt (length l) n)
  where
    go : Dec (length l < n) → only (ltb (length l) v) (Some (1, v)) ≡ short n l
    go (yes q) = sym (only_true _ (lt-ltb (length l) v (omega arith))) ∙ ap (λ (k : ℕ). Some (1, k)) e ∙ only_true _ (lt-ltb (length l) n q)
    go (no q) = sym (only_false _ (le-ltb (length l) v (omega arith))) ∙ only_false _ (le-ltb (length l) n (omega arith))

-- nothing is short: the first is long enough
pub long_enough : (n : ℕ) (l : List ℕ) (os : List (Option (ℕ × ℕ))) → None ≡ first_of (short n l ∷ os) → n ≤ length l
long_enough n l os h = go (dec_lt (length l) n)
  where
    go : Dec (length l < n) → n ≤ length l
    go (no q) = omega arith
    go (yes q) =
        let w : ◌≡◌ {A = Option (ℕ × ℕ)} None (Some (1, min n 18446744073709551615)) = h ∙ ap (λ (o : Option (ℕ × ℕ)). or_else o (first_of os)) (sym (only_true (Some (1, min n 18446744073709551615)) (lt-ltb (length l) n q))) in
        let z : ◌≡◌ {A = ℕ} 0 1 = cc in absurd (omega arith)

-- SUMS

offset_total : (rs : List (List ℕ)) (k : ℕ) → length rs ≤ k → offset (map second_field rs) k ≡ total second_field rs
offset_total [] zero h = refl
offset_total [] (suc k) h = refl
offset_total (r ∷ rs) zero h = absurd (not-suc-le-zero h)
offset_total (r ∷ rs) (suc k) h = ap (λ (n : ℕ). second_field r + n) (offset_total rs k (omega arith))

pub total_is : (l : List ℕ) (k sum : ℕ) → length (records_in l) ≤ k → sum ≡ min (offset (widths_in l) k) 18446744073709551615 → sum ≡ min (width_total l) 18446744073709551615
total_is l k sum h e = e ∙ ap (λ (n : ℕ). min n 18446744073709551615) (offset_total (records_in l) k h)

inputs_le : (rs : List (List ℕ)) → total input_field rs ≤ total second_field rs
inputs_le [] = omega arith
inputs_le (r ∷ rs) = go (eqb (get_or r 0 0) 0) (inputs_le rs)
  where
    go : (b : Bool) → total input_field rs ≤ total second_field rs → pick b (get_or r 1 0) 0 + total input_field rs ≤ get_or r 1 0 + total second_field rs
    go true h = omega arith
    go false h = omega arith

-- as many as there are bytes can be named
pub input_fits : (l : List ℕ) (sum n : ℕ) → sum ≡ min (input_total l) 18446744073709551615 → width_total l ≤ n → n < 18446744073709551615 → sum ≡ input_total l
input_fits l sum n e h q = let z = inputs_le (records_in l) in omega arith

pub input_so : (r : List ℕ) (w : ℕ) → get_or r 0 0 ≡ 0 → w ≡ get_or r 1 0 → w ≡ input_field r
input_so r w h e = e ∙ sym (ap (λ (b : Bool). pick b (get_or r 1 0) 0) (eq-eqb (get_or r 0 0) 0 h))

pub input_not : (r : List ℕ) → (get_or r 0 0 ≡ 0 → ⊥) → 0 ≡ input_field r
input_not r h = sym (ap (λ (b : Bool). pick b (get_or r 1 0) 0) (ne_eqb (get_or r 0 0) 0 h))

-- what is summed and what is left
pub record Summing (rs left : List (List ℕ)) (sum : ℕ) : Type 0 where
  pub so_far : min (sum + total input_field left) 18446744073709551615 ≡ min (total input_field rs) 18446744073709551615
  pub named : sum ≤ 18446744073709551615

pub summing_start : (rs : List (List ℕ)) → Summing rs rs 0
summing_start rs = record { so_far = ap (λ (n : ℕ). min n 18446744073709551615) (omega arith); named = omega arith }

pub summing_next : {rs left : List (List ℕ)} {sum : ℕ} → Summing rs left sum → (r : List ℕ) (rest : List (List ℕ)) (w next : ℕ) → left ≡ r ∷ rest → w ≡ input_field r → next ≡ min (sum + w) 18446744073709551615 → Summing rs rest next
summing_next {rs} {left} {sum} s r rest w next e v n =
    let q = s.so_far in
    let z : total input_field left ≡ w + total input_field rest = ap (total input_field) e ∙ ap (λ (k : ℕ). k + total input_field rest) (sym v) in
    record { so_far = omega arith; named = omega arith }

pub summing_end : {rs left : List (List ℕ)} {sum : ℕ} → Summing rs left sum → left ≡ [] → sum ≡ min (total input_field rs) 18446744073709551615
summing_end {rs} {left} {sum} s e = let q = s.so_far in let z = ap (total input_field) e in let n = s.named in omega arith

-- BITS

module _ (l : List ℕ) (i : ℕ) where
  pub bit_next : i < length l → get_or l i 0 ≤ 1 → no_bit i (drop i l) ≡ no_bit (i + 1) (drop (i + 1) l)
  bit_next h q =
      ap (no_bit i) (drop-cons l i 0 h)
      ∙ ap (λ (b : Bool). pick b (no_bit (suc i) (drop (suc i) l)) (Some (14, i))) (le-leb (get_or l i 0) 1 q)
      ∙ ap (λ (j : ℕ). no_bit j (drop j l)) (sym (add-one i))

  pub bit_here : i < length l → 1 < get_or l i 0 → Some (14, i) ≡ no_bit i (drop i l)
  bit_here h q = sym (ap (no_bit i) (drop-cons l i 0 h) ∙ ap (λ (b : Bool). pick b (no_bit (suc i) (drop (suc i) l)) (Some (14, i))) (lt-leb (get_or l i 0) 1 q))

  pub bit_end : length l ≤ i → None ≡ no_bit i (drop i l)
  bit_end h = ap (no_bit i) (sym (drop_of_length-le l h))

-- the first of the signals' bytes, which may be too few, or the sum of whose widths cannot be named
module _ (l bytes : List ℕ) (sum : ℕ) (e : sum ≡ min (width_total l) 18446744073709551615) where
  pub bytes_all : length bytes < sum → no_bit 0 (take (length bytes) bytes) ≡ no_bit 0 (take (width_total l) bytes)
  bytes_all h = ap (no_bit 0) (take-length bytes ∙ sym (take_all (width_total l) bytes (omega arith)))

  pub bytes_front : sum ≤ length bytes → length bytes < 18446744073709551615 → no_bit 0 (take sum bytes) ≡ no_bit 0 (take (width_total l) bytes)
  bytes_front h q = let z : sum ≡ width_total l = omega arith in ap (λ (n : ℕ). no_bit 0 (take n bytes)) z

pub count_right : (n : ℕ) (l : List ℕ) → length l ≡ n → None ≡ wrong_count n l
count_right n l h = sym (ap (λ (b : Bool). pick b None (Some (14, n))) (eq-eqb (length l) n h))

pub count_wrong : (n : ℕ) (l : List ℕ) → (length l ≡ n → ⊥) → Some (14, n) ≡ wrong_count n l
count_wrong n l h = sym (ap (λ (b : Bool). pick b None (Some (14, n))) (ne_eqb (length l) n h))

module _ (n s d : ℕ) where
  abbrev pub edge_test : Option (ℕ × ℕ)
  edge_test = pick (ltb s n && leb d 1) None (Some (14, 0))

  pub edge_unknown : n ≤ s → Some (14, 0) ≡ edge_test
  edge_unknown h = sym (ap (λ (b : Bool). pick (b && leb d 1) None (Some (14, 0))) (le-ltb s n h))

  pub edge_odd : s < n → 1 < d → Some (14, 0) ≡ edge_test
  edge_odd h q = sym (ap₂ (λ (a b : Bool). pick (a && b) None (Some (14, 0))) (lt-ltb s n h) (lt-leb d 1 q))

  pub edge_so : s < n → d ≤ 1 → None ≡ edge_test
  edge_so h q = sym (ap₂ (λ (a b : Bool). pick (a && b) None (Some (14, 0))) (lt-ltb s n h) (le-leb d 1 q))

-- A MODEL WITHOUT A FAULT

total_read : {A : Type 0} (g : List ℕ → Option A) (f : List ℕ → ℕ) (k : A → ℕ) → ((r : List ℕ) (a : A) → g r ≡ Some a → f r ≡ k a) → (rs : List (List ℕ)) → EachReads g rs → total k (read_all g rs) ≡ total f rs
total_read g f k h [] t = refl
total_read g f k h (r ∷ rs) t =
    ap (total k) (read_head g r rs t.0.as_this t.0.reads) ∙ ap₂ ◌+◌ (sym (h r t.0.as_this t.0.reads)) (total_read g f k h rs t.1)

signal_label : (r : List ℕ) (s : Signal) → read_signal r ≡ Some s → get_or r 0 0 ≡ s.label
signal_label r s h = ap (λ (ws : List ℕ). get_or (tail ws) 0 0) (sym (signal_said r h))

signal_input : (r : List ℕ) (s : Signal) → read_signal r ≡ Some s → input_field r ≡ input_width s
signal_input r s h = ap₂ (λ (l w : ℕ). pick (eqb l 0) w 0) (signal_label r s h) (signal_width r s h)

-- the causes, by the numbers that they ask for
abbrev eight : ℕ → ℕ → ℕ → ℕ → ℕ → Call → List (Option (ℕ × ℕ))
eight sb eb ne ns tb c =
    short sb c.bytes ∷ short eb c.work_bits ∷ short ne c.work_exprs ∷ short ns c.work_signals
    ∷ no_bit 0 (take sb c.bytes) ∷ wrong_count tb c.ticks ∷ no_bit 0 c.ticks ∷ wrong_fired ns c.fired ∷ []

module _ (widest : ℕ) (c : Call) (h : malformed widest c.lists ≡ None) where
  abbrev m : Model
  m = call_model c

  pub bytes_same : signal_bytes m ≡ width_total c.lists.signals
  unfolding model_of
  bytes_same = total_read read_signal second_field (λ (s : Signal). s.width) signal_width (records_in c.lists.signals) (signals_read widest (raw_of c.lists) (faultless widest c.lists h))

  pub bits_same : expr_bits m ≡ width_total c.lists.exprs
  unfolding model_of
  bits_same = total_read read_expr second_field expr_width expr_width_lem (records_in c.lists.exprs) (exprs_read widest (raw_of c.lists) (faultless widest c.lists h))

  pub ticks_same : tick_bits m ≡ input_total c.lists.signals
  unfolding model_of
  ticks_same = total_read read_signal input_field input_width signal_input (records_in c.lists.signals) (signals_read widest (raw_of c.lists) (faultless widest c.lists h))

  pub causes_so : call_causes c ≡ first_of (take 8 (causes m c))
  causes_so =
      let ne = exprs_count widest c.lists (faultless widest c.lists h) in
      let ns = signals_count widest c.lists (faultless widest c.lists h) in
      sym (ap (λ (n : ℕ). first_of (eight n (expr_bits m) (length m.exprs) (length m.signals) (tick_bits m) c)) bytes_same
      ∙ ap (λ (n : ℕ). first_of (eight (width_total c.lists.signals) n (length m.exprs) (length m.signals) (tick_bits m) c)) bits_same
      ∙ ap (λ (n : ℕ). first_of (eight (width_total c.lists.signals) (width_total c.lists.exprs) n (length m.signals) (tick_bits m) c)) ne
      ∙ ap (λ (n : ℕ). first_of (eight (width_total c.lists.signals) (width_total c.lists.exprs) (length (records_in c.lists.exprs)) n (tick_bits m) c)) ns
      ∙ ap (λ (n : ℕ). first_of (eight (width_total c.lists.signals) (width_total c.lists.exprs) (length (records_in c.lists.exprs)) (length (records_in c.lists.signals)) n c)) ticks_same
      ∙ firsts_append (length_causes c.lists.signals c.lists.exprs c.bytes c.work_bits c.work_exprs c.work_signals) (bit_causes c.lists.signals c.bytes c.ticks c.fired))

-- of the work on signals only the length counts
pub work_same : (l : Lists) (bytes ticks : List ℕ) (fired : Option (ℕ × ℕ)) (work_bits work_exprs work_signals other : List ℕ) → length other ≡ length work_signals → call_causes (call_of l bytes ticks fired work_bits work_exprs other) ≡ call_causes (call_of l bytes ticks fired work_bits work_exprs work_signals)
work_same l bytes ticks fired work_bits work_exprs work_signals other h =
    ap (λ (n : ℕ). or_else (first_of (short (width_total l.signals) bytes ∷ short (width_total l.exprs) work_bits ∷ short (length (records_in l.exprs)) work_exprs ∷ only (ltb n (length (records_in l.signals))) (Some (1, min (length (records_in l.signals)) 18446744073709551615)) ∷ [])) (first_of (bit_causes l.signals bytes ticks fired))) h

pub checked_fault : (widest : ℕ) (c : Call) (n : ℕ) → Some n ≡ malformed widest c.lists → Some (12, n) ≡ checked_by widest c
unfolding checked_by
checked_fault widest c n h = ap (checked (call_model c) c) h

pub checked_fine : (widest : ℕ) (c : Call) {o : Option (ℕ × ℕ)} → None ≡ malformed widest c.lists → o ≡ call_causes c → o ≡ checked_by widest c
unfolding checked_by
checked_fine widest c h e = e ∙ causes_so widest c (sym h) ∙ ap (checked (call_model c) c) h

-- what is left is a loop
pub answer_checked : (widest : ℕ) (c : Call) → answer widest c ≡ or_else (checked_by widest c) (on_loop (looped (call_model c)))
unfolding answer checked_by refusal
answer_checked widest c = go (malformed widest c.lists)
  where
    go : (o : Option ℕ) → verdict (call_model c) c o ≡ or_else (checked (call_model c) c o) (on_loop (looped (call_model c)))
    go (Some n) = refl
    go None = firsts_append (take 8 (causes (call_model c) c)) (on_loop (looped (call_model c)) ∷ []) ∙ ap (or_else (first_of (take 8 (causes (call_model c) c)))) (or_else_none (on_loop (looped (call_model c))))
