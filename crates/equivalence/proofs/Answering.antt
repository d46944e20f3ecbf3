-- How a call of the accepted model ends: as the tick rule says, or for a short work.
-- Assumes nothing.
use mathlib.Core.Path.{◌≡◌, refl, ap, ap₂, sym, ◌∙◌, subst}
use mathlib.Core.Logic.{◌⊎◌, inl, inr}
use mathlib.Core.Bool.{Bool, true, false, ◌&&◌}
use mathlib.Core.List.{List, [], ◌∷◌}
use Rattle.std.specs.Prelude.{Option, None, Some}
use Prim.Native.Nat.{ℕ, zero, suc, ◌+◌, ◌≤◌, ◌<◌}
use native.Mathlib.Omega.{arith}
use native.Mathlib.Decide.{dec_lt}
use lib.Dec.{eqb, leb, ltb}
use lib.ListN.{length, take}
use borrow.Author.Tests.{le-leb, lt-leb, lt-ltb, ltb-true}
use Rattle.bits.specs.Bits.{pick}
use Rattle.netlist.specs.Netlist.{Netlist}
use Rattle.recorder.specs.Record.{Model}
use Rattle.recorder.specs.Lists.{Lists}
use Rattle.recorder.specs.Read.{only}
use Rattle.behaviour.specs.WireMap.{signal_count}
use Rattle.behaviour.specs.WireMap.{tick_bits as port_bits}
use Rattle.behaviour.specs.Behaviour.{all_bits, fired_fits, accepts}
use Rattle.simulation.specs.Wellformed.{or_else}
use Rattle.simulation.specs.Tick.{looped}
use Rattle.simulation.specs.Run.{signal_bytes, expr_bits, tick_bits, short, no_bit, wrong_count, wrong_fired, on_loop, first_of, refusal}
use Rattle.equivalence.specs.Demand.{fired_by, tick_by, enough, answer_to}
use Rattle.simulation.specs.Shown.{Entry, entry_call}

-- a test, and the refusal that stands for it
pub data Tested : Option (ℕ × ℕ) → Bool → Type 0 where
  passes : Tested None true
  fails : (number place : ℕ) → (number ≡ 1) ⊎ (number ≡ 14) → Tested (Some (number, place)) false

tested_as : {o p : Option (ℕ × ℕ)} {b c : Bool} → o ≡ p → b ≡ c → Tested o b → Tested p c
tested_as {o} {p} {b} {c} e f t = subst (λ (x : Option (ℕ × ℕ)). Tested x c) e (subst (Tested o) f t)

first_then : {o p : Option (ℕ × ℕ)} {b c : Bool} → Tested o b → Tested p c → Tested (or_else o p) (b && c)
first_then passes t = t
first_then (fails x y q) t = fails x y q

-- 1: a work
short_tested : (k : ℕ) (buffer : List ℕ) → Tested (short k buffer) (leb k (length buffer))
short_tested k buffer = go (dec_lt (length buffer) k)
  where
    go : Dec (length buffer < k) → Tested (short k buffer) (leb k (length buffer))
    go (yes h) = tested_as (sym (ap (λ (b : Bool). only b (Some (1, Prim.Native.Nat.min k 18446744073709551615))) (lt-ltb (length buffer) k h))) (sym (lt-leb k (length buffer) h)) (fails 1 (Prim.Native.Nat.min k 18446744073709551615) (inl refl))
    go (no h) = tested_as (sym (ap (λ (b : Bool). only b (Some (1, Prim.Native.Nat.min k 18446744073709551615))) (not_less (ltb (length buffer) k) refl))) (sym (le-leb k (length buffer) (omega arith))) passes
      where
        not_less : (b : Bool) → ltb (length buffer) k ≡ b → ltb (length buffer) k ≡ false
        not_less false e = e
        not_less true e = absurd (omega (arith, ltb-true (length buffer) k e))

-- 14: the count, the bits, what is fired
count_tested : (k : ℕ) (ticks : List ℕ) → Tested (wrong_count k ticks) (eqb (length ticks) k)
count_tested k ticks = go (eqb (length ticks) k)
  where
    go : (b : Bool) → Tested (pick b None (Some (14, k))) b
    go true = passes
    go false = fails 14 k (inr refl)

pub low_two : (x : ℕ) → leb x 1 ≡ ltb x 2
low_two x = go (dec_lt x 2)
  where
    not_less : (b : Bool) → ltb x 2 ≡ b → (x < 2 → ⊥) → ltb x 2 ≡ false
    not_less false e h = e
    not_less true e h = absurd (h (ltb-true x 2 e))

    go : Dec (x < 2) → leb x 1 ≡ ltb x 2
    go (yes h) = le-leb x 1 (omega arith) ∙ sym (lt-ltb x 2 h)
    go (no h) = lt-leb x 1 (omega arith) ∙ sym (not_less (ltb x 2) refl h)

bits_tested : (k : ℕ) (ticks : List ℕ) → Tested (no_bit k ticks) (all_bits ticks)
bits_tested k [] = passes
bits_tested k (b ∷ ticks) = go (leb b 1) refl (bits_tested (suc k) ticks)
  where
    go : (t : Bool) → leb b 1 ≡ t → Tested (no_bit (suc k) ticks) (all_bits ticks) → Tested (pick t (no_bit (suc k) ticks) (Some (14, k))) (ltb b 2 && all_bits ticks)
    go true e h = tested_as refl (ap (λ (x : Bool). x && all_bits ticks) (sym e ∙ low_two b)) h
    go false e h = tested_as refl (ap (λ (x : Bool). x && all_bits ticks) (sym e ∙ low_two b)) (fails 14 k (inr refl))

fired_tested : (n : Netlist) (signals : ℕ) (f : Option (ℕ × ℕ)) → signals ≡ signal_count n → Tested (wrong_fired signals f) (fired_fits n (fired_by f))
fired_tested n signals None e = passes
fired_tested n signals (Some f) e =
    tested_as refl (ap₂ (λ (k : ℕ) (b : Bool). ltb f.0 k && b) e (low_two f.1)) (go (ltb f.0 signals && leb f.1 1))
  where
    go : (b : Bool) → Tested (pick b None (Some (14, 0))) b
    go true = passes
    go false = fails 14 0 (inr refl)

and_yes : (a : Bool) → a && true ≡ a
and_yes true = refl
and_yes false = refl

-- THE WHOLE

-- what the signal bytes and the model could refuse for is not there
pub refusal_is : (M : Model) (l : Lists) (bytes : List ℕ) (e : Entry) → signal_bytes M ≤ length bytes → no_bit 0 (take (signal_bytes M) bytes) ≡ None → looped M ≡ None → refusal M (entry_call l bytes e) ≡ answer_to M e
unfolding refusal
refusal_is M l bytes e long bits loopless =
    let p : short (signal_bytes M) bytes ≡ None = passed (tested_as refl (le-leb (signal_bytes M) (length bytes) long) (short_tested (signal_bytes M) bytes)) in
    let q : on_loop (looped M) ≡ None = ap on_loop loopless in
    λ i. first_of
    (p i
    ∷ short (expr_bits M) e.work_bits
    ∷ short (length M.exprs) e.work_exprs
    ∷ short (length M.signals) e.work_signals
    ∷ bits i
    ∷ wrong_count (tick_bits M) e.ticks
    ∷ no_bit 0 e.ticks
    ∷ wrong_fired (length M.signals) e.fired
    ∷ q i
    ∷ [])
  where
    passed : {o : Option (ℕ × ℕ)} → Tested o true → o ≡ None
    passed passes = refl

pub answer_tested : (n : Netlist) (M : Model) (e : Entry) → tick_bits M ≡ port_bits n.ports → length M.signals ≡ signal_count n → Tested (answer_to M e) (enough M e && accepts n (tick_by e))
answer_tested n M e count signals =
    let a = short_tested (expr_bits M) e.work_bits in
    let b = short_tested (length M.exprs) e.work_exprs in
    let d = short_tested (length M.signals) e.work_signals in
    let g : Tested (wrong_count (tick_bits M) e.ticks) (eqb (length e.ticks) (port_bits n.ports)) = tested_as refl (ap (eqb (length e.ticks)) count) (count_tested (tick_bits M) e.ticks) in
    let h = bits_tested 0 e.ticks in
    let i = fired_tested n (length M.signals) e.fired signals in
    tested_as refl
    (regroup (leb (expr_bits M) (length e.work_bits)) (leb (length M.exprs) (length e.work_exprs)) (leb (length M.signals) (length e.work_signals)) (eqb (length e.ticks) (port_bits n.ports)) (all_bits e.ticks) (fired_fits n (fired_by e.fired)))
    (first_then a (first_then b (first_then d (first_then g (first_then h (first_then i passes))))))
  where
    regroup : (a b c d e f : Bool) → a && (b && (c && (d && (e && (f && true))))) ≡ (a && (b && c)) && (d && (e && f))
    regroup true true true d e f = ap (λ (x : Bool). d && (e && x)) (and_yes f)
    regroup true true false d e f = refl
    regroup true false c d e f = refl
    regroup false b c d e f = refl
