-- The input signals after a tick's bits are set, and what keeps its bits.
-- Assumes nothing.
use mathlib.Core.Path.{◌≡◌, refl, ap, sym, ◌∙◌}
use mathlib.Core.Bool.{Bool, true, false}
use mathlib.Core.List.{List, [], ◌∷◌, ◌++◌}
use Prim.Native.Nat.{ℕ, zero, suc, ◌+◌, ◌<◌}
use native.Mathlib.Nat.{not-suc-le-zero}
use native.Mathlib.Omega.{arith}
use lib.Dec.{eqb}
use lib.ListN.{length, get_or, take, drop}
use Rattle.bits.specs.Bits.{pick, Bits}
use Rattle.netlist.specs.Netlist.{Port}
use Rattle.recorder.specs.Record.{Signal}
use Rattle.lowering.specs.Reserve.{signal_of}
use Rattle.behaviour.specs.WireMap.{inputs, shown, port_slots, tick_bits}
use Rattle.simulation.specs.Tick.{set_inputs}
use Rattle.simulation.specs.Run.{input_width, total}
use Rattle.meaning.specs.Mapped.{no_slot, port_signals}
use Rattle.forms.proofs.Counting.{no_signal}

-- a signal that is no input keeps its bits
pub not_input_kept : (ss : List Signal) (bs : Bits) (t : List Bits) (s : ℕ) → length t ≡ length ss → s < length ss → eqb (get_or ss s no_signal).label 0 ≡ false → get_or (set_inputs ss bs t) s [] ≡ get_or t s []
not_input_kept [] bs t s l h e = absurd (not-suc-le-zero h)
not_input_kept (x ∷ ss) bs [] s l h e = absurd (omega (arith, l))
not_input_kept (x ∷ ss) bs (v ∷ t) zero l h e = ap (λ (b : Bool). get_or (pick b (take x.width bs ∷ set_inputs ss (drop x.width bs) t) (v ∷ set_inputs ss bs t)) 0 []) e
not_input_kept (x ∷ ss) bs (v ∷ t) (suc s) l h e = go (eqb x.label 0) (λ b. not_input_kept ss b t s (omega (arith, l)) (omega arith) e)
  where
    go : (b : Bool) → ((b' : Bits) → get_or (set_inputs ss b' t) s [] ≡ get_or t s []) → get_or (pick b (take x.width bs ∷ set_inputs ss (drop x.width bs) t) (v ∷ set_inputs ss bs t)) (suc s) [] ≡ get_or t s []
    go true f = f (drop x.width bs)
    go false f = f bs

drop_none : {A : Type 0} (k : ℕ) → ◌≡◌ {A = List A} (drop k []) []
drop_none zero = refl
drop_none (suc k) = refl

drop_drop : {A : Type 0} (i j : ℕ) (l : List A) → drop j (drop i l) ≡ drop (i + j) l
drop_drop zero j l = ap (λ (k : ℕ). drop k l) (let z : j ≡ 0 + j = omega arith in z)
drop_drop (suc i) j [] = drop_none j ∙ sym (drop_none (suc i + j))
drop_drop (suc i) j (x ∷ l) = drop_drop i j l ∙ ap (λ (k : ℕ). drop k (x ∷ l)) (let z : suc (i + j) ≡ suc i + j = omega arith in z)

-- an input port's signal takes its part of the bits; `all` are those from the first port on, of which k are done
pub input_set : (ports : List Port) (p k : ℕ) (rest : List Signal) (all : Bits) (t : List Bits) (s j : ℕ) → length t ≡ length (port_signals p ports ++ rest) → s < length ports → (get_or (port_slots ports k) s no_slot).source ≡ inputs j
    → get_or (set_inputs (port_signals p ports ++ rest) (drop k all) t) s [] ≡ take (length (get_or (port_slots ports k) s no_slot).bits) (drop j all)
input_set [] p k rest all t s j l h e = absurd (not-suc-le-zero h)
input_set (x ∷ ports) p k rest all [] s j l h e = absurd (omega (arith, l))
input_set (x ∷ ports) p k rest all (v ∷ t) s j l h e = go (eqb x.direction 1) s h e (λ i b g q. input_set ports (suc p) i rest all t b j (omega (arith, l)) g q)
  where
    source_is : {a b : ℕ} → inputs a ≡ inputs b → a ≡ b
    source_is q = cc

    go : (b : Bool) (s : ℕ) → s < suc (length ports) → (get_or (pick b (record { source = shown; bits = [] } ∷ port_slots ports k) (record { source = inputs k; bits = x.bits } ∷ port_slots ports (k + length x.bits))) s no_slot).source ≡ inputs j
        → ((i b : ℕ) → b < length ports → (get_or (port_slots ports i) b no_slot).source ≡ inputs j → get_or (set_inputs (port_signals (suc p) ports ++ rest) (drop i all) t) b [] ≡ take (length (get_or (port_slots ports i) b no_slot).bits) (drop j all))
        → get_or (set_inputs (pick b (signal_of 1 (length x.bits) p) (signal_of 0 (length x.bits) p) ∷ (port_signals (suc p) ports ++ rest)) (drop k all) (v ∷ t)) s []
        ≡ take (length (get_or (pick b (record { source = shown; bits = [] } ∷ port_slots ports k) (record { source = inputs k; bits = x.bits } ∷ port_slots ports (k + length x.bits))) s no_slot).bits) (drop j all)
    go true zero g q f = absurd (let z : ◌≡◌ {A = ℕ} 0 1 = cc in omega arith)
    go true (suc s) g q f = f k s (omega arith) q
    go false zero g q f = ap (λ (i : ℕ). take (length x.bits) (drop i all)) (source_is q)
    go false (suc s) g q f =
        ap (λ (b : Bits). get_or (set_inputs (port_signals (suc p) ports ++ rest) b t) s []) (drop_drop k (length x.bits) all)
        ∙ f (k + length x.bits) s (omega arith) q

-- as many bits as the input ports have
pub total_append : (w : Signal → ℕ) (xs ys : List Signal) → total w (xs ++ ys) ≡ total w xs + total w ys
total_append w [] ys = omega arith
total_append w (x ∷ xs) ys = omega (arith, total_append w xs ys)

pub port_bits_lem : (p : ℕ) (ports : List Port) → total input_width (port_signals p ports) ≡ tick_bits ports
port_bits_lem p [] = refl
port_bits_lem p (x ∷ ports) = go (eqb x.direction 1) (port_bits_lem (suc p) ports)
  where
    go : (b : Bool) → total input_width (port_signals (suc p) ports) ≡ tick_bits ports
        → input_width (pick b (signal_of 1 (length x.bits) p) (signal_of 0 (length x.bits) p)) + total input_width (port_signals (suc p) ports) ≡ pick b (tick_bits ports) (length x.bits + tick_bits ports)
    go true e = omega (arith, e)
    go false e = omega (arith, e)
