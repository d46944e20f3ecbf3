-- A bank's wires one after the other, and its signal before them.
use mathlib.Core.Path.{◌≡◌, refl, ap, sym, ◌∙◌, subst}
use mathlib.Core.List.{List, [], ◌∷◌}
use Prim.Native.Nat.{ℕ, suc, ◌+◌, ◌≤◌, ◌<◌}
use native.Mathlib.Numerals.{add-one}
use native.Mathlib.Omega.{arith}
use lib.ListN.{length}
use Rattle.std.specs.Prelude.{Result, Ok, Err, IsErrAnd}
use Rattle.netlist.specs.declared.Limits.{Limits}
use Rattle.netlist.specs.declared.Bit.TheVariants.{Wire}
use Rattle.netlist.specs.Shape.{Each, FitsWire}
use Rattle.refusal.specs.declared.Refusal.{Refusal}
use Rattle.behaviour.specs.Banks.{Member, outputs_of}
use Rattle.recorder.specs.Writer.{Writer, declare, ◌>>=◌}
use Rattle.wires.specs.declared.WireRef as code
use Rattle.wires.specs.Wires.{Wires, ref_in}
use Rattle.lowering.specs.Reserve.{signal_of, insert_wire, insert_wires, reserve_vector}
use Rattle.converter.specs.declared.Reserver.{Reserver}
use Rattle.converter.specs.Tables.{map_in, Reserves, Small}
use Rattle.converter.proofs.Reserving.{Under, Reserving, reserving_start, reserving_step, reserving_err, reserving_end}

-- THE WIRES: the members left are inserted, the next one at bit lsb

module _ (ms : List Member) (s n : ℕ) where
  abbrev pub MembersFit : Limits → Type 0
  MembersFit limits = Each (FitsWire limits) (outputs_of ms) × (s < 4294967295) × (n < 65536) × (length ms ≤ n)

  pub record Inserting (r₀ r : Reserver) (lsb : ℕ) (rest : List Member) : Type 0 where
    pub goes : Reserving MembersFit r₀ (insert_wires (map_in r₀) s n 0 (outputs_of ms)) r (insert_wires (map_in r) s n lsb (outputs_of rest))
    pub fits : (limits : Limits) → MembersFit limits → Each (FitsWire limits) (outputs_of rest)
    pub placed : lsb + length rest ≡ length ms

module _ {ms : List Member} {s n : ℕ} {r₀ : Reserver} where
  pub inserting_start : Inserting ms s n r₀ r₀ 0 ms
  inserting_start = record { goes = reserving_start refl; fits = λ limits p. p.0; placed = omega arith }

  module _ {r : Reserver} {lsb : ℕ} {rest : List Member} (now : Inserting ms s n r₀ r lsb rest) where
    module _ {x : Member} {more : List Member} (is : rest ≡ x ∷ more) {w : ℕ} (out : w ≡ x.flop.output) where
      abbrev after : Wires → Writer Wires
      after m = insert_wires m s n (lsb + 1) (outputs_of more)

      begins : insert_wires (map_in r) s n lsb (outputs_of rest) ≡ (insert_wire (map_in r) (Wire w) (record { signal = s; lsb = lsb; width = n }) >>= after)
      unfolding insert_wires
      begins =
          ap (λ (l : List Member). insert_wires (map_in r) s n lsb (outputs_of l)) is
          ∙ ap (λ (v : ℕ). insert_wire (map_in r) (Wire v) (record { signal = s; lsb = lsb; width = n }) >>= λ m. insert_wires m s n (suc lsb) (outputs_of more)) (sym out)
          ∙ ap (λ (k : ℕ). insert_wire (map_in r) (Wire w) (record { signal = s; lsb = lsb; width = n }) >>= λ m. insert_wires m s n k (outputs_of more)) (sym (add-one lsb))

      more_fit : (limits : Limits) → MembersFit ms s n limits → FitsWire limits w × Each (FitsWire limits) (outputs_of more)
      more_fit limits p =
          let q : Each (FitsWire limits) (outputs_of (x ∷ more)) = subst (λ (l : List Member). Each (FitsWire limits) (outputs_of l)) is (now.fits limits p) in
          (subst (FitsWire limits) (sym out) q.0, q.1)

      under : (held : code.WireRef) → held.signal.0 ≡ s → held.lsb ≡ lsb → held.width ≡ n → Under r (MembersFit ms s n) (λ limits. FitsWire limits w × Small held)
      under held a b c limits room p = ((more_fit limits p).0, record { numbered = omega (arith, a, p.1); placed = omega (arith, b, p.2, p.3, now.placed, ap length is); narrow = omega (arith, c, p.2) })

      -- the code's entry
      module _ {held : code.WireRef} (a : held.signal.0 ≡ s) (b : held.lsb ≡ lsb) (c : held.width ≡ n) where
        entry_is : ref_in held ≡ record { signal = s; lsb = lsb; width = n }
        entry_is = λ i. record { signal = a i; lsb = b i; width = c i }

        same : {q : Result (Unit {0}) Refusal} {r₁ : Reserver} → Reserves (λ limits. FitsWire limits w × Small held) r (insert_wire (map_in r) (Wire w) (ref_in held)) q r₁ → Reserves (λ limits. FitsWire limits w × Small held) r (insert_wire (map_in r) (Wire w) (record { signal = s; lsb = lsb; width = n })) q r₁
        same {q} {r₁} h = subst (λ e. Reserves (λ limits. FitsWire limits w × Small held) r (insert_wire (map_in r) (Wire w) e) q r₁) entry_is h

        pub inserting_step : {r₁ : Reserver} → Reserves (λ limits. FitsWire limits w × Small held) r (insert_wire (map_in r) (Wire w) (ref_in held)) (Ok tt) r₁ → Inserting ms s n r₀ r₁ (lsb + 1) more
        inserting_step h = record {
          goes = reserving_step now.goes after (λ limits p. begins) (under held a b c) (same h);
          fits = λ limits p. (more_fit limits p).1;
          placed = omega (arith, now.placed, ap length is);
        }

        pub inserting_err : {y : Refusal} {r₁ : Reserver} → Reserves (λ limits. FitsWire limits w × Small held) r (insert_wire (map_in r) (Wire w) (ref_in held)) (Err y) r₁ → (q : Result (Unit {0}) Refusal) → IsErrAnd q (λ z. z ≡ y) → Reserves (MembersFit ms s n) r₀ (insert_wires (map_in r₀) s n 0 (outputs_of ms)) q r₁
        inserting_err h q e = reserving_err now.goes after (λ limits p. begins) (under held a b c) (same h) q e

    pub inserting_end : rest ≡ [] → Reserves (MembersFit ms s n) r₀ (insert_wires (map_in r₀) s n 0 (outputs_of ms)) (Ok tt) r
    unfolding insert_wires
    inserting_end e = reserving_end now.goes (λ limits p. ap (λ (l : List Member). insert_wires (map_in r) s n lsb (outputs_of l)) e)

-- THE SIGNAL

outputs_length : (ms : List Member) → length (outputs_of ms) ≡ length ms
outputs_length [] = refl
outputs_length (m ∷ ms) = ap suc (outputs_length ms)

-- a signal as wide as there are members
pub bank_vector : (m : Wires) (owner : ℕ) (ms : List Member) {width : ℕ} → width ≡ length ms → reserve_vector m 7 owner (outputs_of ms) ≡ (declare (signal_of 7 width owner) >>= λ s. insert_wires m s width 0 (outputs_of ms))
unfolding reserve_vector
bank_vector m owner ms e = ap (λ (k : ℕ). declare (signal_of 7 k owner) >>= λ s. insert_wires m s k 0 (outputs_of ms)) (outputs_length ms ∙ sym e)
