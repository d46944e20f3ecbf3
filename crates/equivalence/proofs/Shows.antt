-- What the output ports show: the bytes of their signals, and what their bit words hold.
-- Assumes nothing.
use mathlib.Core.Path.{◌≡◌, refl, ap, ap₂, sym, ◌∙◌, subst}
use mathlib.Core.Bool.{Bool, true, false}
use mathlib.Core.List.{List, [], ◌∷◌, ◌++◌, map}
use Rattle.std.specs.Prelude.{None, Some}
use Prim.Native.Nat.{ℕ, zero, suc, ◌+◌, ◌≤◌}
use native.Mathlib.Omega.{arith}
use lib.Dec.{eqb}
use lib.ListN.{length, get_or, take, drop, replicate}
use borrow.Author.Tests.{eq-eqb, ne_eqb, leb-true}
use Rattle.bits.specs.Bits.{pick, Bits, digit}
use Rattle.netlist.specs.declared.Bit.{Bit}
use Rattle.netlist.specs.Netlist.{Port}
use Rattle.netlist.specs.Shape.{Each}
use Rattle.recorder.specs.Record.{Signal}
use Rattle.recorder.specs.Evaluate.{Signals}
use Rattle.lowering.specs.Reserve.{signal_of}
use Rattle.behaviour.specs.Behaviour.{values, zeros, output_ports}
use Rattle.simulation.specs.Run.{total, per_signal, is_one, no_bit}
use Rattle.simulation.specs.Kept.{AllBits}
use Rattle.wires.specs.Wires.{Wires}
use Rattle.meaning.specs.Held.{held, values_at}
use Rattle.meaning.specs.Mapped.{port_signals}
use Rattle.meaning.proofs.Equations.{Shown}
use Rattle.equivalence.specs.Demand.{bytes_of}
use Rattle.simulation.specs.Shown.{shown_bytes}
use Rattle.equivalence.proofs.Vectors.{values_all}

-- the bits of the signals with label 1
abbrev pub shown_bits : List Signal → List Bits → List Bits
shown_bits [] t = []
shown_bits (s ∷ ss) [] = []
shown_bits (s ∷ ss) (v ∷ t) = pick (eqb s.label 1) (v ∷ shown_bits ss t) (shown_bits ss t)

-- BYTES THAT ARE BITS

-- the first k bytes are bits
abbrev pub BitsIn : ℕ → List ℕ → Type 0
BitsIn k bytes = AllBits (take k bytes)

back : (k : ℕ) (bytes : List ℕ) → BitsIn k bytes → map digit (take k (map is_one bytes)) ≡ take k bytes
back zero bytes h = refl
back (suc k) [] h = refl
back (suc k) (b ∷ bytes) h = ap₂ (λ (x : ℕ) (l : List ℕ). x ∷ l) (bit b h.0) (back k bytes h.1)
  where
    bit : (b : ℕ) → b ≤ 1 → digit (is_one b) ≡ b
    bit zero l = refl
    bit (suc zero) l = refl
    bit (suc (suc b)) l = absurd (omega (arith, l))

bits_left : (j k : ℕ) (bytes : List ℕ) → BitsIn (j + k) bytes → BitsIn j bytes
bits_left zero k bytes h = tt
bits_left (suc j) k [] h = tt
bits_left (suc j) k (b ∷ bytes) h =
    let h' : BitsIn (suc (j + k)) (b ∷ bytes) = subst (λ (i : ℕ). BitsIn i (b ∷ bytes)) (let z : suc j + k ≡ suc (j + k) = omega arith in z) h in
    (h'.0, bits_left j k bytes h'.1)

bits_right : (j k : ℕ) (bytes : List ℕ) → BitsIn (j + k) bytes → BitsIn k (drop j bytes)
bits_right zero k bytes h = subst (λ (i : ℕ). BitsIn i bytes) (let z : 0 + k ≡ k = omega arith in z) h
bits_right (suc j) zero [] h = tt
bits_right (suc j) (suc k) [] h = tt
bits_right (suc j) k (b ∷ bytes) h =
    let h' : BitsIn (suc (j + k)) (b ∷ bytes) = subst (λ (i : ℕ). BitsIn i (b ∷ bytes)) (let z : suc j + k ≡ suc (j + k) = omega arith in z) h in
    bits_right j k bytes h'.1

drop_map : (k : ℕ) (bytes : List ℕ) → drop k (map is_one bytes) ≡ map is_one (drop k bytes)
drop_map zero bytes = refl
drop_map (suc k) [] = refl
drop_map (suc k) (b ∷ bytes) = drop_map k bytes

-- the bytes shown are the bits shown
pub bytes_shown : (ss : List Signal) (bytes : List ℕ) → BitsIn (total (λ (s : Signal). s.width) ss) bytes → shown_bytes ss bytes ≡ bytes_of (shown_bits ss (per_signal ss (map is_one bytes)))
bytes_shown [] bytes h = refl
bytes_shown (s ∷ ss) bytes h =
    go (eqb s.label 1) (sym (back s.width bytes (bits_left s.width (total (λ (x : Signal). x.width) ss) bytes h)))
    (bytes_shown ss (drop s.width bytes) (bits_right s.width (total (λ (x : Signal). x.width) ss) bytes h) ∙ ap (λ (l : Bits). bytes_of (shown_bits ss (per_signal ss l))) (sym (drop_map s.width bytes)))
  where
    go : (b : Bool) → take s.width bytes ≡ map digit (take s.width (map is_one bytes)) → shown_bytes ss (drop s.width bytes) ≡ bytes_of (shown_bits ss (per_signal ss (drop s.width (map is_one bytes))))
        → pick b (take s.width bytes ∷ shown_bytes ss (drop s.width bytes)) (shown_bytes ss (drop s.width bytes))
        ≡ bytes_of (pick b (take s.width (map is_one bytes) ∷ shown_bits ss (per_signal ss (drop s.width (map is_one bytes)))) (shown_bits ss (per_signal ss (drop s.width (map is_one bytes)))))
    go true p q = ap₂ (λ (x : List ℕ) (l : List (List ℕ)). x ∷ l) p q
    go false p q = q

-- bytes that pass the test are bits, and bits pass it
pub bits_pass : (k : ℕ) (bytes : List ℕ) → AllBits bytes → no_bit k bytes ≡ None
bits_pass k [] h = refl
bits_pass k (b ∷ bytes) h = ap (λ (t : Bool). pick t (no_bit (suc k) bytes) (Some (14, k))) (borrow.Author.Tests.le-leb b 1 h.0) ∙ bits_pass (suc k) bytes h.1

-- THE PORTS

-- no output port among these
abbrev pub NoneShown : List Signal → Type 0
NoneShown ss = Each (λ (s : Signal). eqb s.label 1 ≡ false) ss

none_shown : (ss : List Signal) (t : List Bits) → NoneShown ss → shown_bits ss t ≡ []
none_shown [] t h = refl
none_shown (s ∷ ss) [] h = refl
none_shown (s ∷ ss) (v ∷ t) h = ap (λ (b : Bool). pick b (v ∷ shown_bits ss t) (shown_bits ss t)) h.0 ∙ none_shown ss t h.1

pub ports_shown : (ports : List Port) (p : ℕ) (rest : List Signal) (t : List Bits) (σ : Signals) (m : Wires) → ((i : ℕ) → get_or t i [] ≡ σ (p + i)) → length t ≡ length (port_signals p ports ++ rest) → NoneShown rest → Shown σ m p ports
    → shown_bits (port_signals p ports ++ rest) t ≡ map (values (held σ m)) (output_ports ports)
ports_shown [] p rest t σ m e l h s = none_shown rest t h
ports_shown (x ∷ ports) p rest [] σ m e l h s = absurd (omega (arith, l))
ports_shown (x ∷ ports) p rest (v ∷ t) σ m e l h s =
    go (eqb x.direction 1) s.0 (ports_shown ports (suc p) rest t σ m (λ i. e (suc i) ∙ ap σ (let z : p + suc i ≡ suc p + i = omega arith in z)) (omega (arith, l)) h s.1)
  where
    here_is : v ≡ σ p
    here_is = e 0 ∙ ap σ (let z : p + 0 ≡ p = omega arith in z)

    go : (b : Bool) → (b ≡ true → σ p ≡ values_at (held σ m) x.bits 0 (length x.bits)) → shown_bits (port_signals (suc p) ports ++ rest) t ≡ map (values (held σ m)) (output_ports ports)
        → shown_bits (pick b (signal_of 1 (length x.bits) p) (signal_of 0 (length x.bits) p) ∷ (port_signals (suc p) ports ++ rest)) (v ∷ t) ≡ map (values (held σ m)) (pick b (x.bits ∷ output_ports ports) (output_ports ports))
    go true f q = ap₂ (λ (a : Bits) (l : List Bits). a ∷ l) (here_is ∙ f refl ∙ values_all (held σ m) x.bits) q
    go false f q = q

-- AT THE START

-- the first k of a list are all v
abbrev pub Same : {A : Type 0} → A → ℕ → List A → Type 0
Same v k l = take k l ≡ replicate k v

module _ {A : Type 0} (v : A) where
  same_tail : (k : ℕ) (a : A) (l : List A) → Same v (suc k) (a ∷ l) → (a ≡ v) × Same v k l
  same_tail k a l h = let y : a ≡ v = cc in let z : take k l ≡ replicate k v = cc in (y, z)

  pub same_split : (j k : ℕ) (l : List A) → Same v (j + k) l → Same v j l × Same v k (drop j l)
  same_split zero k l h = (refl, subst (λ (i : ℕ). Same v i l) (let z : 0 + k ≡ k = omega arith in z) h)
  same_split (suc j) k [] h = let z = subst (λ (i : ℕ). Same v i []) (let e : suc j + k ≡ suc (j + k) = omega arith in e) h in absurd (omega (arith, ap length z))
  same_split (suc j) k (a ∷ l) h =
      let t = same_tail (j + k) a l (subst (λ (i : ℕ). Same v i (a ∷ l)) (let e : suc j + k ≡ suc (j + k) = omega arith in e) h) in
      let r = same_split j k l t.1 in
      (ap₂ ◌∷◌ t.0 r.0, r.1)

pub zero_bytes : (k size : ℕ) → AllBits (take k (replicate size 0))
zero_bytes zero size = tt
zero_bytes (suc k) zero = tt
zero_bytes (suc k) (suc size) = (omega arith, zero_bytes k size)

pub zeros_fresh : (k size : ℕ) → k ≤ size → Same {A = ℕ} 0 k (replicate size 0)
zeros_fresh zero size h = refl
zeros_fresh (suc k) zero h = absurd (omega (arith, h))
zeros_fresh (suc k) (suc size) h = ap (λ (l : List ℕ). 0 ∷ l) (zeros_fresh k size (omega arith))

pub zero_bits : (k : ℕ) (bytes : List ℕ) → Same {A = ℕ} 0 k bytes → Same false k (map is_one bytes)
zero_bits zero bytes h = refl
zero_bits (suc k) [] h = absurd (omega (arith, ap length h))
zero_bits (suc k) (b ∷ bytes) h = let t = same_tail 0 k b bytes h in ap₂ ◌∷◌ (ap is_one t.0) (zero_bits k bytes t.1)

zero_digits : (k : ℕ) → replicate k 0 ≡ map digit (zeros k)
zero_digits zero = refl
zero_digits (suc k) = ap (λ (l : List ℕ). 0 ∷ l) (zero_digits k)

none_bytes : (ss : List Signal) (bytes : List ℕ) → NoneShown ss → shown_bytes ss bytes ≡ []
none_bytes [] bytes h = refl
none_bytes (s ∷ ss) bytes h = ap (λ (b : Bool). pick b (take s.width bytes ∷ shown_bytes ss (drop s.width bytes)) (shown_bytes ss (drop s.width bytes))) h.0 ∙ none_bytes ss (drop s.width bytes) h.1

abbrev wide : List Signal → ℕ
wide ss = total (λ (s : Signal). s.width) ss

pub zeros_shown : (ports : List Port) (p : ℕ) (rest : List Signal) (bytes : List ℕ) → Same {A = ℕ} 0 (wide (port_signals p ports ++ rest)) bytes → NoneShown rest
    → shown_bytes (port_signals p ports ++ rest) bytes ≡ bytes_of (map (λ (bits : List Bit). zeros (length bits)) (output_ports ports))
zeros_shown [] p rest bytes h q = none_bytes rest bytes q
zeros_shown (x ∷ ports) p rest bytes h q = go (λ k. zeros_shown ports (suc p) rest (drop (length x.bits) bytes) k q) (eqb x.direction 1) h
  where
    later : List Signal
    later = port_signals (suc p) ports ++ rest

    go : (Same {A = ℕ} 0 (wide later) (drop (length x.bits) bytes) → shown_bytes later (drop (length x.bits) bytes) ≡ bytes_of (map (λ (bits : List Bit). zeros (length bits)) (output_ports ports)))
        → (b : Bool) → Same {A = ℕ} 0 ((pick b (signal_of 1 (length x.bits) p) (signal_of 0 (length x.bits) p)).width + wide later) bytes
        → shown_bytes (pick b (signal_of 1 (length x.bits) p) (signal_of 0 (length x.bits) p) ∷ later) bytes ≡ bytes_of (map (λ (bits : List Bit). zeros (length bits)) (pick b (x.bits ∷ output_ports ports) (output_ports ports)))
    go ih true k = let h = same_split 0 (length x.bits) (wide later) bytes k in ap₂ (λ (a : List ℕ) (l : List (List ℕ)). a ∷ l) (h.0 ∙ zero_digits (length x.bits)) (ih h.1)
    go ih false k = ih (same_split 0 (length x.bits) (wide later) bytes k).1
