-- A loop that reads a vector, the highest bit first: what it has done and what is left.
use mathlib.Core.Path.{◌≡◌, refl, ap, sym, ◌∙◌, subst}
use mathlib.Core.List.{List, [], ◌∷◌, ◌++◌}
use Prim.Native.Nat.{ℕ, ◌+◌, ◌-◌, ◌≤◌, ◌<◌}
use native.Mathlib.Omega.{arith}
use lib.ListN.{length, take, set}
use lib.Seq.{take-suc-set, take-append_seam}
use native.Mathlib.Numerals.{add-one}
use Rattle.std.proofs.lemmas.List.{take-append-le}
use Rattle.std.specs.Prelude.{Result, IsErrAnd}
use Rattle.refusal.specs.declared.Refusal.{Refusal}
use Rattle.refusal.specs.Refusal.{number_of, place_of}
use Rattle.netlist.specs.declared.Bit.{Bit}
use Rattle.recorder.specs.Calls.{ended}
use Rattle.recorder.specs.Writer.{Writer, End, End.ok, End.no, ◌>>=◌}
use Rattle.recorder.proofs.Calls.{handed}
use Rattle.wires.specs.declared.Emitter.{Emitter}
use Rattle.wires.specs.Wires.{Wires, wires_in}
use Rattle.wires.specs.Seen.{Reading, keeping}
use Rattle.wires.specs.Once.{seen_in, Once, Plain}
use Rattle.wires.specs.Expressions.{bit_once, vector_bit, vector_once, concat_parts, roomy}
use Rattle.wires.proofs.Laws.{vector_left, vector_start, vector_more, vector_done, roomy_yes}
use Rattle.wires.proofs.OnceLaws.{once_as, once_answer, plain_keep, GoingOnce, going_once, once_more, once_no_more}

-- parts that were read, in a longer work
pub taken : (parts rest : List ℕ) {n : ℕ} → length parts ≡ n → take n (parts ++ rest) ≡ take n parts
taken parts rest {n} q = take-append-le n parts rest (omega (arith, q))

-- i of end bits, from place at on, have been read, the highest first, and stand in parts
pub record Doing (m : Wires) (bits : List Bit) (at : ℕ) (whole : Writer (Reading ℕ)) (end : ℕ) (e₀ e : Emitter) (i : ℕ) (parts : List ℕ) : Type 0 where
  pub does : GoingOnce e₀ whole e (vector_left m (seen_in e) bits at (end - i) (take i parts))
  pub map : e.map ≡ e₀.map

module _ {m : Wires} {bits : List Bit} {at : ℕ} {whole : Writer (Reading ℕ)} {end : ℕ} {e₀ : Emitter} where
  pub doing_start : (parts : List ℕ) → whole ≡ vector_once m (seen_in e₀) bits at end → Doing m bits at whole end e₀ e₀ 0 parts
  doing_start parts w = record { does = going_once (w ∙ vector_start m bits at (seen_in e₀) end parts); map = refl }

  module _ {e : Emitter} {i : ℕ} {parts : List ℕ} (doing : Doing m bits at whole end e₀ e i parts) where
    module _ (is_map : m ≡ wires_in e₀.map) (more : i < end) (j : ℕ) (here : j ≡ at + (end - 1 - i)) {bit : Bit} (is : bit ≡ vector_bit bits j) where
      abbrev next : Reading ℕ → Writer (Reading ℕ)
      next r = vector_left m r.seen bits at (end - (i + 1)) (take i parts ++ (r.value ∷ []))

      map_is : m ≡ wires_in e.map
      map_is = is_map ∙ sym (ap wires_in doing.map)

      begins : vector_left m (seen_in e) bits at (end - i) (take i parts) ≡ (bit_once (wires_in e.map) (seen_in e) bit >>= next)
      begins =
          let k : end - i - 1 ≡ end - (i + 1) = omega arith in
          let h : at + (end - i - 1) ≡ j = omega (arith, here) in
          vector_more m bits at (seen_in e) (end - i) (take i parts) (omega arith)
          ∙ ap (λ (n : ℕ). bit_once m (seen_in e) (vector_bit bits (at + (end - i - 1))) >>= λ r. vector_left m r.seen bits at n (take i parts ++ (r.value ∷ []))) k
          ∙ ap (λ (b : Bit). bit_once m (seen_in e) b >>= next) (ap (vector_bit bits) h ∙ sym is)
          ∙ ap (λ (w : Wires). bit_once w (seen_in e) bit >>= next) map_is

      pub doing_step : i < length parts → {x : ℕ} {e₁ : Emitter} → Once e (bit_once (wires_in e.map) (seen_in e) bit) (ok x) e₁ → Doing m bits at whole end e₀ e₁ (i + 1) (set parts i x)
      doing_step room {x} {e₁} h = record {
        does = subst (λ (l : List ℕ). GoingOnce e₀ whole e₁ (vector_left m (seen_in e₁) bits at (end - (i + 1)) l)) (sym (ap (λ (n : ℕ). take n (set parts i x)) (add-one i) ∙ take-suc-set parts i x room)) (once_more next doing.does begins h);
        map = h.same.map ∙ doing.map;
      }

      pub doing_err : {C : Type 0} (f : C → ℕ) (q : Result C Refusal) (x : Refusal) → IsErrAnd q (λ y. y ≡ x) → {e₁ : Emitter} → Once e (bit_once (wires_in e.map) (seen_in e) bit) (no (number_of x) (place_of x)) e₁ → Once e₀ whole (ended f q) e₁
      doing_err f q x r h = once_answer (handed f q x r) (once_no_more next doing.does begins h)

    pub doing_end : (parts' : List ℕ) (n : ℕ) → i ≡ end → end ≡ n → n ≤ length parts' → take n parts' ≡ take n parts → {r : End ℕ} {e₁ : Emitter} → Plain e (roomy n parts' (concat_parts (take n parts'))) r e₁ → Once e₀ whole r e₁
    doing_end parts' n z q room p {r} {e₁} h =
        let y : end - i ≡ 0 = omega arith in
        doing.does.ends r e₁
        (once_as
        (vector_done m bits at (seen_in e) (take i parts) y
        ∙ ap (λ (l : List ℕ). keeping (seen_in e) (concat_parts l)) (ap (λ (k : ℕ). take k parts) (z ∙ q) ∙ sym p)
        ∙ ap (keeping (seen_in e)) (sym (roomy_yes n parts' (concat_parts (take n parts')) room)))
        (plain_keep refl h))
