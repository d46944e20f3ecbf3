-- Record k of a list of words: where it stands, and its fields in the words.
use Prim.Native.Nat.{ℕ, zero, suc, ◌+◌, ◌-◌, ◌≤◌, ◌<◌}
use mathlib.Core.Path.{◌≡◌, refl, sym, ◌∙◌, ap, subst}
use mathlib.Core.Bool.{Bool, true, false}
use mathlib.Core.List.{List, [], ◌∷◌}
use native.Mathlib.Omega.{arith}
use native.Mathlib.Nat.{add-zero}
use native.Mathlib.Decide.{ℕ_discrete}
use lib.Dec.{leb}
use lib.ListN.{length, get_or, take, drop}
use lib.Seq.{get_or-drop}
use Rattle.bits.specs.Bits.{pick}
use Rattle.recorder.specs.declared.Cut.{Cut}
use Rattle.recorder.specs.declared.Cut.TheVariants.{Record, Broken}
use Rattle.recorder.specs.Standing.{standing, cut_at}
use Rattle.simulation.specs.Index.{size_of, size_at, records_in, start_of}
use Rattle.simulation.proofs.Steps.{Walked, walked_start, walked_within, walked_fields, walked_next, walked_out}
use Rattle.simulation.proofs.Offsets.{fields_count, field_in}

-- a record begins with its length
word_standing : (r : List ℕ) (c : Cut) → standing r ≡ c → (size_of c ≡ 0 → ⊥) → get_or r 0 0 ≡ size_of c
word_standing [] c p d = let z : size_of c ≡ 0 = ap size_of (sym p) in absurd (d z)
word_standing (zero ∷ r) c p d = let z : size_of c ≡ 0 = ap size_of (sym p) in absurd (d z)
word_standing (suc m ∷ r) c p d = by (leb m (length r)) p
  where
    by : (b : Bool) → pick b (Record m) Broken ≡ c → suc m ≡ size_of c
    by true q = let z : size_of c ≡ m + 1 = ap size_of (sym q) in omega arith
    by false q = let z : size_of c ≡ 0 = ap size_of (sym q) in absurd (d z)

word_at : (l : List ℕ) (at : ℕ) → (size_at l at ≡ 0 → ⊥) → get_or l at 0 ≡ size_at l at
unfolding cut_at
word_at l at d = ap (λ (j : ℕ). get_or l j 0) (sym (add-zero at)) ∙ sym (get_or-drop at l 0 0) ∙ word_standing (drop at l) (cut_at l at) refl d

module _ (l : List ℕ) where
  walked_to : (k : ℕ) → k < length (records_in l) → Walked l (start_of l k) k
  walked_to zero h = subst (λ (at : ℕ). Walked l at 0) (walked_start l).begins (walked_start l)
  walked_to (suc k) h = go (walked_to k (omega arith)) (ℕ_discrete (size_at l (start_of l k)) 0)
    where
      go : Walked l (start_of l k) k → Dec (size_at l (start_of l k) ≡ 0) → Walked l (start_of l (suc k)) (suc k)
      go w (yes z) = absurd (let q = walked_out w (size_at l (start_of l k)) refl z in omega (arith, q, h))
      go w (no d) =
          let v = walked_next w (size_at l (start_of l k)) refl d in
          let e : k + 1 ≡ suc k = omega arith in
          let u : Walked l (start_of l k + size_at l (start_of l k)) (suc k) = subst (λ (j : ℕ). Walked l (start_of l k + size_at l (start_of l k)) j) e v in
          subst (λ (at : ℕ). Walked l at (suc k)) u.begins u

  module _ (k : ℕ) (h : k < length (records_in l)) where
    some_size : size_at l (start_of l k) ≡ 0 → ⊥
    some_size z = let q = walked_out (walked_to k h) (size_at l (start_of l k)) refl z in omega (arith, q, h)

    -- its length stands first, and all of it inside the list
    pub record_word : get_or l (start_of l k) 0 ≡ length (get_or (records_in l) k []) + 1
    record_word =
        let f = ap length (walked_fields (walked_to k h) (size_at l (start_of l k)) refl some_size) in
        let c = fields_count l (start_of l k) (size_at l (start_of l k)) (walked_within (walked_to k h) (size_at l (start_of l k)) refl some_size) in
        let w = word_at l (start_of l k) some_size in
        let n : (size_at l (start_of l k) ≡ 0) → ⊥ = some_size in
        omega (arith, f, c, w, n)

    pub record_inside : start_of l k + (length (get_or (records_in l) k []) + 1) ≤ length l
    record_inside =
        let f = ap length (walked_fields (walked_to k h) (size_at l (start_of l k)) refl some_size) in
        let i = walked_within (walked_to k h) (size_at l (start_of l k)) refl some_size in
        let c = fields_count l (start_of l k) (size_at l (start_of l k)) i in
        let n : (size_at l (start_of l k) ≡ 0) → ⊥ = some_size in
        omega (arith, f, c, i, n)

    pub record_fields : get_or (records_in l) k [] ≡ take (length (get_or (records_in l) k [])) (drop (start_of l k + 1) l)
    record_fields =
        let f = walked_fields (walked_to k h) (size_at l (start_of l k)) refl some_size in
        let i = walked_within (walked_to k h) (size_at l (start_of l k)) refl some_size in
        let c = fields_count l (start_of l k) (size_at l (start_of l k)) i in
        let e : size_at l (start_of l k) - 1 ≡ length (get_or (records_in l) k []) = sym (ap length f ∙ c) in
        f ∙ ap (λ (n : ℕ). take n (drop (start_of l k + 1) l)) e

    -- field j stands j + 1 words behind the first
    pub record_field : (j : ℕ) → j < length (get_or (records_in l) k []) → get_or l (start_of l k + 1 + j) 0 ≡ get_or (get_or (records_in l) k []) j 0
    record_field j q =
        let f = walked_fields (walked_to k h) (size_at l (start_of l k)) refl some_size in
        let c = fields_count l (start_of l k) (size_at l (start_of l k)) (walked_within (walked_to k h) (size_at l (start_of l k)) refl some_size) in
        field_in l (start_of l k) (size_at l (start_of l k)) j (omega (arith, q, ap length f, c)) ∙ ap (λ (r : List ℕ). get_or r j 0) (sym f)
