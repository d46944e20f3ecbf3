-- For the field readers: words past the end, an index that was cut to the number of words, flags, kinds.
use Rattle.std.proofs.Common.{◌≡◌, refl, sym, ◌∙◌, ap, subst, List, [], ◌∷◌, ◌++◌, Bool, true, false, ℕ, zero, suc, ◌+◌, ◌≤◌, ◌<◌, min, length, get_or, leb, leb-true, leb-false, arith}
use Rattle.std.proofs.lemmas.List.{ext_get_or, get_or_past}
use Rattle.std.specs.Prelude.{None, Some}
use Rattle.netlist.specs.declared.Bit.{Bit}
use Rattle.netlist.specs.declared.Bit.TheVariants.{Zero}
use Rattle.netlist.specs.declared.Kind.{Kind}
use Rattle.netlist.specs.Netlist.{bit_of}
use Rattle.netlist.specs.Fields.{records_at, end_at, when_set, word_at, bit_at, bits_at, kind_at, cell_as, cell_at}
use Rattle.netlist.proofs.RecordLaws.{bits_length, bits_get}

pub word_past : (words : List ℕ) (i : ℕ) → length words ≤ i → 0 ≡ word_at words i
word_past words i h = sym (get_or_past words i 0 h)

pub set_absent : {A : Type 0} (n : ℕ) (a : A) → n ≡ 0 → None ≡ when_set n a
set_absent {A} n a e = subst (λ (m : ℕ). None ≡ when_set m a) (sym e) refl

pub set_present : {A : Type 0} (n : ℕ) (a b : A) → (n ≡ 0 → ⊥) → b ≡ a → Some b ≡ when_set n a
set_present zero a b h e = absurd (h refl)
set_present (suc n) a b h e = ap Some e

-- index i is n, or the number of words where n is past them
module _ (words : List ℕ) (n i : ℕ) (cut : i ≡ min n (length words)) where
  pub word_ahead : (k : ℕ) → word_at words (i + k) ≡ word_at words (n + k)
  word_ahead k = go (leb n (length words)) refl
    where
      go : (b : Bool) → leb n (length words) ≡ b → word_at words (i + k) ≡ word_at words (n + k)
      go true e = let h = leb-true n (length words) e in ap (λ (m : ℕ). word_at words m) (omega arith)
      go false e = let h = leb-false n (length words) e in sym (word_past words (i + k) (omega arith)) ∙ word_past words (n + k) (omega arith)

  pub bit_ahead : (k : ℕ) → bit_at words (i + k) ≡ bit_at words (n + k)
  bit_ahead k = ap bit_of (word_ahead k)

  -- bits that were read one by one
  pub bits_filled : (k : ℕ) (bits : List Bit) → length bits ≡ k → ((j : ℕ) → j < k → get_or bits j Zero ≡ bit_at words (i + j)) → bits ≡ bits_at words n k
  bits_filled k bits long each =
      ext_get_or Zero bits (bits_at words n k) (long ∙ sym (bits_length words n k))
      (λ j h. let q : j < k = omega arith in each j q ∙ bit_ahead j ∙ sym (bits_get words n k Zero j q))

-- one record more
pub records_more : {A : Type 0} (value : ℕ → A) (next : ℕ → ℕ) (n i : ℕ) → records_at value next (suc n) i ≡ records_at value next n i ++ (value (end_at next n i) ∷ [])
unfolding records_at end_at
records_more value next zero i = refl
records_more value next (suc n) i = ap (λ (l : List _). value i ∷ l) (records_more value next n (next i))

-- a cell is what its kind says
pub cell_is : (words : List ℕ) (i : ℕ) (k : Kind) → kind_at words i ≡ k → cell_at words i ≡ cell_as words k i
unfolding cell_at
cell_is words i k e = ap (λ (x : Kind). cell_as words x i) e
