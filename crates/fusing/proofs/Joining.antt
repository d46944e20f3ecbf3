-- Laws of tables over four positions. Assumes nothing.
use Prim.Native.Nat.{ℕ, zero, suc, ◌+◌, ◌-◌, ◌*◌, ◌/◌, ◌%◌, ◌^◌, ◌≤◌, ◌<◌}
use mathlib.Core.Path.{◌≡◌, refl, sym, ◌∙◌, ap, ap₂, subst}
use mathlib.Core.Bool.{Bool, true, false, not, ◌&&◌, ◌||◌}
use mathlib.Core.List.{List, [], ◌∷◌}
use lib.ListN.{get_or}
use native.Mathlib.Omega.{arith}
use native.Mathlib.Nat.{pow-succ', zero-add, add-zero}
use lib.Dec.{eqb}
use lib.Pow.{pow_mono}
use borrow.Author.Tests.{eqb-true, eq-eqb, ne_eqb}
use Rattle.bits.specs.Bits.{pick, digit, binary, same, same_bits, table_bit}
use Rattle.bits.proofs.TableBits.{bit_first, bit_next, bit_none, bit_ones}
use Rattle.settle.specs.Tests.{and_left, and_right}
use Rattle.fusing.specs.declared.join.Lut.{Lut}
use Rattle.fusing.specs.Form.{Form, row, form_bit}
use Rattle.fusing.specs.Join.{form_of, gate_bit, look_in, among, row_of, row_bit, Tabled, flat_table, Covers, Alone, Joins, bits_from, Matches}

-- BITS AS NUMBERS

pub digit_small : (b : Bool) → digit b < 2
digit_small true = omega arith
digit_small false = omega arith

pub one_digit : (b : Bool) → eqb (digit b) 1 ≡ b
one_digit true = refl
one_digit false = refl

digit_back : (n : ℕ) → n < 2 → n ≡ digit (eqb n 1)
digit_back zero h = refl
digit_back (suc zero) h = refl
digit_back (suc (suc n)) h = absurd (omega arith)

pub low_bit : (n : ℕ) → n % 2 ≡ digit (eqb (n % 2) 1)
low_bit n = digit_back (n % 2) (omega arith)

-- GATES

pub gate_is : (k kind : ℕ) (b p q r z : Bool) → kind ≡ k → p ≡ b → z ≡ gate_bit k b q r → z ≡ gate_bit kind p q r
gate_is k kind b p q r z hk hp h = h ∙ ap₂ (λ (n : ℕ) (y : Bool). gate_bit n y q r) (sym hk) (sym hp)

pub gate_else : (kind : ℕ) (p q r : Bool) → (kind ≡ 4 → ⊥) → (kind ≡ 5 → ⊥) → (kind ≡ 6 → ⊥) → (kind ≡ 7 → ⊥) → (kind ≡ 8 → ⊥) → not p ≡ gate_bit kind p q r
gate_else kind p q r h4 h5 h6 h7 h8 = rw (ne_eqb kind 7 h7, ne_eqb kind 8 h8, ne_eqb kind 4 h4, ne_eqb kind 5 h5, ne_eqb kind 6 h6)

-- ROWS

module _ (s : List ℕ) (i p : ℕ) where
  pub look_a : p ≡ get_or s 0 0 → i % 2 ≡ digit (look_in s i p)
  look_a h = rw (eq-eqb p (get_or s 0 0) h) (low_bit i)

  module _ (na : p ≡ get_or s 0 0 → ⊥) where
    pub look_b : p ≡ get_or s 1 0 → i / 2 % 2 ≡ digit (look_in s i p)
    look_b h = rw (ne_eqb p (get_or s 0 0) na, eq-eqb p (get_or s 1 0) h) (low_bit (i / 2))

    module _ (nb : p ≡ get_or s 1 0 → ⊥) where
      pub look_c : p ≡ get_or s 2 0 → i / 4 % 2 ≡ digit (look_in s i p)
      look_c h = rw (ne_eqb p (get_or s 0 0) na, ne_eqb p (get_or s 1 0) nb, eq-eqb p (get_or s 2 0) h) (low_bit (i / 4))

      module _ (nc : p ≡ get_or s 2 0 → ⊥) where
        pub look_d : p ≡ get_or s 3 0 → i / 8 % 2 ≡ digit (look_in s i p)
        look_d h = rw (ne_eqb p (get_or s 0 0) na, ne_eqb p (get_or s 1 0) nb, ne_eqb p (get_or s 2 0) nc, eq-eqb p (get_or s 3 0) h) (low_bit (i / 8))

        pub look_none : (p ≡ get_or s 3 0 → ⊥) → 0 ≡ digit (look_in s i p)
        look_none nd = rw (ne_eqb p (get_or s 0 0) na, ne_eqb p (get_or s 1 0) nb, ne_eqb p (get_or s 2 0) nc, ne_eqb p (get_or s 3 0) nd)

pub row_small : (a b c d : Bool) → digit a + 2 * digit b + 4 * digit c + 8 * digit d < 16
row_small a b c d = omega (arith, digit_small a, digit_small b, digit_small c, digit_small d)

pub row_under : (x : ℕ → Bool) (f : Form) → row x f < 16
row_under x f = row_small (x f.first) (x f.second) (x f.third) (x f.fourth)

-- the bit at a position of the row that some bits make is the bit there
module _ (s : List ℕ) (x : ℕ → Bool) where
  abbrev n : ℕ
  n = row_of x s

  at_a : eqb (row_of x s % 2) 1 ≡ x (get_or s 0 0)
  at_a =
      let e : n % 2 ≡ digit (x (get_or s 0 0)) = omega (arith, digit_small (x (get_or s 0 0)), digit_small (x (get_or s 1 0)), digit_small (x (get_or s 2 0)), digit_small (x (get_or s 3 0))) in
      ap (λ (k : ℕ). eqb k 1) e ∙ one_digit (x (get_or s 0 0))

  at_b : eqb (row_of x s / 2 % 2) 1 ≡ x (get_or s 1 0)
  at_b =
      let e : n / 2 % 2 ≡ digit (x (get_or s 1 0)) = omega (arith, digit_small (x (get_or s 0 0)), digit_small (x (get_or s 1 0)), digit_small (x (get_or s 2 0)), digit_small (x (get_or s 3 0))) in
      ap (λ (k : ℕ). eqb k 1) e ∙ one_digit (x (get_or s 1 0))

  at_c : eqb (row_of x s / 4 % 2) 1 ≡ x (get_or s 2 0)
  at_c =
      let e : n / 4 % 2 ≡ digit (x (get_or s 2 0)) = omega (arith, digit_small (x (get_or s 0 0)), digit_small (x (get_or s 1 0)), digit_small (x (get_or s 2 0)), digit_small (x (get_or s 3 0))) in
      ap (λ (k : ℕ). eqb k 1) e ∙ one_digit (x (get_or s 2 0))

  at_d : eqb (row_of x s / 8 % 2) 1 ≡ x (get_or s 3 0)
  at_d =
      let e : n / 8 % 2 ≡ digit (x (get_or s 3 0)) = omega (arith, digit_small (x (get_or s 0 0)), digit_small (x (get_or s 1 0)), digit_small (x (get_or s 2 0)), digit_small (x (get_or s 3 0))) in
      ap (λ (k : ℕ). eqb k 1) e ∙ one_digit (x (get_or s 3 0))

  step : (p a : ℕ) (here rest : Bool) → here ≡ x a → (eqb p a ≡ false → rest ≡ x p) → pick (eqb p a) here rest ≡ x p
  step p a here rest h g = go (eqb p a) refl
    where
      go : (b : Bool) → eqb p a ≡ b → pick b here rest ≡ x p
      go true e = h ∙ ap x (sym (eqb-true p a e))
      go false e = g e

  none_false : (a b c d : Bool) → (a || b || c || d) ≡ true → a ≡ false → b ≡ false → c ≡ false → d ≡ false → ⊥
  none_false a b c d h ha hb hc hd = let z : ◌≡◌ {A = Bool} false true = (rw (ha, hb, hc, hd) at h) in let y : ◌≡◌ {A = ℕ} 0 1 = cc in omega arith

  pub found : (p : ℕ) → among s p ≡ true → look_in s (row_of x s) p ≡ x p
  found p h =
      step p (get_or s 0 0) _ _ at_a
      (λ ea. step p (get_or s 1 0) _ _ at_b
      (λ eb. step p (get_or s 2 0) _ _ at_c
      (λ ec. step p (get_or s 3 0) _ _ at_d
      (λ ed. absurd (none_false (eqb p (get_or s 0 0)) (eqb p (get_or s 1 0)) (eqb p (get_or s 2 0)) (eqb p (get_or s 3 0)) h ea eb ec ed)))))

-- WHAT A TABLE SHOWS

same_row : (a b c d a' b' c' d' : Bool) → a ≡ a' → b ≡ b' → c ≡ c' → d ≡ d' → digit a + 2 * digit b + 4 * digit c + 8 * digit d ≡ digit a' + 2 * digit b' + 4 * digit c' + 8 * digit d'
same_row a b c d a' b' c' d' ha hb hc hd = cc

flat_at : (t i : ℕ) → flat_table t ≡ true → i < 16 → table_bit t i ≡ eqb t 65535
flat_at t i h q = go (eqb t 0) refl (eqb t 65535) refl
  where
    go : (b : Bool) → eqb t 0 ≡ b → (d : Bool) → eqb t 65535 ≡ d → table_bit t i ≡ eqb t 65535
    go true e d f =
        let z : t ≡ 0 = eqb-true t 0 e in
        ap (λ (n : ℕ). table_bit n i) z ∙ bit_none i ∙ ap (λ (n : ℕ). eqb n 65535) (sym z)
    go false e true f =
        let z : t ≡ 65535 = eqb-true t 65535 f in
        ap (λ (n : ℕ). table_bit n i) z ∙ bit_ones 16 i q ∙ sym f
    go false e false f = absurd (let z : ◌≡◌ {A = Bool} false true = (rw (e, f) at h) in let y : ◌≡◌ {A = ℕ} 0 1 = cc in omega arith)

module _ (s : List ℕ) (v : Lut) where
  pub covers_flat : flat_table v.table ≡ true → Covers s v
  covers_flat h = record {
    covers = λ x. flat_at v.table (row (look_in s (row_of x s)) (form_of v)) h (row_under (look_in s (row_of x s)) (form_of v)) ∙ sym (flat_at v.table (row x (form_of v)) h (row_under x (form_of v)));
  }

  pub covers_all : among s (get_or v.inputs 0 0) ≡ true → among s (get_or v.inputs 1 0) ≡ true → among s (get_or v.inputs 2 0) ≡ true → among s (get_or v.inputs 3 0) ≡ true → Covers s v
  covers_all ha hb hc hd = record {
    covers = λ x. ap (table_bit v.table) (same_row _ _ _ _ _ _ _ _ (found s x (get_or v.inputs 0 0) ha) (found s x (get_or v.inputs 1 0) hb) (found s x (get_or v.inputs 2 0) hc) (found s x (get_or v.inputs 3 0) hd));
  }

alone_bit : (b : Bool) → table_bit 43690 (digit b + 2 * digit b + 4 * digit b + 8 * digit b) ≡ b
alone_bit true = refl
alone_bit false = refl

pub is_alone : (p : ℕ) (v : Lut) → v.table ≡ 43690 → get_or v.inputs 0 0 ≡ p → get_or v.inputs 1 0 ≡ p → get_or v.inputs 2 0 ≡ p → get_or v.inputs 3 0 ≡ p → Alone p v
is_alone p v t a b c d = record {
  alone = λ x. ap₂ table_bit t (same_row _ _ _ _ _ _ _ _ (ap x a) (ap x b) (ap x c) (ap x d)) ∙ alone_bit (x p);
}

-- A TABLE, ROW BY ROW FROM THE LAST

pub tabled_start : (f : ℕ → Bool) → Tabled f 0 16
tabled_start f = record { rows = λ j h. absurd (omega arith); small = omega arith }

pub tabled_fits : {f : ℕ → Bool} {t i : ℕ} → Tabled f t i → t < 65536
tabled_fits {f} {t} {i} h = let k : 2 ^ (16 - i) ≤ 2 ^ 16 = pow_mono {i = 16 - i} {j = 16} (omega arith) in omega (arith, h.small)

pub tabled_next : {f : ℕ → Bool} {t i : ℕ} → Tabled f t (suc i) → i < 16 → (u : ℕ) → u ≡ digit (f i) + 2 * t → Tabled f u i
tabled_next {f} {t} {i} h q u e = record { rows = rows_from; small = still_small }
  where
    low : u % 2 ≡ digit (f i)
    low = omega (arith, digit_small (f i))

    high : u / 2 ≡ t
    high = omega (arith, digit_small (f i))

    rows_from : (j : ℕ) → i + j < 16 → table_bit u j ≡ f (i + j)
    rows_from zero k = bit_first u ∙ ap (λ (n : ℕ). eqb n 1) low ∙ one_digit (f i) ∙ ap f (sym (add-zero i))
    rows_from (suc j) k =
        let z : suc i + j ≡ i + suc j = omega arith in
        bit_next u j ∙ ap (λ (n : ℕ). table_bit n j) high ∙ h.rows j (omega arith) ∙ ap f z

    still_small : u < 2 ^ (16 - i)
    still_small =
        let z : 16 - i ≡ suc (16 - suc i) = omega arith in
        subst (λ (n : ℕ). u < 2 ^ n) (sym z) (omega (arith, h.small, digit_small (f i), pow-succ' 2 (16 - suc i)))

-- the row below
pub tabled_below : {f : ℕ → Bool} {t i : ℕ} → Tabled f t i → i ≤ 16 → 0 < i → (u : ℕ) (b : Bool) → b ≡ f (i - 1) → u ≡ digit b + 2 * t → Tabled f u (i - 1)
tabled_below {f} {t} {i} h q k u b hb hu =
    let z : i ≡ suc (i - 1) = omega arith in
    tabled_next (subst (λ (n : ℕ). Tabled f t n) z h) (omega arith) u (hu ∙ ap (λ (y : Bool). digit y + 2 * t) hb)

pub tabled_done : {f : ℕ → Bool} {t i : ℕ} → Tabled f t i → i ≤ 0 → Tabled f t 0
tabled_done {f} {t} {i} h q =
    let z : i ≡ 0 = omega arith in
    subst (λ (n : ℕ). Tabled f t n) z h

pub tabled_joins : (kind : ℕ) (s : List ℕ) (p q r z : Lut) → Tabled (row_bit kind s p q r) z.table 0 → Covers s p → Covers s q → Covers s r → get_or z.inputs 0 0 ≡ get_or s 0 0 → get_or z.inputs 1 0 ≡ get_or s 1 0 → get_or z.inputs 2 0 ≡ get_or s 2 0 → get_or z.inputs 3 0 ≡ get_or s 3 0 → Joins kind p q r z
tabled_joins kind s p q r z t cp cq cr ha hb hc hd = record {
  joins = λ x.
      ap (table_bit z.table) (same_row _ _ _ _ _ _ _ _ (ap x ha) (ap x hb) (ap x hc) (ap x hd))
      ∙ t.rows (row_of x s) (omega (arith, row_small (x (get_or s 0 0)) (x (get_or s 1 0)) (x (get_or s 2 0)) (x (get_or s 3 0))))
      ∙ ap (row_bit kind s p q r) (zero-add (row_of x s))
      ∙ ap₂ (λ (a b : Bool). gate_bit kind a b (form_bit (look_in s (row_of x s)) (form_of r))) (cp.covers x) (cq.covers x)
      ∙ ap (λ (c : Bool). gate_bit kind (form_bit x (form_of p)) (form_bit x (form_of q)) c) (cr.covers x);
}

-- ONE FUNCTION'S STEPS

pub not_both : (b : Bool) → b ≡ true → b ≡ false → ⊥
not_both b h k = let z : ◌≡◌ {A = Bool} false true = sym k ∙ h in let y : ◌≡◌ {A = ℕ} 0 1 = cc in omega arith

pub among_a : (s : List ℕ) (p : ℕ) → p ≡ get_or s 0 0 → true ≡ among s p
among_a s p h = rw (eq-eqb p (get_or s 0 0) h)

pub among_b : (s : List ℕ) (p : ℕ) → (p ≡ get_or s 0 0 → ⊥) → p ≡ get_or s 1 0 → true ≡ among s p
among_b s p na h = rw (ne_eqb p (get_or s 0 0) na, eq-eqb p (get_or s 1 0) h)

pub among_c : (s : List ℕ) (p : ℕ) → (p ≡ get_or s 0 0 → ⊥) → (p ≡ get_or s 1 0 → ⊥) → p ≡ get_or s 2 0 → true ≡ among s p
among_c s p na nb h = rw (ne_eqb p (get_or s 0 0) na, ne_eqb p (get_or s 1 0) nb, eq-eqb p (get_or s 2 0) h)

pub among_d : (s : List ℕ) (p : ℕ) → (p ≡ get_or s 0 0 → ⊥) → (p ≡ get_or s 1 0 → ⊥) → (p ≡ get_or s 2 0 → ⊥) → eqb p (get_or s 3 0) ≡ among s p
among_d s p na nb nc = rw (ne_eqb p (get_or s 0 0) na, ne_eqb p (get_or s 1 0) nb, ne_eqb p (get_or s 2 0) nc)

pub flat_zero : (t : ℕ) → t ≡ 0 → true ≡ flat_table t
flat_zero t h = rw (eq-eqb t 0 h)

pub flat_ones : (t : ℕ) → (t ≡ 0 → ⊥) → eqb t 65535 ≡ flat_table t
flat_ones t h = rw (ne_eqb t 0 h)

-- what row i shows, from what it has at the four positions
pub shown : (x : ℕ → Bool) (v : Lut) (a b c d : ℕ) (z : Bool) → a ≡ digit (x (get_or v.inputs 0 0)) → b ≡ digit (x (get_or v.inputs 1 0)) → c ≡ digit (x (get_or v.inputs 2 0)) → d ≡ digit (x (get_or v.inputs 3 0)) → z ≡ table_bit v.table (a + 2 * b + 4 * c + 8 * d) → z ≡ form_bit x (form_of v)
shown x v a b c d z ha hb hc hd hz = hz ∙ ap (table_bit v.table) (cc)

pub row_is : (kind : ℕ) (s : List ℕ) (p q r : Lut) (i : ℕ) (x y z w : Bool) → x ≡ form_bit (look_in s i) (form_of p) → y ≡ form_bit (look_in s i) (form_of q) → z ≡ form_bit (look_in s i) (form_of r) → w ≡ gate_bit kind x y z → w ≡ row_bit kind s p q r i
row_is kind s p q r i x y z w hx hy hz hw = hw ∙ ap₂ (λ (a b : Bool). gate_bit kind a b z) hx hy ∙ ap (gate_bit kind (form_bit (look_in s i) (form_of p)) (form_bit (look_in s i) (form_of q))) hz

-- A COMPARISON WITH A NUMBER

-- a test of bits that holds for all of them
abbrev both : (Bool → Bool) → Bool
both f = f true && f false

abbrev both2 : (Bool → Bool → Bool) → Bool
both2 f = both (λ a. both (f a))

abbrev both4 : (Bool → Bool → Bool → Bool → Bool) → Bool
both4 f = both2 (λ a b. both2 (f a b))

for_each : (f : Bool → Bool) → both f ≡ true → (b : Bool) → f b ≡ true
for_each f h true = and_left (f true) (f false) h
for_each f h false = and_right (f true) (f false) h

for_each2 : (f : Bool → Bool → Bool) → both2 f ≡ true → (a b : Bool) → f a b ≡ true
for_each2 f h a b = for_each (f a) (for_each (λ (x : Bool). both (f x)) h a) b

for_each4 : (f : Bool → Bool → Bool → Bool → Bool) → both4 f ≡ true → (a b c d : Bool) → f a b c d ≡ true
for_each4 f h a b c d = for_each2 (f a b) (for_each2 (λ (x y : Bool). both2 (f x y)) h a b) c d

for_each8 : (f : Bool → Bool → Bool → Bool → Bool → Bool → Bool → Bool → Bool) → both4 (λ p q r s. both4 (f p q r s)) ≡ true → (p q r s a b c d : Bool) → f p q r s a b c d ≡ true
for_each8 f h p q r s a b c d = for_each4 (f p q r s) (for_each4 (λ (p q r s : Bool). both4 (f p q r s)) h p q r s) a b c d

agree : (x y : Bool) → same x y ≡ true → x ≡ y
agree true true h = refl
agree true false h = sym h
agree false true h = h
agree false false h = refl

-- row a b c d of the table t moved up by a number of bits
abbrev moved : ℕ → ℕ → Bool → Bool → Bool → Bool → Bool
moved t n a b c d = table_bit (t * 2 ^ n % 2 ^ 32) (digit a + 2 * digit b + 4 * digit c + 8 * digit d)

two_rows : (p q a b c d : Bool) → moved 4369 (digit p + 2 * digit q) a b c d ≡ same_bits (a ∷ b ∷ []) (p ∷ q ∷ [])
two_rows p q a b c d = agree _ _ (for_each8 (λ (p q r s a b c d : Bool). same (moved 4369 (digit p + 2 * digit q) a b c d) (same_bits (a ∷ b ∷ []) (p ∷ q ∷ []))) refl p q true true a b c d)

three_rows : (p q r a b c d : Bool) → moved 257 (digit p + 2 * digit q + 4 * digit r) a b c d ≡ same_bits (a ∷ b ∷ c ∷ []) (p ∷ q ∷ r ∷ [])
three_rows p q r a b c d = agree _ _ (for_each8 (λ (p q r s a b c d : Bool). same (moved 257 (digit p + 2 * digit q + 4 * digit r) a b c d) (same_bits (a ∷ b ∷ c ∷ []) (p ∷ q ∷ r ∷ []))) refl p q r true a b c d)

four_rows : (p q r s a b c d : Bool) → moved 1 (digit p + 2 * digit q + 4 * digit r + 8 * digit s) a b c d ≡ same_bits (a ∷ b ∷ c ∷ d ∷ []) (p ∷ q ∷ r ∷ s ∷ [])
four_rows p q r s a b c d = agree _ _ (for_each8 (λ (p q r s a b c d : Bool). same (moved 1 (digit p + 2 * digit q + 4 * digit r + 8 * digit s) a b c d) (same_bits (a ∷ b ∷ c ∷ d ∷ []) (p ∷ q ∷ r ∷ s ∷ []))) refl p q r s a b c d)

module _ (w v p : ℕ) (z : Lut) where
  abbrev bit : ℕ → Bool
  bit n = eqb (n % 2) 1

  module _ (ha : get_or z.inputs 0 0 ≡ p) (hb : get_or z.inputs 1 0 ≡ p + 1) where
    at_first : (x : ℕ → Bool) → x (get_or z.inputs 0 0) ≡ x p
    at_first x = ap x ha

    at_second : (x : ℕ → Bool) → x (get_or z.inputs 1 0) ≡ x (suc p)
    at_second x = let e : get_or z.inputs 1 0 ≡ suc p = omega arith in ap x e

    pub matches_two : w ≡ 2 → z.table ≡ 4369 * 2 ^ (v % 4) % 2 ^ 32 → Matches w v p z
    matches_two hw ht = record {
      matches = λ x.
          let n : v % 4 ≡ digit (bit v) + 2 * digit (bit (v / 2)) = omega (arith, low_bit v, low_bit (v / 2)) in
          ap (λ (t : ℕ). table_bit t (row x (form_of z))) (ht ∙ ap (λ (k : ℕ). 4369 * 2 ^ k % 2 ^ 32) n)
          ∙ two_rows (bit v) (bit (v / 2)) (x (get_or z.inputs 0 0)) (x (get_or z.inputs 1 0)) (x (get_or z.inputs 2 0)) (x (get_or z.inputs 3 0))
          ∙ ap₂ (λ (a b : Bool). same_bits (a ∷ b ∷ []) (binary 2 v)) (at_first x) (at_second x)
          ∙ ap (λ (k : ℕ). same_bits (bits_from x p k) (binary k v)) (sym hw);
    }

    module _ (hc : get_or z.inputs 2 0 ≡ p + 2) where
      at_third : (x : ℕ → Bool) → x (get_or z.inputs 2 0) ≡ x (suc (suc p))
      at_third x = let e : get_or z.inputs 2 0 ≡ suc (suc p) = omega arith in ap x e

      pub matches_three : w ≡ 3 → z.table ≡ 257 * 2 ^ (v % 8) % 2 ^ 32 → Matches w v p z
      matches_three hw ht = record {
        matches = λ x.
            let n : v % 8 ≡ digit (bit v) + 2 * digit (bit (v / 2)) + 4 * digit (bit (v / 2 / 2)) = omega (arith, low_bit v, low_bit (v / 2), low_bit (v / 2 / 2)) in
            ap (λ (t : ℕ). table_bit t (row x (form_of z))) (ht ∙ ap (λ (k : ℕ). 257 * 2 ^ k % 2 ^ 32) n)
            ∙ three_rows (bit v) (bit (v / 2)) (bit (v / 2 / 2)) (x (get_or z.inputs 0 0)) (x (get_or z.inputs 1 0)) (x (get_or z.inputs 2 0)) (x (get_or z.inputs 3 0))
            ∙ ap₂ (λ (a b : Bool). same_bits (a ∷ b ∷ x (get_or z.inputs 2 0) ∷ []) (binary 3 v)) (at_first x) (at_second x)
            ∙ ap (λ (c : Bool). same_bits (x p ∷ x (suc p) ∷ c ∷ []) (binary 3 v)) (at_third x)
            ∙ ap (λ (k : ℕ). same_bits (bits_from x p k) (binary k v)) (sym hw);
      }

      pub matches_four : get_or z.inputs 3 0 ≡ p + 3 → w ≡ 4 → z.table ≡ 1 * 2 ^ (v % 16) % 2 ^ 32 → Matches w v p z
      matches_four hd hw ht = record {
        matches = λ x.
            let n : v % 16 ≡ digit (bit v) + 2 * digit (bit (v / 2)) + 4 * digit (bit (v / 2 / 2)) + 8 * digit (bit (v / 2 / 2 / 2)) = omega (arith, low_bit v, low_bit (v / 2), low_bit (v / 2 / 2), low_bit (v / 2 / 2 / 2)) in
            let e : get_or z.inputs 3 0 ≡ suc (suc (suc p)) = omega arith in
            ap (λ (t : ℕ). table_bit t (row x (form_of z))) (ht ∙ ap (λ (k : ℕ). 1 * 2 ^ k % 2 ^ 32) n)
            ∙ four_rows (bit v) (bit (v / 2)) (bit (v / 2 / 2)) (bit (v / 2 / 2 / 2)) (x (get_or z.inputs 0 0)) (x (get_or z.inputs 1 0)) (x (get_or z.inputs 2 0)) (x (get_or z.inputs 3 0))
            ∙ ap₂ (λ (a b : Bool). same_bits (a ∷ b ∷ x (get_or z.inputs 2 0) ∷ x (get_or z.inputs 3 0) ∷ []) (binary 4 v)) (at_first x) (at_second x)
            ∙ ap₂ (λ (c d : Bool). same_bits (x p ∷ x (suc p) ∷ c ∷ d ∷ []) (binary 4 v)) (at_third x) (ap x e)
            ∙ ap (λ (k : ℕ). same_bits (bits_from x p k) (binary k v)) (sym hw);
      }
