-- Sums of widths, a record's fields, and where it begins. Assumes nothing.
use Prim.Native.Nat.{ℕ, zero, suc, ◌+◌, ◌-◌, ◌≤◌, ◌<◌, min}
use mathlib.Core.Path.{◌≡◌, refl, sym, ◌∙◌, ap}
use mathlib.Core.List.{List, [], ◌∷◌, map}
use native.Mathlib.Omega.{arith}
use native.Mathlib.Numerals.{add-one}
use native.Mathlib.Nat.{not-suc-le-zero}
use lib.ListN.{length, get_or, take, drop, length-drop, length-map, get_or-eq_default}
use lib.Seq.{get_or-take, get_or-drop, length-take-le}
use Rattle.simulation.specs.Index.{offset, start_of, clipped, fields_at, records_in}

pub offset_suc : (ws : List ℕ) (k : ℕ) → offset ws (suc k) ≡ offset ws k + get_or ws k 0
offset_suc [] zero = refl
offset_suc [] (suc k) = refl
offset_suc (w ∷ ws) zero = omega arith
offset_suc (w ∷ ws) (suc k) = omega (arith, offset_suc ws k)

pub offset_next : (ws : List ℕ) (k : ℕ) → offset ws (k + 1) ≡ offset ws k + get_or ws k 0
offset_next ws k = ap (offset ws) (add-one k) ∙ offset_suc ws k

pub offset_past : (ws : List ℕ) (k : ℕ) → length ws ≤ k → offset ws k ≡ offset ws (length ws)
offset_past [] zero h = refl
offset_past [] (suc k) h = refl
offset_past (w ∷ ws) zero h = absurd (not-suc-le-zero h)
offset_past (w ∷ ws) (suc k) h = ap (λ (n : ℕ). w + n) (offset_past ws k (omega arith))

-- offsets grow
pub offset_le : (ws : List ℕ) (i j : ℕ) → i ≤ j → offset ws i ≤ offset ws j
offset_le ws zero j h = omega arith
offset_le [] (suc i) j h = omega arith
offset_le (w ∷ ws) (suc i) zero h = absurd (not-suc-le-zero h)
offset_le (w ∷ ws) (suc i) (suc j) h = let r = offset_le ws i j (omega arith) in omega arith

-- a sum that stops at the largest number
pub sum_step : (ws : List ℕ) (k sum w next : ℕ) → sum ≡ min (offset ws k) 18446744073709551615 → w ≡ get_or ws k 0 → next ≡ min (sum + w) 18446744073709551615 → next ≡ min (offset ws (k + 1)) 18446744073709551615
sum_step ws k sum w next s e n = let o = offset_next ws k in omega arith

pub sum_past : (ws : List ℕ) (k limit sum : ℕ) → sum ≡ min (offset ws k) 18446744073709551615 → k ≡ length ws → k ≤ limit → sum ≡ min (offset ws limit) 18446744073709551615
sum_past ws k limit sum s e h = s ∙ ap (λ (n : ℕ). min n 18446744073709551615) (ap (offset ws) e ∙ sym (offset_past ws limit (omega arith)))

-- A RECORD'S FIELDS

pub fields_count : (l : List ℕ) (at size : ℕ) → at + size ≤ length l → length (fields_at l at size) ≡ size - 1
fields_count l at zero h = refl
fields_count l at (suc n) h = length-take-le (suc n - 1) (drop (at + 1) l) (omega (arith, length-drop (at + 1) l))

pub field_in : (l : List ℕ) (at size j : ℕ) → j < size - 1 → get_or l (at + 1 + j) 0 ≡ get_or (fields_at l at size) j 0
field_in l at size j h = sym (get_or-take (size - 1) (drop (at + 1) l) j 0 h ∙ get_or-drop (at + 1) l j 0)

pub field_out : (l : List ℕ) (at size j : ℕ) → size - 1 ≤ j → 0 ≡ get_or (fields_at l at size) j 0
field_out l at size j h = sym (get_or-eq_default (fields_at l at size) 0 (short (drop (at + 1) l) (size - 1) j h))
  where
    short : (r : List ℕ) (n j : ℕ) → n ≤ j → length (take n r) ≤ j
    short r zero j h = omega arith
    short [] (suc n) j h = omega arith
    short (x ∷ r) (suc n) zero h = absurd (not-suc-le-zero h)
    short (x ∷ r) (suc n) (suc j) h = let q = short r n j (omega arith) in omega arith

pub field_past : (l : List ℕ) (at size j : ℕ) → j < size - 1 → length l ≤ at + 1 + j → 0 ≡ get_or (fields_at l at size) j 0
field_past l at size j h q = sym (get_or-eq_default l 0 q) ∙ field_in l at size j h

-- WHERE A RECORD BEGINS

sizes_at : (rs : List (List ℕ)) (k : ℕ) → k < length rs → get_or (map (λ (r : List ℕ). length r + 1) rs) k 0 ≡ length (get_or rs k []) + 1
sizes_at [] k h = absurd (not-suc-le-zero h)
sizes_at (r ∷ rs) zero h = refl
sizes_at (r ∷ rs) (suc k) h = sizes_at rs k (omega arith)

pub start_first : (l : List ℕ) → 0 ≡ start_of l 0
unfolding start_of
start_first l = refl

pub start_next : (l : List ℕ) (k : ℕ) → k < length (records_in l) → start_of l (k + 1) ≡ start_of l k + (length (get_or (records_in l) k []) + 1)
unfolding start_of
start_next l k h = omega (arith, offset_next (map (λ (r : List ℕ). length r + 1) (records_in l)) k, sizes_at (records_in l) k h)

-- behind the last record nothing begins later
pub start_past : (l : List ℕ) (k : ℕ) → length (records_in l) ≤ k → start_of l (length (records_in l)) ≡ start_of l k
unfolding start_of
start_past l k h =
    let e : length (map (λ (r : List ℕ). length r + 1) (records_in l)) ≡ length (records_in l) = length-map (records_in l) (λ (r : List ℕ). length r + 1) in
    ap (start_of l) (sym e) ∙ sym (offset_past (map (λ (r : List ℕ). length r + 1) (records_in l)) k (omega arith))

-- a sum that stopped at the largest number is clipped like the sum itself
pub clipped_sum : (o sum v : ℕ) → sum ≡ min o 18446744073709551615 → v ≡ clipped sum → v ≡ clipped o
clipped_sum o sum v s e = omega arith
