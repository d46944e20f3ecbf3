-- Laws of bytes that hold values: where a value's bytes stand, and what writing one leaves. Assumes nothing.
use Prim.Native.Nat.{ℕ, zero, suc, ◌+◌, ◌≤◌, ◌<◌}
use mathlib.Core.Path.{◌≡◌, refl, sym, ◌∙◌, ap, ap₂}
use mathlib.Core.Bool.{false}
use mathlib.Core.List.{List, [], ◌∷◌, ◌++◌, map, append_assoc}
use native.Mathlib.Omega.{arith}
use native.Mathlib.Nat.{not-suc-le-zero, add-zero, add-suc, suc-add}
use lib.ListN.{length, get_or, take, drop, set, length-append, length-map, get_or-map}
use lib.Seq.{sets-eq, take-append-le, drop-append-le, ext_get_or}
use Rattle.bits.specs.Bits.{Bits, digit, window}
use Rattle.recorder.specs.Lists.{over}
use Rattle.simulation.specs.Run.{flat}
use Rattle.simulation.specs.Index.{offset}
use Rattle.simulation.proofs.Flat.{Wide, flat_part, flat_set}
use Rattle.simulation.proofs.Bounds.{length_window}
use Rattle.evaluation.specs.Bytes.{part, Holds}
use Rattle.evaluation.proofs.InBytes.{part_at, part_length}

-- WIDTHS

pub wide_length : (ws : List ℕ) (vs : List Bits) → Wide ws vs → length vs ≡ length ws
wide_length [] [] h = refl
wide_length [] (v ∷ vs) h = absurd h
wide_length (w ∷ ws) [] h = absurd h
wide_length (w ∷ ws) (v ∷ vs) h = ap suc (wide_length ws vs h.1)

pub wide_at : (ws : List ℕ) (vs : List Bits) → Wide ws vs → (i : ℕ) → i < length vs → length (get_or vs i []) ≡ get_or ws i 0
wide_at [] [] h i q = absurd (not-suc-le-zero q)
wide_at [] (v ∷ vs) h i q = absurd h
wide_at (w ∷ ws) [] h i q = absurd h
wide_at (w ∷ ws) (v ∷ vs) h zero q = h.0
wide_at (w ∷ ws) (v ∷ vs) h (suc i) q = wide_at ws vs h.1 i (omega arith)

pub wide_set : (ws : List ℕ) (vs : List Bits) → Wide ws vs → (i : ℕ) (v : Bits) → length v ≡ get_or ws i 0 → Wide ws (set vs i v)
wide_set [] [] h i v e = h
wide_set [] (x ∷ vs) h i v e = absurd h
wide_set (w ∷ ws) [] h i v e = absurd h
wide_set (w ∷ ws) (x ∷ vs) h zero v e = (e, h.1)
wide_set (w ∷ ws) (x ∷ vs) h (suc i) v e = (h.0, wide_set ws vs h.1 i v e)

pub flat_room : (ws : List ℕ) (vs : List Bits) → Wide ws vs → (i : ℕ) → i < length vs → offset ws i + get_or ws i 0 ≤ length (flat vs)
flat_room [] [] h i q = absurd (not-suc-le-zero q)
flat_room [] (v ∷ vs) h i q = absurd h
flat_room (w ∷ ws) [] h i q = absurd h
flat_room (w ∷ ws) (v ∷ vs) h zero q = omega (arith, h.0, length-append v (flat vs))
flat_room (w ∷ ws) (v ∷ vs) h (suc i) q = omega (arith, h.0, length-append v (flat vs), flat_room ws vs h.1 i (omega arith))

pub flat_total : (ws : List ℕ) (vs : List Bits) → Wide ws vs → length (flat vs) ≡ offset ws (length ws)
flat_total [] [] h = refl
flat_total [] (v ∷ vs) h = absurd h
flat_total (w ∷ ws) [] h = absurd h
flat_total (w ∷ ws) (v ∷ vs) h = omega (arith, h.0, length-append v (flat vs), flat_total ws vs h.1)

-- MAPS

module _ {A B : Type 0} (f : A → B) where
  pub map_take : (n : ℕ) (l : List A) → take n (map f l) ≡ map f (take n l)
  map_take zero l = refl
  map_take (suc n) [] = refl
  map_take (suc n) (a ∷ l) = ap (λ (t : List B). f a ∷ t) (map_take n l)

  pub map_drop : (n : ℕ) (l : List A) → drop n (map f l) ≡ map f (drop n l)
  map_drop zero l = refl
  map_drop (suc n) [] = refl
  map_drop (suc n) (a ∷ l) = map_drop n l

  pub map_append : (l k : List A) → map f (l ++ k) ≡ map f l ++ map f k
  map_append [] k = refl
  map_append (a ∷ l) k = ap (λ (t : List B). f a ∷ t) (map_append l k)

-- WHAT STANDS WHERE

module _ {ws : List ℕ} {vs : List Bits} {rest bytes : List ℕ} (h : Holds ws vs rest bytes) where
  pub holds_length : length vs ≡ length ws
  holds_length = wide_length ws vs h.wide

  pub holds_width : (i : ℕ) → i < length ws → length (get_or vs i []) ≡ get_or ws i 0
  holds_width i q = wide_at ws vs h.wide i (omega (arith, holds_length))

  digits : length (map digit (flat vs)) ≡ length (flat vs)
  digits = length-map (flat vs) digit

  room : (i : ℕ) → i < length ws → offset ws i + get_or ws i 0 ≤ length (map digit (flat vs))
  room i q = let r = flat_room ws vs h.wide i (omega (arith, holds_length)) in omega (arith, digits)

  pub holds_room : (i : ℕ) → i < length ws → offset ws i + get_or ws i 0 ≤ length bytes
  holds_room i q = omega (arith, room i q, ap length h.begin, length-append (map digit (flat vs)) rest)

  -- the bytes of value i
  pub holds_part : (i : ℕ) → i < length ws → part bytes (offset ws i) (get_or ws i 0) ≡ map digit (get_or vs i [])
  holds_part i q =
      let o : ℕ = offset ws i in
      let w : ℕ = get_or ws i 0 in
      let d : List ℕ = map digit (flat vs) in
      let k : offset ws i + get_or ws i 0 ≤ length (map digit (flat vs)) = room i q in
      ap (λ (l : List ℕ). part l o w) h.begin
      ∙ ap (take w) (drop-append-le o d rest (omega arith))
      ∙ take-append-le w (drop o d) rest (omega (arith, lib.ListN.length-drop o d))
      ∙ ap (take w) (map_drop digit o (flat vs))
      ∙ map_take digit w (drop o (flat vs))
      ∙ ap (map digit) (flat_part ws vs h.wide i (omega (arith, holds_length)))

  pub holds_byte : (i j : ℕ) → i < length ws → j < get_or ws i 0 → get_or bytes (offset ws i + j) 0 ≡ digit (get_or (get_or vs i []) j false)
  holds_byte i j q k = sym (part_at bytes (offset ws i) (get_or ws i 0) j k) ∙ ap (λ (l : List ℕ). get_or l j 0) (holds_part i q) ∙ get_or-map digit (get_or vs i []) j false

  -- the first byte
  pub holds_bit : (i : ℕ) → i < length ws → 0 < get_or ws i 0 → get_or bytes (offset ws i) 0 ≡ digit (get_or (get_or vs i []) 0 false)
  holds_bit i q k = ap (λ (n : ℕ). get_or bytes n 0) (sym (add-zero (offset ws i))) ∙ holds_byte i 0 q k

  -- some bytes of it
  pub holds_window : (i l w : ℕ) → i < length ws → l + w ≤ get_or ws i 0 → part bytes (offset ws i + l) w ≡ map digit (window (get_or vs i []) l w)
  holds_window i l w q k =
      ext_get_or 0 (part bytes (offset ws i + l) w) (map digit (window v l w)) (long ∙ sym (length-map (window v l w) digit ∙ length_window v l w)) (λ j z. same_at j (omega (arith, long)))
    where
      v : Bits
      v = get_or vs i []

      long : length (part bytes (offset ws i + l) w) ≡ w
      long = part_length bytes (offset ws i + l) w (omega (arith, holds_room i q))

      window_at : (v : Bits) (l w j : ℕ) → j < w → get_or (window v l w) j false ≡ get_or v (l + j) false
      window_at v l zero j z = absurd (not-suc-le-zero z)
      window_at v l (suc w) zero z = ap (λ (n : ℕ). get_or v n false) (sym (add-zero l))
      window_at v l (suc w) (suc j) z = window_at v (suc l) w j (omega arith) ∙ ap (λ (n : ℕ). get_or v n false) (suc-add l j ∙ sym (add-suc l j))

      same_at : (j : ℕ) → j < w → get_or (part bytes (offset ws i + l) w) j 0 ≡ get_or (map digit (window (get_or vs i []) l w)) j 0
      same_at j z =
          let e : offset ws i + l + j ≡ offset ws i + (l + j) = omega arith in
          part_at bytes (offset ws i + l) w j z
          ∙ ap (λ (n : ℕ). get_or bytes n 0) e
          ∙ holds_byte i (l + j) q (omega arith)
          ∙ ap digit (sym (window_at (get_or vs i []) l w j z))
          ∙ sym (get_or-map digit (window (get_or vs i []) l w) j false)

  -- value i written anew
  pub holds_set : (i : ℕ) (v : Bits) → i < length ws → length v ≡ get_or ws i 0 → Holds ws (set vs i v) rest (over bytes (offset ws i) (map digit v))
  unfolding over
  holds_set i v q e = record { wide = wide_set ws vs h.wide i v e; begin = sets-eq (map digit v) bytes o (omega (arith, length-map v digit, e, holds_room i q)) ∙ bytes_are ∙ sym (ap (λ (l : List ℕ). l ++ rest) flat_is) }
    where
      o : ℕ
      o = offset ws i

      n : offset ws i + length (map digit v) ≡ offset ws i + get_or ws i 0
      n = ap (λ (x : ℕ). offset ws i + x) (length-map v digit ∙ e)

      bytes_are : take (offset ws i) bytes ++ map digit v ++ drop (offset ws i + length (map digit v)) bytes ≡ take (offset ws i) (map digit (flat vs)) ++ map digit v ++ drop (offset ws i + get_or ws i 0) (map digit (flat vs)) ++ rest
      bytes_are =
          ap₂ (λ (l : List ℕ) (x : ℕ). take (offset ws i) l ++ map digit v ++ drop x l) h.begin n
          ∙ ap₂ (λ (x y : List ℕ). x ++ map digit v ++ y) (take-append-le (offset ws i) (map digit (flat vs)) rest (omega (arith, room i q))) (drop-append-le (offset ws i + get_or ws i 0) (map digit (flat vs)) rest (room i q))
          ∙ sym (append_assoc (take (offset ws i) (map digit (flat vs)) ++ map digit v) (drop (offset ws i + get_or ws i 0) (map digit (flat vs))) rest)

      flat_is : map digit (flat (set vs i v)) ≡ take (offset ws i) (map digit (flat vs)) ++ map digit v ++ drop (offset ws i + get_or ws i 0) (map digit (flat vs))
      flat_is =
          ap (map digit) (flat_set ws vs h.wide i (omega (arith, holds_length)) v)
          ∙ map_append digit (take (offset ws i) (flat vs) ++ v) (drop (offset ws i + get_or ws i 0) (flat vs))
          ∙ ap₂ ◌++◌ (map_append digit (take (offset ws i) (flat vs)) v ∙ ap (λ (l : List ℕ). l ++ map digit v) (sym (map_take digit (offset ws i) (flat vs)))) (sym (map_drop digit (offset ws i + get_or ws i 0) (flat vs)))
