-- The words of a RAM: what a candidate list chooses, and what a commit writes.
-- Assumes nothing.
use mathlib.Core.Path.{◌≡◌, refl, ap, ap₂, sym, ◌∙◌, subst}
use mathlib.Core.Bool.{Bool, true, false, ◌&&◌}
use mathlib.Core.List.{List, [], ◌∷◌, map}
use Rattle.std.specs.Prelude.{Option, None, Some}
use Prim.Native.Nat.{ℕ, suc, ◌+◌, ◌-◌, ◌^◌, ◌≤◌, ◌<◌}
use native.Mathlib.Omega.{arith}
use native.Mathlib.Decide.{dec_lt, ℕ_discrete}
use lib.Dec.{eqb, leb}
use lib.ListN.{length, get_or, set}
use borrow.Author.Tests.{eq-eqb, ne_eqb, le-leb, lt-leb}
use Rattle.bits.specs.Bits.{pick, Bits, number, binary, window, same_bits}
use Rattle.recorder.specs.Evaluate.{Signals}
use Rattle.behaviour.specs.Behaviour.{written}
use Rattle.simulation.proofs.Bounds.{length_window}
use Rattle.meaning.specs.Held.{last_choice}
use Rattle.meaning.specs.Settles.{Tick}
use Rattle.meaning.proofs.Memories.{PortValue, wrote, wrote_second, word_of, choices, NewWord, Updated}
use Rattle.equivalence.proofs.Vectors.{same_number, window_all, pick_map}

-- CHOOSING

-- the word of number A, counted from index on, or v
abbrev chosen : ℕ → ℕ → List Bits → Bits → Bits
chosen A index l v = pick (leb index A) (get_or l (A - index) v) v

module _ (σ : Signals) (width aw : ℕ) (a : PortValue) (b : Option PortValue) where
  chosen_more : (A index : ℕ) (w : Bits) (l : List Bits) (v : Bits) → chosen A (suc index) l (pick (eqb A index) w v) ≡ chosen A index (w ∷ l) v
  chosen_more A index w l v = go (dec_lt A index) (ℕ_discrete A index)
    where
      as_tests : (p q r : Bool) → eqb A index ≡ p → leb (suc index) A ≡ q → leb index A ≡ r → pick q (get_or l (A - suc index) (pick p w v)) (pick p w v) ≡ pick r (get_or (w ∷ l) (A - index) v) v
          → chosen A (suc index) l (pick (eqb A index) w v) ≡ chosen A index (w ∷ l) v
      as_tests p q r e f g h =
          ap₂ (λ (x y : Bool). pick y (get_or l (A - suc index) (pick x w v)) (pick x w v)) e f ∙ h ∙ ap (λ (x : Bool). pick x (get_or (w ∷ l) (A - index) v) v) (sym g)

      go : Dec (A < index) → Dec (A ≡ index) → chosen A (suc index) l (pick (eqb A index) w v) ≡ chosen A index (w ∷ l) v
      go (yes p) d = as_tests false false false (ne_eqb A index (omega arith)) (lt-leb (suc index) A (omega arith)) (lt-leb index A (omega arith)) refl
      go (no p) (yes q) = as_tests true false true (eq-eqb A index q) (lt-leb (suc index) A (omega arith)) (le-leb index A (omega arith)) (ap (λ (k : ℕ). get_or (w ∷ l) k v) (let z : 0 ≡ A - index = omega arith in z))
      go (no p) (no q) = as_tests false true true (ne_eqb A index q) (le-leb (suc index) A (omega arith)) (le-leb index A (omega arith)) (ap (λ (k : ℕ). get_or (w ∷ l) k v) (let z : suc (A - suc index) ≡ A - index = omega arith in z))

  pick_same : (t : Bool) (v : Bits) → v ≡ pick t v v
  pick_same true v = refl
  pick_same false v = refl

  chosen_from : (at : Bits) (index : ℕ) (ss : List ℕ) (v : Bits) → length at ≡ aw → index + length ss ≤ 2 ^ aw
      → last_choice (choices σ width aw a b at index ss) v ≡ chosen (number at) index (map (word_of σ width) ss) v
  chosen_from at index [] v e h = pick_same (leb index (number at)) v
  chosen_from at index (s ∷ ss) v e h =
      ap (λ (t : Bool). last_choice (choices σ width aw a b at (suc index) ss) (pick t (word_of σ width s) v))
      (ap (λ (k : ℕ). same_bits at (binary k index)) (sym e) ∙ same_number at index (subst (λ (k : ℕ). index < 2 ^ k) (sym e) (omega (arith, h))))
      ∙ chosen_from at (suc index) ss (pick (eqb (number at) index) (word_of σ width s) v) e (omega (arith, h))
      ∙ chosen_more (number at) index (word_of σ width s) (map (word_of σ width) ss) v

  -- the word that the address names, or v beyond the last
  pub word_chosen : (at : Bits) (ss : List ℕ) (v : Bits) → length at ≡ aw → length ss ≤ 2 ^ aw → last_choice (choices σ width aw a b at 0 ss) v ≡ get_or (map (word_of σ width) ss) (number at) v
  word_chosen at ss v e h =
      chosen_from at 0 ss v e (omega (arith, h))
      ∙ ap (λ (t : Bool). pick t (get_or (map (word_of σ width) ss) (number at - 0) v) v) (le-leb 0 (number at) (omega arith))
      ∙ ap (λ (k : ℕ). get_or (map (word_of σ width) ss) k v) (let z : number at - 0 ≡ number at = omega arith in z)

-- WRITING

abbrev indexed : (ℕ → Bits → Bits) → ℕ → List Bits → List Bits
indexed f i [] = []
indexed f i (w ∷ ws) = f i w ∷ indexed f (suc i) ws

indexed_same : (f : ℕ → Bits → Bits) (i : ℕ) (ws : List Bits) → ((j : ℕ) (w : Bits) → f j w ≡ w) → indexed f i ws ≡ ws
indexed_same f i [] h = refl
indexed_same f i (w ∷ ws) h = ap₂ (λ (x : Bits) (l : List Bits). x ∷ l) (h i w) (indexed_same f (suc i) ws h)

indexed_then : (f g : ℕ → Bits → Bits) (i : ℕ) (ws : List Bits) → indexed (λ j w. g j (f j w)) i ws ≡ indexed g i (indexed f i ws)
indexed_then f g i [] = refl
indexed_then f g i (w ∷ ws) = ap (λ (l : List Bits). g i (f i w) ∷ l) (indexed_then f g (suc i) ws)

-- one place is set, if it is among those from index i on
set_from : (A i : ℕ) (x : Bits) (ws : List Bits) → indexed (λ j w. pick (eqb A j) x w) i ws ≡ pick (leb i A) (set ws (A - i) x) ws
set_from A i x [] = go (leb i A)
  where
    go : (t : Bool) → [] ≡ pick t (set [] (A - i) x) []
    go true = refl
    go false = refl
set_from A i x (w ∷ ws) = ap (λ (l : List Bits). pick (eqb A i) x w ∷ l) (set_from A (suc i) x ws) ∙ go (dec_lt A i) (ℕ_discrete A i)
  where
    as_tests : (p q r : Bool) → eqb A i ≡ p → leb (suc i) A ≡ q → leb i A ≡ r → pick p x w ∷ pick q (set ws (A - suc i) x) ws ≡ pick r (set (w ∷ ws) (A - i) x) (w ∷ ws)
        → pick (eqb A i) x w ∷ pick (leb (suc i) A) (set ws (A - suc i) x) ws ≡ pick (leb i A) (set (w ∷ ws) (A - i) x) (w ∷ ws)
    as_tests p q r e f g h = ap₂ (λ (s t : Bool). pick s x w ∷ pick t (set ws (A - suc i) x) ws) e f ∙ h ∙ ap (λ (t : Bool). pick t (set (w ∷ ws) (A - i) x) (w ∷ ws)) (sym g)

    go : Dec (A < i) → Dec (A ≡ i) → pick (eqb A i) x w ∷ pick (leb (suc i) A) (set ws (A - suc i) x) ws ≡ pick (leb i A) (set (w ∷ ws) (A - i) x) (w ∷ ws)
    go (yes p) d = as_tests false false false (ne_eqb A i (omega arith)) (lt-leb (suc i) A (omega arith)) (lt-leb i A (omega arith)) refl
    go (no p) (yes q) = as_tests true false true (eq-eqb A i q) (lt-leb (suc i) A (omega arith)) (le-leb i A (omega arith)) (ap (λ (k : ℕ). set (w ∷ ws) k x) (let z : 0 ≡ A - i = omega arith in z))
    go (no p) (no q) = as_tests false true true (ne_eqb A i q) (le-leb (suc i) A (omega arith)) (le-leb i A (omega arith)) (ap (λ (k : ℕ). set (w ∷ ws) k x) (let z : suc (A - suc i) ≡ A - i = omega arith in z))

set_all : (A : ℕ) (x : Bits) (ws : List Bits) → indexed (λ j w. pick (eqb A j) x w) 0 ws ≡ set ws A x
set_all A x ws =
    set_from A 0 x ws ∙ ap (λ (t : Bool). pick t (set ws (A - 0) x) ws) (le-leb 0 A (omega arith)) ∙ ap (λ (k : ℕ). set ws k x) (let z : A - 0 ≡ A = omega arith in z)

-- the places below n of two functions agree
indexed_agree : (f g : ℕ → Bits → Bits) (n i : ℕ) (ws : List Bits) → i + length ws ≤ n → ((j : ℕ) (w : Bits) → j < n → f j w ≡ g j w) → indexed f i ws ≡ indexed g i ws
indexed_agree f g n i [] l h = refl
indexed_agree f g n i (w ∷ ws) l h = ap₂ (λ (x : Bits) (r : List Bits). x ∷ r) (h i w (omega (arith, l))) (indexed_agree f g n (suc i) ws (omega (arith, l)) h)

-- a port's write, over all words
pub writes_all : (a : PortValue) (aw : ℕ) (ws : List Bits) → length a.address ≡ aw → length ws ≤ 2 ^ aw → indexed (wrote a aw) 0 ws ≡ written a.asserted (number a.address) a.word ws
writes_all a aw ws e h =
    indexed_agree (wrote a aw) (λ j w. pick (a.asserted && eqb (number a.address) j) a.word w) (2 ^ aw) 0 ws (omega (arith, h)) (λ j w l. ap (λ (t : Bool). pick (a.asserted && t) a.word w) (hit j l))
    ∙ go a.asserted
  where
    hit : (j : ℕ) → j < 2 ^ aw → same_bits a.address (binary aw j) ≡ eqb (number a.address) j
    hit j l = ap (λ (k : ℕ). same_bits a.address (binary k j)) (sym e) ∙ same_number a.address j (subst (λ (k : ℕ). j < 2 ^ k) (sym e) l)

    go : (t : Bool) → indexed (λ j w. pick (t && eqb (number a.address) j) a.word w) 0 ws ≡ written t (number a.address) a.word ws
    go true = set_all (number a.address) a.word ws
    go false = indexed_same (λ j w. w) 0 ws (λ j w. refl)

abbrev pub written_second : Option PortValue → List Bits → List Bits
written_second None ws = ws
written_second (Some v) ws = written v.asserted (number v.address) v.word ws

abbrev pub SecondSized : ℕ → ℕ → Option PortValue → Type 0
SecondSized aw width None = Unit {0}
SecondSized aw width (Some v) = (length v.address ≡ aw) × (length v.word ≡ width)

written_long : (t : Bool) (A : ℕ) (x : Bits) (ws : List Bits) → length (written t A x ws) ≡ length ws
written_long true A x ws = lib.ListN.length-set ws A x
written_long false A x ws = refl

pub second_writes : (b : Option PortValue) (aw width : ℕ) (ws : List Bits) → SecondSized aw width b → length ws ≤ 2 ^ aw → indexed (wrote_second b aw) 0 ws ≡ written_second b ws
second_writes None aw width ws e h = indexed_same (λ j w. w) 0 ws (λ j w. refl)
second_writes (Some v) aw width ws e h = writes_all v aw ws e.0 h

-- A COMMIT

module _ (κ : Tick) (width aw : ℕ) (a : PortValue) (b : Option PortValue) (clock edge : ℕ) (wide_a : length a.word ≡ width) (wide_b : SecondSized aw width b) where
  abbrev new : ℕ → Bits → Bits
  new j w = wrote_second b aw j (wrote a aw j w)

  pick_length : (t : Bool) (x y : Bits) → length x ≡ width → length y ≡ width → length (pick t x y) ≡ width
  pick_length true x y p q = p
  pick_length false x y p q = q

  new_length : (j : ℕ) (w : Bits) → length w ≡ width → length (new j w) ≡ width
  new_length j w h = go b wide_b (wrote a aw j w) (pick_length (a.asserted && same_bits a.address (binary aw j)) a.word w wide_a h)
    where
      go : (o : Option PortValue) → SecondSized aw width o → (x : Bits) → length x ≡ width → length (wrote_second o aw j x) ≡ width
      go None s x q = q
      go (Some v) s x q = pick_length (v.asserted && same_bits v.address (binary aw j)) v.word x s.1 q

  one_word : (i s : ℕ) → NewWord κ width aw a b clock edge i s → word_of κ.next width s ≡ pick (κ.fires clock edge) (new i (word_of κ.before width s)) (word_of κ.before width s)
  one_word i s h =
      ap (λ (v : Bits). window v 0 width) h.taken
      ∙ pick_map (λ (v : Bits). window v 0 width) (κ.fires clock edge) (new i (word_of κ.before width s)) (κ.before s)
      ∙ ap (λ (v : Bits). pick (κ.fires clock edge) v (word_of κ.before width s)) (window_all (new i (word_of κ.before width s)) width (new_length i (word_of κ.before width s) (length_window (κ.before s) 0 width)))

  all_words : (i : ℕ) (ss : List ℕ) → Updated κ width aw a b clock edge i ss
      → map (word_of κ.next width) ss ≡ pick (κ.fires clock edge) (indexed new i (map (word_of κ.before width) ss)) (map (word_of κ.before width) ss)
  all_words i [] h = go (κ.fires clock edge)
    where
      go : (t : Bool) → ◌≡◌ {A = List Bits} [] (pick t [] [])
      go true = refl
      go false = refl
  all_words i (s ∷ ss) h = ap₂ (λ (x : Bits) (l : List Bits). x ∷ l) (one_word i s h.0) (all_words (suc i) ss h.1) ∙ go (κ.fires clock edge)
    where
      go : (t : Bool) → pick t (new i (word_of κ.before width s)) (word_of κ.before width s) ∷ pick t (indexed new (suc i) (map (word_of κ.before width) ss)) (map (word_of κ.before width) ss)
          ≡ pick t (indexed new i (map (word_of κ.before width) (s ∷ ss))) (map (word_of κ.before width) (s ∷ ss))
      go true = refl
      go false = refl

  -- the words after a commit: A's write, then B's, where the clock fires
  pub words_after : (ss : List ℕ) → length a.address ≡ aw → length ss ≤ 2 ^ aw → Updated κ width aw a b clock edge 0 ss
      → map (word_of κ.next width) ss ≡ pick (κ.fires clock edge) (written_second b (written a.asserted (number a.address) a.word (map (word_of κ.before width) ss))) (map (word_of κ.before width) ss)
  words_after ss e h u =
      let old : List Bits = map (word_of κ.before width) ss in
      let long : length (map (word_of κ.before width) ss) ≡ length ss = lib.ListN.length-map ss (word_of κ.before width) in
      all_words 0 ss u
      ∙ ap (λ (l : List Bits). pick (κ.fires clock edge) l (map (word_of κ.before width) ss))
      (indexed_then (wrote a aw) (wrote_second b aw) 0 (map (word_of κ.before width) ss)
      ∙ ap (indexed (wrote_second b aw) 0) (writes_all a aw (map (word_of κ.before width) ss) e (omega (arith, long, h)))
      ∙ second_writes b aw width (written a.asserted (number a.address) a.word (map (word_of κ.before width) ss)) wide_b
      (omega (arith, long, h, written_long a.asserted (number a.address) a.word (map (word_of κ.before width) ss))))
