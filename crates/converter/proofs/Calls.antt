-- The call: short works, zeroed lists, zeroed works. Assumes nothing.
use Prim.Native.Nat.{ℕ, zero, suc, ◌+◌, ◌≤◌, ◌<◌}
use mathlib.Core.Path.{◌≡◌, refl, sym, ◌∙◌, ap}
use mathlib.Core.Bool.{Bool, true, false}
use mathlib.Core.List.{List, [], ◌∷◌}
use native.Mathlib.Omega.{arith}
use lib.ListN.{length, drop, get_or, replicate, length-replicate, drop_of_length-le}
use borrow.Author.Tests.{ltb-false}
use Rattle.std.proofs.lemmas.Bool.{lt-ltb, le-ltb}
use Rattle.bits.specs.Bits.{pick}
use Rattle.std.specs.Prelude.{Result, Ok, Err}
use Rattle.std.specs.Result.{is_err}
use Rattle.refusal.specs.declared.Refusal.{Refusal}
use Rattle.refusal.specs.declared.Refusal.TheVariants.{BufferTooShort}
use Rattle.recorder.specs.declared.Tapes.{Tapes}
use Rattle.converter.specs.declared.Buffers.{Buffers}
use Rattle.netlist.specs.declared.Limits.{Limits}
use Rattle.netlist.specs.Reader.{base}
use Rattle.recorder.specs.Lists.{Lists, lists}
use Rattle.recorder.specs.Words.{zeroed, blank}
use Rattle.lowering.specs.Lower.{Refused, lower_words}
use Rattle.converter.specs.Steps.{Within}
use Rattle.std.specs.Prelude.{map}
use Rattle.converter.specs.Entry.{answer_of, short, any_short, call_of, buffers_in, Lowers, LowersWithin, LowersLists, kept, blank_of, Ready, Attempts}

-- zeros of the same lengths
pub record ZerosTwo (a b a' b' : List ℕ) : Type 0 where
  pub first : a' ≡ zeroed a
  pub second : b' ≡ zeroed b

pub record ZerosThree (a b c a' b' c' : List ℕ) : Type 0 where
  pub first : a' ≡ zeroed a
  pub second : b' ≡ zeroed b
  pub third : c' ≡ zeroed c

-- SHORT OR LONG

long : (n : ℕ) → short n ≡ false → 16384 ≤ n
unfolding short
long n q = ltb-false n 16384 q

long_here : (n : ℕ) (ns : List ℕ) → any_short (n ∷ ns) ≡ false → (16384 ≤ n) × (any_short ns ≡ false)
unfolding any_short
long_here n ns q = go (short n) refl q
  where
    go : (b : Bool) → short n ≡ b → pick b true (any_short ns) ≡ false → (16384 ≤ n) × (any_short ns ≡ false)
    go true p h = let z : ◌≡◌ {A = ℕ} 0 1 = cc in absurd (omega arith)
    go false p h = (long n p, h)

-- the works from the i-th on
short_next : (ns : List ℕ) (i : ℕ) → i < length ns → any_short (drop i ns) ≡ pick (short (get_or ns i 0)) true (any_short (drop (suc i) ns))
unfolding any_short
short_next [] i h = absurd (omega (arith, h))
short_next (n ∷ ns) zero h = refl
short_next (n ∷ ns) (suc i) h = short_next ns i (omega (arith, h))

pub short_here : (ns : List ℕ) (i : ℕ) → any_short ns ≡ any_short (drop i ns) → i < length ns → get_or ns i 0 < 16384 → true ≡ any_short ns
unfolding short
short_here ns i s h less = sym (s ∙ short_next ns i h ∙ ap (λ (b : Bool). pick b true (any_short (drop (suc i) ns))) (lt-ltb (get_or ns i 0) 16384 less))

pub short_behind : (ns : List ℕ) (i : ℕ) → any_short ns ≡ any_short (drop i ns) → i < length ns → 16384 ≤ get_or ns i 0 → any_short ns ≡ any_short (drop (i + 1) ns)
unfolding short
short_behind ns i s h more =
    let on : suc i ≡ i + 1 = omega arith in
    s ∙ short_next ns i h ∙ ap (λ (b : Bool). pick b true (any_short (drop (suc i) ns))) (le-ltb (get_or ns i 0) 16384 more) ∙ ap (λ (k : ℕ). any_short (drop k ns)) on

pub none_short : (ns : List ℕ) (i : ℕ) → any_short ns ≡ any_short (drop i ns) → length ns ≤ i → false ≡ any_short ns
unfolding any_short
none_short ns i s h = sym (s ∙ ap any_short (drop_of_length-le ns h))

same_zeros : (l l' : List ℕ) → l' ≡ zeroed l → length l' ≡ length l
same_zeros l l' p = ap length p ∙ length-replicate {A = ℕ} (length l) 0

-- the other three, which are not touched
abbrev pub Rest : Buffers → Buffers → Type 0
Rest b b' = (b'.parts.now ≡ b.parts.now) × (b'.values.now ≡ b.values.now) × (b'.banks.now ≡ b.banks.now)

module _ (b b' : Buffers) (h : ZerosTwo b.wires.now b.places.now b'.wires.now b'.places.now) where
  ready : Rest b b' → any_short (map length (buffers_in b)) ≡ false → Ready b'
  ready s q =
      let p₀ = long_here (length b.wires.now) _ q in
      let p₁ = long_here (length b.places.now) _ p₀.1 in
      let p₂ = long_here (length b.parts.now) _ p₁.1 in
      let p₃ = long_here (length b.values.now) _ p₂.1 in
      let p₄ = long_here (length b.banks.now) _ p₃.1 in
      let la = same_zeros b.wires.now b'.wires.now h.first in
      let lb = same_zeros b.places.now b'.places.now h.second in
      record {
        no_signals = h.first ∙ ap (λ (n : ℕ). replicate n 0) (sym la);
        no_places = h.second ∙ ap (λ (n : ℕ). replicate n 0) (sym lb);
        wires_long = omega (arith, p₀.0, la);
        places_long = omega (arith, p₁.0, lb);
        parts_long = omega (arith, p₂.0, ap length s.0);
        values_long = omega (arith, p₃.0, ap length s.1);
        banks_long = omega (arith, p₄.0, ap length s.2);
      }

-- THE LISTS

module _ (limits : Limits) (words s e t : List ℕ) (b : Buffers) where
  zeroed_lists : {s₁ e₁ t₁ : List ℕ} → ZerosThree s e t s₁ e₁ t₁ → lists s₁ e₁ t₁ ≡ blank (length s) (length e) (length t)
  zeroed_lists z = λ i. lists (z.first i) (z.second i) (z.third i)

  by_short : (v : Bool) → any_short (map length (buffers_in b)) ≡ v
      → call_of limits words (lists s e t) (buffers_in b) ≡ pick v (record { answer = Refused 1 16384; lists = blank (length s) (length e) (length t) }) (lower_words limits words (length s) (length e) (length t))
  by_short v q = ap (λ (y : Bool). pick y (record { answer = Refused 1 16384; lists = blank (length s) (length e) (length t) }) (lower_words limits words (length s) (length e) (length t))) q

  pub works_short : {s₁ e₁ t₁ : List ℕ} {v : Bool} → ZerosThree s e t s₁ e₁ t₁ → v ≡ any_short (map length (buffers_in b)) → v ≡ true → LowersLists limits words (lists s e t) (buffers_in b) (Err (BufferTooShort 16384)) (lists s₁ e₁ t₁)
  works_short z q p = record { so = λ w. ap (λ (y : Lists). record { answer = Refused 1 16384; lists = y }) (zeroed_lists z) ∙ sym (by_short true (sym q ∙ p)) }

  pub works_done : {s₁ e₁ t₁ : List ℕ} {v : Bool} {b₁ : Buffers} → ZerosThree s e t s₁ e₁ t₁ → v ≡ any_short (map length (buffers_in b)) → v ≡ false → ZerosTwo b.wires.now b.places.now b₁.wires.now b₁.places.now → Rest b b₁
      → {r : Result Tapes Refusal} (s₂ e₂ t₂ : List ℕ) → Attempts limits words (lists s₁ e₁ t₁) b₁ r (lists s₂ e₂ t₂) → length s₂ ≡ length s₁ → length e₂ ≡ length e₁ → length t₂ ≡ length t₁
      → {l₃ : Lists} → l₃ ≡ kept (answer_of r) (lists s₂ e₂ t₂) (blank_of (lists s₂ e₂ t₂)) → LowersLists limits words (lists s e t) (buffers_in b) r l₃
  works_done {s₁} {e₁} {t₁} {b₁ = b₁} z q p y others {r} s₂ e₂ t₂ tried ls le lt keeps =
      let ms : length s₂ ≡ length s = ls ∙ same_zeros s s₁ z.first in
      let me : length e₂ ≡ length e = le ∙ same_zeros e e₁ z.second in
      let mt : length t₂ ≡ length t = lt ∙ same_zeros t t₁ z.third in
      let again : blank_of (lists s₂ e₂ t₂) ≡ blank (length s) (length e) (length t) = λ i. blank (ms i) (me i) (mt i) in
      record {
        so = λ w.
            ap (λ (k : Lists). record { answer = answer_of r; lists = k }) (keeps ∙ ap (λ (k : Lists). kept (answer_of r) (lists s₂ e₂ t₂) k) again)
            ∙ tried.value w (ready b b₁ y others (sym q ∙ p)) (length s) (length e) (length t) (zeroed_lists z)
            ∙ sym (by_short false (sym q ∙ p));
      }

-- WHAT A REFUSAL LEAVES

pub keeps_err : (q : Result Tapes Refusal) → is_err q ≡ true → (l : Lists) {l' z : Lists} → l' ≡ z → l' ≡ kept (answer_of q) l z
keeps_err (Ok t) p l e = let z : ◌≡◌ {A = ℕ} 0 1 = cc in absurd (omega arith)
keeps_err (Err x) p l e = e

pub keeps_ok : (q : Result Tapes Refusal) → is_err q ≡ false → (l z : Lists) → l ≡ kept (answer_of q) l z
keeps_ok (Ok t) p l z = refl
keeps_ok (Err x) p l z = let z : ◌≡◌ {A = ℕ} 0 1 = cc in absurd (omega arith)

-- THE WORKS

pub within_done : {limits : Limits} {words : List ℕ} {l : Lists} {works works' : List (List ℕ)} {r : Result Tapes Refusal} {l' : Lists} → LowersLists limits words l works r l' → works' ≡ map zeroed works → LowersWithin limits words l works r l' works'
within_done h z = record { so = λ w. record { value = h.so w; zeros = z } }

-- THE BASE LIMITS

within_base : Within base
within_base = record { wires = omega arith; width = omega arith; cells = omega arith }

pub base_done : {words : List ℕ} {l : Lists} {works : List (List ℕ)} {r : Result Tapes Refusal} {l' : Lists} {works' : List (List ℕ)} → LowersWithin base words l works r l' works' → Lowers base words l works r l' works'
base_done h = h.so within_base
