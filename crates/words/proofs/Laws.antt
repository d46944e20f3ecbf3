-- Laws of the words of bytes.
-- Assumes nothing.
use mathlib.Core.Path.{◌≡◌, refl, sym, ◌∙◌, ap}
use mathlib.Core.List.{List, [], ◌∷◌, ◌++◌}
use Prim.Native.Nat.{ℕ, suc, ◌+◌, ◌-◌, ◌/◌, ◌<◌, min}
use native.Mathlib.Omega.{arith}
use native.Mathlib.Nat.{add-zero}
use lib.ListN.{length, get_or, set, take, drop, length-drop, length-append, length-take}
use lib.Seq.{take-suc, drop-cons, drop-drop, get_or-drop, append_snoc, set_at, length-take-le}
use Rattle.std.specs.declared.option.Option.{Option}
use Rattle.std.proofs.KnownBytes.{Consumes-nil}
use Rattle.words.specs.Words.{le_word, words_of, Laid, ReadWords}

pub words_length : (bytes : List ℕ) → length (words_of bytes) ≡ length bytes / 4
unfolding words_of
words_length [] = refl
words_length (a ∷ []) = refl
words_length (a ∷ b ∷ []) = refl
words_length (a ∷ b ∷ c ∷ []) = refl
words_length (a ∷ b ∷ c ∷ d ∷ bytes) =
    let h : length (words_of bytes) ≡ length bytes / 4 = words_length bytes in
    omega (arith, h)

-- the first four bytes make the first word
pub words_next : (four left : List ℕ) → length four ≡ 4
    → words_of (four ++ left) ≡ le_word (get_or four 0 0) (get_or four 1 0) (get_or four 2 0) (get_or four 3 0) ∷ words_of left
unfolding words_of
words_next [] left h = absurd (omega arith)
words_next (a ∷ []) left h = absurd (omega arith)
words_next (a ∷ b ∷ []) left h = absurd (omega arith)
words_next (a ∷ b ∷ c ∷ []) left h = absurd (omega arith)
words_next (a ∷ b ∷ c ∷ d ∷ []) left h = refl
words_next (a ∷ b ∷ c ∷ d ∷ e ∷ four) left h = absurd (omega arith)

-- fewer than four make none
pub words_none : (bytes : List ℕ) → length bytes < 4 → words_of bytes ≡ []
unfolding words_of
words_none [] h = refl
words_none (a ∷ []) h = refl
words_none (a ∷ b ∷ []) h = refl
words_none (a ∷ b ∷ c ∷ []) h = refl
words_none (a ∷ b ∷ c ∷ d ∷ bytes) h = absurd (omega arith)

-- one more word is laid
pub laid_more : (ws out₀ out : List ℕ) (k v : ℕ) {more : List ℕ} → out ≡ take k ws ++ drop k out₀ → drop k ws ≡ v ∷ more → k < length out₀ → set out k v ≡ take (k + 1) ws ++ drop (k + 1) out₀
laid_more ws out₀ out k v {more} q e g =
    let n : k + 1 ≡ suc k = omega arith in
    let h : k < length ws = omega (arith, length-drop k ws, ap length e) in
    let w : get_or ws k 0 ≡ v = sym (get_or-drop k ws 0 0 ∙ ap (λ (i : ℕ). get_or ws i 0) (add-zero k)) ∙ ap (λ (l : List ℕ). get_or l 0 0) e in
    ap (λ (l : List ℕ). set l k v) (q ∙ ap (λ (r : List ℕ). take k ws ++ r) (drop-cons out₀ k 0 g))
    ∙ set_at (take k ws) (get_or out₀ k 0) (drop (suc k) out₀) v k (length-take-le k ws (omega arith))
    ∙ sym (append_snoc (take k ws) v (drop (suc k) out₀))
    ∙ ap (λ (r : List ℕ). r ++ drop (suc k) out₀) (ap (λ (x : ℕ). take k ws ++ (x ∷ [])) (sym w) ∙ sym (take-suc ws k 0 h))
    ∙ sym (ap (λ (i : ℕ). take i ws ++ drop i out₀) n)

pub drop_more : (ws : List ℕ) (k v : ℕ) {more : List ℕ} → drop k ws ≡ v ∷ more → drop (k + 1) ws ≡ more
drop_more ws k v e = sym (drop-drop 1 k ws) ∙ ap (drop 1) e

-- no room is left, or no word
pub laid_end : (bytes out₀ out rest : List ℕ) (k n : ℕ) {room : ℕ} → k + room ≡ length out₀ → length out ≡ length out₀ → drop k (words_of bytes) ≡ words_of rest → (0 < room → length rest < 4)
    → out ≡ take k (words_of bytes) ++ drop k out₀ → n ≡ min (length out) (length bytes / 4) → Laid bytes out₀ n out
laid_end bytes out₀ out rest k n {room} r l e h q m =
    let ws = words_of bytes in
    let all : length ws ≡ length bytes / 4 = words_length bytes in
    let a : length ws - k ≡ length rest / 4 = sym (length-drop k ws) ∙ ap length e ∙ words_length rest in
    let b : length out ≡ length (take k ws) + length (drop k out₀) = ap length q ∙ length-append (take k ws) (drop k out₀) in
    let k_is : k ≡ n = grind (arith, a, all, h, b, r, l, m, length-take k ws, length-drop k out₀) in
    record { count = omega (arith, m, l, all); words = q ∙ ap (λ (i : ℕ). take i ws ++ drop i out₀) k_is }

-- READING

laid_none : (bytes out : List ℕ) → Laid (take 0 bytes) out 0 out
unfolding words_of
laid_none bytes out = record { count = omega arith; words = refl }

-- nothing is read
pub read_none : (bytes out : List ℕ) (n : ℕ) (left : Option (List ℕ)) → ReadWords bytes out n 0 bytes out left left
read_none bytes out n left = record { came = 0; most = omega arith; taken = Consumes-nil left; laid = laid_none bytes out; kept = refl; roomless = λ h. (refl, refl) }
