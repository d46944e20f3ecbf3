-- Laws of the program's call. Assumes nothing.
use Prim.Native.Nat.{ℕ, ◌%◌, ◌≤◌, ◌<◌}
use mathlib.Core.Path.{◌≡◌, sym, ◌∙◌, ap, ap₂}
use mathlib.Core.Bool.{Bool, true, false}
use mathlib.Core.List.{List, ◌++◌}
use native.Mathlib.Omega.{arith}
use lib.Dec.{eqb}
use lib.ListN.{length, take, drop}
use lib.Seq.{take_all, take_at}
use borrow.Author.Tests.{le-leb, lt-leb, eq-eqb, ne_eqb}
use Rattle.std.specs.Prelude.{Result}
use Rattle.bits.specs.Bits.{pick}
use Rattle.refusal.specs.declared.Refusal.{Refusal}
use Rattle.recorder.specs.declared.Tapes.{Tapes}
use Rattle.recorder.specs.Lists.{Lists, lists}
use Rattle.recorder.specs.Words.{zeroed}
use Rattle.lowering.specs.Lower.{Lowered, Lowering}
use Rattle.converter.specs.Entry.{answer_of, blank_of}
use Rattle.words.specs.Words.{words_of, Laid}
use Rattle.words.proofs.Laws.{words_length}
use Rattle.lower.specs.Entry.{whole_words, unread, Unread, LowersBytes}
use Rattle.lower_words.specs.Entry.{lower_lent, LowersWords}

blanked : (l l' : Lists) → l'.signals ≡ zeroed l.signals → l'.exprs ≡ zeroed l.exprs → l'.stmts ≡ zeroed l.stmts → l' ≡ blank_of l
blanked l l' p q s =
    ap (λ (x : List ℕ). lists x l'.exprs l'.stmts) p
    ∙ ap (λ (x : List ℕ). lists (zeroed l.signals) x l'.stmts) q
    ∙ ap (λ (x : List ℕ). lists (zeroed l.signals) (zeroed l.exprs) x) s

abbrev lowering : Lowered → Lists → Lowering
lowering a l = record { answer = a; lists = l }

unread_value : (l l' : Lists) {r : Result Tapes Refusal} → Unread l r l' → ◌≡◌ {A = Lowering} (record { answer = answer_of r; lists = l' }) (unread l)
unread_value l l' u = ap₂ lowering u.said (blanked l l' u.signals u.exprs u.stmts)

refused : (bytes : List ℕ) (l : Lists) {r : Result Tapes Refusal} {l' : Lists} → whole_words (length bytes) ≡ false → Unread l r l' → LowersBytes bytes l r l'
refused bytes l {r} {l'} q u = record { value = unread_value l l' u ∙ sym (ap (λ (b : Bool). pick b (lower_lent (words_of bytes) l) (unread l)) q) }

pub too_long : (bytes : List ℕ) (l : Lists) {r : Result Tapes Refusal} {l' : Lists} → 65536 < length bytes → Unread l r l' → LowersBytes bytes l r l'
unfolding whole_words
too_long bytes l h u = refused bytes l (ap (λ (b : Bool). pick b (eqb (length bytes % 4) 0) false) (lt-leb (length bytes) 65536 h)) u

fits : (n : ℕ) → n ≤ 65536 → whole_words n ≡ eqb (n % 4) 0
unfolding whole_words
fits n h = ap (λ (b : Bool). pick b (eqb (n % 4) 0) false) (le-leb n 65536 h)

pub part_left : (bytes : List ℕ) (l : Lists) {r : Result Tapes Refusal} {l' : Lists} → length bytes ≤ 65536 → (length bytes % 4 ≡ 0 → ⊥) → Unread l r l' → LowersBytes bytes l r l'
part_left bytes l h p u = refused bytes l (fits (length bytes) h ∙ ne_eqb (length bytes % 4) 0 p) u

-- where there is room for all words, they are what was laid
all_laid : (bytes out out' : List ℕ) (n : ℕ) → length bytes ≤ 65536 → length out ≡ 16384 → Laid bytes out n out' → take n out' ≡ words_of bytes
all_laid bytes out out' n h room laid =
    let ws = words_length bytes in
    let k = laid.count in
    let e : n ≡ length (words_of bytes) = omega (arith, h, room, ws, k) in
    let a : take n (words_of bytes) ≡ words_of bytes = take_all n (words_of bytes) (omega (arith, e)) in
    ap (λ (l : List ℕ). take n l) (laid.words ∙ ap (λ (l : List ℕ). l ++ drop n out) a) ∙ take_at (words_of bytes) (drop n out) n (sym e)

pub whole : (bytes : List ℕ) (l : Lists) (out out' : List ℕ) (n : ℕ) {r : Result Tapes Refusal} {l' : Lists} → length bytes ≤ 65536 → length bytes % 4 ≡ 0 → length out ≡ 16384
    → Laid bytes out n out' → LowersWords (take n out') l r l' → LowersBytes bytes l r l'
whole bytes l out out' n h p room laid w =
    let q : whole_words (length bytes) ≡ true = fits (length bytes) h ∙ eq-eqb (length bytes % 4) 0 p in
    record { value = w.value ∙ ap (λ (ws : List ℕ). lower_lent ws l) (all_laid bytes out out' n h room laid) ∙ sym (ap (λ (b : Bool). pick b (lower_lent (words_of bytes) l) (unread l)) q) }
