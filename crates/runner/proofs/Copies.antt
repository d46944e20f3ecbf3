-- Copies of bytes.
use Rattle.std.proofs.Common.{ℕ, ◌≡◌, ◌≤◌, ◌+◌, ◌-◌, List, ◌++◌, length, take, drop, sym, ap, ◌∙◌, append_assoc, length-drop, arith}
use lib.Seq.{drop-drop}
use Rattle.std.proofs.lemmas.List.{length-take-le}
use Rattle.std.proofs.lemmas.List.Edits.{sets-eq}
use Rattle.std.proofs.Math.Seq.{paste}
use borrow.Rule.Slice.PartMut.{put_mid}
use Rattle.recorder.specs.Lists.{over}

part_long : (l : List ℕ) (start n : ℕ) → start + n ≤ length l → length (take n (drop start l)) ≡ n
part_long l start n h = let d = length-drop start l in length-take-le n (drop start l) (omega (arith, d, h))

over_parts : (l bs : List ℕ) (at n : ℕ) → length bs ≡ n → at + n ≤ length l → take at l ++ bs ++ drop (at + n) l ≡ over l at bs
unfolding over
over_parts l bs at n e h = sym (sets-eq bs l at (omega (arith, e, h)) ∙ ap (λ (k : ℕ). take at l ++ bs ++ drop (at + k) l) e)

-- from one list to another
pub copied_over : (l from : List ℕ) (at start n : ℕ) {new : List ℕ} → new ≡ take (start + n - start) (drop start from) → at + n ≤ length l → start + n ≤ length from → put_mid at (at + n - at) l new ≡ over l at (take n (drop start from))
copied_over l from at start n {new} e h q =
    let i : start + n - start ≡ n = omega arith in
    let k : at + n - at ≡ n = omega arith in
    let bs = take n (drop start from) in
    ap (put_mid at (at + n - at) l) (e ∙ ap (λ (j : ℕ). take j (drop start from)) i)
    ∙ ap (λ (j : ℕ). take at l ++ (bs ++ drop j (drop at l))) k
    ∙ ap (λ (r : List ℕ). take at l ++ (bs ++ r)) (drop-drop n at l)
    ∙ sym (append_assoc (take at l) bs (drop (at + n) l))
    ∙ over_parts l bs at n (part_long from start n q) h

-- within one list
pub within_over : (l : List ℕ) (at start n : ℕ) → at + n ≤ length l → start + n ≤ length l → paste l at (drop start l) (start + n - start) ≡ over l at (take n (drop start l))
within_over l at start n h q =
    let k : start + n - start ≡ n = omega arith in
    ap (λ (j : ℕ). take at l ++ take j (drop start l) ++ drop (at + j) l) k ∙ over_parts l (take n (drop start l)) at n (part_long l start n q) h
