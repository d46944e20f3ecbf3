-- The signals of a model with the statements on each counted in their first words. Assumes nothing.
use Prim.Native.Nat.{ℕ, zero, suc, ◌+◌, ◌-◌, ◌*◌, ◌<◌}
use mathlib.Core.Path.{◌≡◌, refl, sym, ◌∙◌, ap, ap₂, fun_ext}
use mathlib.Core.Bool.{Bool, true, false}
use mathlib.Core.List.{List, [], ◌∷◌, ◌++◌, map, tail, append_assoc}
use Rattle.std.specs.Prelude.{Option, None, Some}
use native.Mathlib.Nat.{add-zero, zero-add, add_assoc}
use native.Mathlib.Omega.{arith}
use lib.Dec.{eqb, ltb, leb}
use lib.ListN.{length, get_or, set, replicate}
use lib.Seq.{set-get_or}
use borrow.Author.Tests.{eq-eqb, ne_eqb, lt-leb}
use Rattle.bits.specs.Bits.{pick}
use Rattle.recorder.specs.Record.{Signal, Stmt, Stmt.assign, Stmt.reg, signal_words, stmt_words, target}
use Rattle.recorder.specs.Read as read
use Rattle.recorder.specs.Read.{split}
use Rattle.recorder.specs.Words.{list_words, holding}
use Rattle.recorder.proofs.Roundtrip.{stmt_kind, split_sized, split_nil, split_zero}
use Rattle.lowering.specs.Lower.{statements_on, allowed, overdriven_from}
use Rattle.conflict.specs.Conflicts.{Judges}
use Rattle.conflict.specs.Counting.{more, raised, tally, counted, exceeds, lowest_from, restored}

-- 4 and the count, two at most
abbrev mark : ℕ → ℕ
mark zero = 4
mark (suc zero) = 5
mark (suc (suc n)) = 6

-- with so many statements on each, the first signal being number i
abbrev marked : (ℕ → ℕ) → ℕ → List Signal → List ℕ
marked c i [] = []
marked c i (x ∷ xs) = mark (c i) ∷ x.label ∷ x.width ∷ x.owner ∷ marked c (suc i) xs

unmarked : (xs : List Signal) (i : ℕ) → marked (λ s. 0) i xs ≡ list_words signal_words xs
unmarked [] i = refl
unmarked (x ∷ xs) i = ap (λ (l : List ℕ). 4 ∷ x.label ∷ x.width ∷ x.owner ∷ l) (unmarked xs (suc i))

-- ONE STATEMENT

-- one more on t
abbrev bump : ℕ → (ℕ → ℕ) → ℕ → ℕ
bump t c s = c s + pick (eqb t s) 1 0

bump_here : (t s : ℕ) (c : ℕ → ℕ) → t ≡ s → bump t c s ≡ suc (c s)
bump_here t s c e = ap (λ (b : Bool). c s + pick b 1 0) (eq-eqb t s e) ∙ (omega arith)

bump_there : (t s : ℕ) (c : ℕ → ℕ) → (t ≡ s → ⊥) → bump t c s ≡ c s
bump_there t s c e = ap (λ (b : Bool). c s + pick b 1 0) (ne_eqb t s e) ∙ (omega arith)

-- of a lower number
bump_below : (t : ℕ) (c : ℕ → ℕ) (xs : List Signal) (i : ℕ) → t < i → marked (bump t c) i xs ≡ marked c i xs
bump_below t c [] i h = refl
bump_below t c (x ∷ xs) i h =
    let n : t ≡ i → ⊥ = λ e. omega arith in
    ap₂ (λ (k : ℕ) (l : List ℕ). mark k ∷ x.label ∷ x.width ∷ x.owner ∷ l) (bump_there t i c n) (bump_below t c xs (suc i) (omega arith))

more_mark : (n : ℕ) → more (mark n) ≡ mark (suc n)
more_mark zero = refl
more_mark (suc zero) = refl
more_mark (suc (suc n)) = refl

zeros_at : (k i : ℕ) → get_or {A = ℕ} (replicate k 0) i 0 ≡ 0
zeros_at zero i = refl
zeros_at (suc k) zero = refl
zeros_at (suc k) (suc i) = zeros_at k i

raised_zeros : (k i : ℕ) → raised (replicate k 0) i ≡ replicate k 0
raised_zeros k i = ap (λ (n : ℕ). set (replicate k 0) i (more n)) (zeros_at k i) ∙ ap (λ (n : ℕ). set (replicate k 0) i n) (sym (zeros_at k i)) ∙ set-get_or (replicate k 0) i 0

-- four words on
raised_past : (a b d e : ℕ) (l : List ℕ) (j : ℕ) → raised (a ∷ b ∷ d ∷ e ∷ l) (4 * suc j) ≡ a ∷ b ∷ d ∷ e ∷ raised l (4 * j)
raised_past a b d e l j =
    let z : 4 * suc j ≡ suc (suc (suc (suc (4 * j)))) = omega arith in
    ap (raised (a ∷ b ∷ d ∷ e ∷ l)) z

raised_marked : (k : ℕ) (c : ℕ → ℕ) (xs : List Signal) (i j t : ℕ) → t ≡ i + j → raised (marked c i xs ++ replicate k 0) (4 * j) ≡ marked (bump t c) i xs ++ replicate k 0
raised_marked k c [] i j t e = raised_zeros k (4 * j)
raised_marked k c (x ∷ xs) i zero t e =
    let z : t ≡ i = omega arith in
    ap₂ (λ (n : ℕ) (l : List ℕ). n ∷ x.label ∷ x.width ∷ x.owner ∷ (l ++ replicate k 0)) (more_mark (c i) ∙ sym (ap mark (bump_here t i c z))) (sym (bump_below t c xs (suc i) (omega arith)))
raised_marked k c (x ∷ xs) i (suc j) t e =
    let n : t ≡ i → ⊥ = λ q. omega arith in
    let z : t ≡ suc i + j = omega arith in
    raised_past (mark (c i)) x.label x.width x.owner (marked c (suc i) xs ++ replicate k 0) j
    ∙ ap₂ (λ (n : ℕ) (l : List ℕ). mark n ∷ x.label ∷ x.width ∷ x.owner ∷ l) (sym (bump_there t i c n)) (raised_marked k c xs (suc i) j t z)

-- ALL OF THEM

target_field : (t : Stmt) → get_or (tail (stmt_words t)) 1 0 ≡ target t
target_field (assign t e) = refl
target_field (reg t n c d r e) = refl

tally_marked : (k : ℕ) (xs : List Signal) (ts : List Stmt) (c : ℕ → ℕ) → tally (marked c 0 xs ++ replicate k 0) (map (λ t. tail (stmt_words t)) ts) ≡ marked (λ s. c s + statements_on s ts) 0 xs ++ replicate k 0
unfolding tally statements_on
tally_marked k xs [] c = ap (λ (d : ℕ → ℕ). marked d 0 xs ++ replicate k 0) (fun_ext (λ s. sym (add-zero (c s))))
tally_marked k xs (t ∷ ts) c =
    ap (λ (j : ℕ). tally (raised (marked c 0 xs ++ replicate k 0) (4 * j)) (map (λ t. tail (stmt_words t)) ts)) (target_field t)
    ∙ ap (λ (l : List ℕ). tally l (map (λ t. tail (stmt_words t)) ts)) (raised_marked k c xs 0 (target t) (target t) (sym (zero-add (target t))))
    ∙ tally_marked k xs ts (bump (target t) c)
    ∙ ap (λ (d : ℕ → ℕ). marked d 0 xs ++ replicate k 0) (fun_ext (λ s. add_assoc (c s) (pick (eqb (target t) s) 1 0) (statements_on s ts)))

-- the statements of a list that holds them
zeros_split : (k : ℕ) → (split (replicate k 0)).records ≡ []
zeros_split zero = ap (λ (x : read.Cut). x.records) split_nil
zeros_split (suc k) = ap (λ (x : read.Cut). x.records) (split_zero (replicate k 0))

records_held : (k : ℕ) (ts : List Stmt) → (split (list_words stmt_words ts ++ replicate k 0)).records ≡ map (λ t. tail (stmt_words t)) ts
records_held k [] = zeros_split k
records_held k (t ∷ ts) =
    ap (λ (l : List ℕ). (split l).records) (append_assoc (stmt_words t) (list_words stmt_words ts) (replicate k 0))
    ∙ ap (λ (l : List ℕ). (split (l ++ (list_words stmt_words ts ++ replicate k 0))).records) (stmt_kind.is_sized t)
    ∙ ap (λ (x : read.Cut). x.records) (split_sized (tail (stmt_words t)) (list_words stmt_words ts ++ replicate k 0))
    ∙ ap (λ (rs : List (List ℕ)). tail (stmt_words t) ∷ rs) (records_held k ts)

-- THE LOWEST

exceeds_mark : {A : Type 0} (n l : ℕ) (x y : A) → pick (exceeds (mark n) l) x y ≡ pick (leb n (pick (eqb l 0) 0 1)) y x
exceeds_mark {A} n l x y = go (eqb l 0) n
  where
    go : (b : Bool) (n : ℕ) → pick (ltb (pick b 4 5) (mark n)) x y ≡ pick (leb n (pick b 0 1)) y x
    go true zero = refl
    go false zero = refl
    go true (suc zero) = refl
    go false (suc zero) = refl
    go true (suc (suc n)) = sym (ap (λ (b : Bool). pick b y x) (lt-leb (suc (suc n)) 0 (omega arith)))
    go false (suc (suc n)) = sym (ap (λ (b : Bool). pick b y x) (lt-leb (suc (suc n)) 1 (omega arith)))

mark_four : (n : ℕ) → ltb (mark n) 4 ≡ false
mark_four zero = refl
mark_four (suc zero) = refl
mark_four (suc (suc n)) = refl

zeros_none : (k i : ℕ) → lowest_from i (replicate k 0) ≡ None
unfolding lowest_from
zeros_none zero i = refl
zeros_none (suc zero) i = refl
zeros_none (suc (suc zero)) i = refl
zeros_none (suc (suc (suc zero))) i = refl
zeros_none (suc (suc (suc (suc k)))) i = refl

lowest_marked : (k : ℕ) (ts : List Stmt) (xs : List Signal) (i : ℕ) → lowest_from i (marked (λ s. statements_on s ts) i xs ++ replicate k 0) ≡ overdriven_from i xs ts
unfolding lowest_from overdriven_from
lowest_marked k ts [] i = zeros_none k i
lowest_marked k ts (x ∷ xs) i =
    let n = statements_on i ts in
    let left = lowest_from (suc i) (marked (λ s. statements_on s ts) (suc i) xs ++ replicate k 0) in
    ap (λ (b : Bool). pick b None (pick (exceeds (mark n) x.label) (Some i) left)) (mark_four n)
    ∙ exceeds_mark n x.label (Some i) left
    ∙ ap (λ (o : Option ℕ). pick (leb n (allowed x)) o (Some i)) (lowest_marked k ts xs (suc i))

-- BACK

zeros_same : (k : ℕ) → restored (replicate k 0) ≡ replicate k 0
unfolding restored
zeros_same zero = refl
zeros_same (suc zero) = refl
zeros_same (suc (suc zero)) = refl
zeros_same (suc (suc (suc zero))) = refl
zeros_same (suc (suc (suc (suc k)))) = refl

restored_marked : (k : ℕ) (c : ℕ → ℕ) (xs : List Signal) (i : ℕ) → restored (marked c i xs ++ replicate k 0) ≡ list_words signal_words xs ++ replicate k 0
unfolding restored
restored_marked k c [] i = zeros_same k
restored_marked k c (x ∷ xs) i =
    let left = marked c (suc i) xs ++ replicate k 0 in
    ap (λ (b : Bool). pick b (mark (c i) ∷ x.label ∷ x.width ∷ x.owner ∷ left) (4 ∷ x.label ∷ x.width ∷ x.owner ∷ restored left)) (mark_four (c i))
    ∙ ap (λ (l : List ℕ). 4 ∷ x.label ∷ x.width ∷ x.owner ∷ l) (restored_marked k c xs (suc i))

-- THE WHOLE

module _ (s m : List ℕ) (a b : ℕ) (xs : List Signal) (ts : List Stmt) (p : s ≡ holding a (list_words signal_words xs)) (q : m ≡ holding b (list_words stmt_words ts)) where
  abbrev k : ℕ
  k = a - length (list_words signal_words xs)

  counted_held : counted s m ≡ marked (λ s. statements_on s ts) 0 xs ++ replicate k 0
  counted_held =
      ap₂ (λ (x : List ℕ) (rs : List (List ℕ)). tally x rs) (p ∙ ap (λ (l : List ℕ). l ++ replicate k 0) (sym (unmarked xs 0))) (ap (λ (l : List ℕ). (split l).records) q ∙ records_held (b - length (list_words stmt_words ts)) ts)
      ∙ tally_marked k xs ts (λ s. 0)
      ∙ ap (λ (d : ℕ → ℕ). marked d 0 xs ++ replicate k 0) (fun_ext (λ s. zero-add (statements_on s ts)))

  pub judges : Judges s m xs ts
  judges = record {
    answer = ap (lowest_from 0) counted_held ∙ lowest_marked k ts xs 0;
    kept = ap restored counted_held ∙ restored_marked k (λ s. statements_on s ts) xs 0 ∙ sym p;
  }
