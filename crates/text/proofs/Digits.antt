-- A number's digits, taken one by one from its end.
use mathlib.Core.Bool.{Bool, true, false, cond}
use Rattle.std.proofs.Common.{◌≡◌, ℕ, zero, suc, ◌+◌, ◌-◌, ◌/◌, ◌%◌, ◌^◌, ◌<◌, ◌≤◌, List, [], ◌∷◌, ◌++◌, length, drop, set, ltb, refl, ap, sym, ◌∙◌, arith, append_assoc, pow-suc}
use Rattle.std.proofs.lemmas.List.{drop-set}
use borrow.Author.Tests.{lt-ltb, le-ltb, ltb-true, ltb-false}
use Rattle.text.specs.Decimal.{figures, decimal}

figures_small : (k n : ℕ) → n < 10 → figures (suc k) n ≡ (48 + n) ∷ []
figures_small k n h = ap (λ (b : Bool). cond b ((48 + n) ∷ []) (figures k (n / 10) ++ (48 + n % 10) ∷ [])) (lt-ltb n 10 h)

figures_large : (k n : ℕ) → 10 ≤ n → figures (suc k) n ≡ figures k (n / 10) ++ (48 + n % 10) ∷ []
figures_large k n h = ap (λ (b : Bool). cond b ((48 + n) ∷ []) (figures k (n / 10) ++ (48 + n % 10) ∷ [])) (le-ltb n 10 h)

-- more than a number has say the same
figures_more : (k j n : ℕ) → n < k → n < j → figures k n ≡ figures j n
figures_more zero j n h g = absurd (omega arith)
figures_more (suc k) zero n h g = absurd (omega arith)
figures_more (suc k) (suc j) n h g = go (ltb n 10) refl (λ l. figures_more k j (n / 10) (omega arith) (omega arith))
  where
    go : (b : Bool) → ltb n 10 ≡ b → (10 ≤ n → figures k (n / 10) ≡ figures j (n / 10)) → figures (suc k) n ≡ figures (suc j) n
    go true e f = let l = ltb-true n 10 e in figures_small k n l ∙ sym (figures_small j n l)
    go false e f =
        let l = ltb-false n 10 e in
        figures_large k n l
        ∙ ap (λ (x : List ℕ). x ++ (48 + n % 10) ∷ []) (f l)
        ∙ sym (figures_large j n l)

pub decimal_small : (n : ℕ) → n < 10 → decimal n ≡ (48 + n) ∷ []
unfolding decimal
decimal_small n h = figures_small n n h

pub decimal_large : (n : ℕ) → 10 ≤ n → decimal n ≡ decimal (n / 10) ++ (48 + n % 10) ∷ []
unfolding decimal
decimal_large n h =
    figures_large n n h
    ∙ ap (λ (l : List ℕ). l ++ (48 + n % 10) ∷ []) (figures_more n (suc (n / 10)) (n / 10) (omega arith) (omega arith))

-- a number of two digits at least has one fewer before its last
pub room_left : (i n : ℕ) → 10 ≤ n → n < 10 ^ i → (1 < i) × (n / 10 < 10 ^ (i - 1))
room_left zero n h g = absurd (omega arith)
room_left (suc zero) n h g = absurd (omega arith)
room_left (suc (suc j)) n h g =
    let e : suc (suc j) - 1 ≡ suc j = omega arith in
    (omega arith, rw e (omega (arith, pow-suc 10 (suc j))))

-- the last digit goes before those that are put
pub digit_step : (i n : ℕ) (out : List ℕ) → 10 ≤ n → 0 < i → i ≤ length out
    → decimal (n / 10) ++ drop (i - 1) (set out (i - 1) (48 + n % 10)) ≡ decimal n ++ drop i out
digit_step i n out h some fits =
    let lt : i - 1 < length out = omega arith in
    let e : i - 1 + 1 ≡ i = omega arith in
    ap (λ (l : List ℕ). decimal (n / 10) ++ l) (drop-set out (i - 1) (48 + n % 10) lt ∙ ap (λ (k : ℕ). (48 + n % 10) ∷ drop k out) e)
    ∙ sym (append_assoc (decimal (n / 10)) ((48 + n % 10) ∷ []) (drop i out))
    ∙ ap (λ (l : List ℕ). l ++ drop i out) (sym (decimal_large n h))

pub digit_last : (i n : ℕ) (out : List ℕ) → n < 10 → 0 < i → i ≤ length out
    → drop (i - 1) (set out (i - 1) (48 + n)) ≡ decimal n ++ drop i out
digit_last i n out h some fits =
    let lt : i - 1 < length out = omega arith in
    let e : i - 1 + 1 ≡ i = omega arith in
    drop-set out (i - 1) (48 + n) lt
    ∙ ap (λ (k : ℕ). (48 + n) ∷ drop k out) e
    ∙ ap (λ (l : List ℕ). l ++ drop i out) (sym (decimal_small n h))
