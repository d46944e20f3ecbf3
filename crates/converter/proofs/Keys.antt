-- The keys of banks are equal exactly where the banks are the same, and scanning keys finds the bank.
use mathlib.Core.Path.{◌≡◌, refl, ap, ap₂, sym, ◌∙◌, subst}
use mathlib.Core.Bool.{Bool, true, false, ◌&&◌}
use mathlib.Core.List.{List, [], ◌∷◌, ◌++◌}
use Rattle.std.specs.Prelude.{Option, None, Some}
use Prim.Native.Nat.{ℕ, zero, suc, ◌+◌, ◌-◌, ◌*◌, ◌≤◌, ◌<◌}
use native.Mathlib.Nat.{add-zero, add-suc, suc-add, zero-add}
use native.Mathlib.Numerals.{add-one}
use native.Mathlib.Decide.{ℕ_discrete}
use native.Mathlib.Omega.{arith}
use lib.Dec.{eqb}
use lib.ListN.{length, get_or, set, length-append, get_or-append}
use lib.Seq.{get_or-set_same, get_or-set_other, get_or-append-add}
use borrow.Author.Tests.{eq-eqb, ne_eqb, eqb-true, lt-ltb, le-ltb}
use Rattle.bits.specs.Bits.{pick}
use Rattle.netlist.specs.declared.Limits.{Limits}
use Rattle.netlist.specs.declared.Bit.{Bit}
use Rattle.netlist.specs.declared.Bit.TheVariants.{Zero, One, Wire}
use Rattle.netlist.specs.declared.Reset.{Reset}
use Rattle.netlist.specs.Netlist.{FlipFlop, Cell, flip_flop, bit_of}
use Rattle.netlist.specs.Fields.{word_at, when_set, reset_at, optional_reset_at, kind_at, cell_as, cell_at}
use Rattle.netlist.specs.Shape.{FitsBit, FitsOption, FitsReset, FitsFlipFlop, FitsCell}
use Rattle.netlist.specs.Reader.{same_bit}
use Rattle.behaviour.specs.Banks.{Member, filter_async, async_reset, same_reset_control, same_bank, flip_flop_of, also, bank_in, joined, leaders_from}
use Rattle.behaviour.proofs.BankLaws.{same_bit_self, same_bit_is, bank_end}
use Rattle.netlist.specs.declared.Kind.{Kind}
use Rattle.netlist.specs.declared.Kind.TheVariants as K
use Rattle.netlist.proofs.WordLaws.{cell_is}
use Rattle.converter.specs.Banked.{word_of, clock_key, control_key, reset_key, flop_at, KeyOf, first_with, find_key, larger, Keyed, number_of, number_in, with_cell, JoinedBank}

-- WORDS

pub word_of_bit : (n : ℕ) → word_of (bit_of n) ≡ n
word_of_bit zero = refl
word_of_bit (suc zero) = refl
word_of_bit (suc (suc n)) = refl

pub bit_small : (limits : Limits) (n : ℕ) → limits.wires < 1000000000 → FitsBit limits (bit_of n) → n < 1073741824
bit_small limits zero h f = omega arith
bit_small limits (suc zero) h f = omega arith
bit_small limits (suc (suc n)) h f = omega arith

word_same : (a b : Bit) → word_of a ≡ word_of b → a ≡ b
word_same Zero Zero e = refl
word_same Zero One e = absurd (omega (arith, e))
word_same Zero (Wire w) e = absurd (omega (arith, e))
word_same One Zero e = absurd (omega (arith, e))
word_same One One e = refl
word_same One (Wire w) e = absurd (omega (arith, e))
word_same (Wire v) Zero e = absurd (omega (arith, e))
word_same (Wire v) One e = absurd (omega (arith, e))
word_same (Wire v) (Wire w) e = ap Wire (let q : v ≡ w = omega (arith, e) in q)

-- TESTS THAT AGREE

same_test : (a b : Bool) → (a ≡ true → b ≡ true) → (b ≡ true → a ≡ true) → a ≡ b
same_test true true f g = refl
same_test true false f g = sym (f refl)
same_test false true f g = g refl
same_test false false f g = refl

two_true : (a b : Bool) → a && b ≡ true → (a ≡ true) × (b ≡ true)
two_true true b h = (refl, h)
two_true false b h = let z : ◌≡◌ {A = ℕ} 0 1 = cc in absurd (omega arith)

both_true : {a b : Bool} → a ≡ true → b ≡ true → a && b ≡ true
both_true {a} {b} p q = ap (λ (x : Bool). x && b) p ∙ q

-- a word and a flag: one number for both
split : (v w a b : ℕ) → a < 2 → b < 2 → v * 2 + a ≡ w * 2 + b → (v ≡ w) × (a ≡ b)
split v w a b p q e = (omega arith, omega arith)

same_clock : (a b : Bit) (x y : ℕ) → x < 2 → y < 2 → (same_bit a b && eqb x y) ≡ eqb (word_of a * 2 + x) (word_of b * 2 + y)
same_clock a b x y p q =
    same_test (same_bit a b && eqb x y) (eqb (word_of a * 2 + x) (word_of b * 2 + y))
    (λ h. let t = two_true (same_bit a b) (eqb x y) h in eq-eqb (word_of a * 2 + x) (word_of b * 2 + y) (ap₂ (λ (i j : ℕ). i * 2 + j) (ap word_of (same_bit_is a b t.0)) (eqb-true x y t.1)))
    (λ h. let t = split (word_of a) (word_of b) x y p q (eqb-true (word_of a * 2 + x) (word_of b * 2 + y) h) in both_true (subst (λ (z : Bit). same_bit a z ≡ true) (word_same a b t.0) (same_bit_self a)) (eq-eqb x y t.1))

-- an asynchronous reset is one
async_one : (o : Option Reset) (r : Reset) → filter_async o ≡ Some r → r.asynchronous ≡ 1
async_one None r e = let z : ◌≡◌ {A = ℕ} 0 1 = cc in absurd (omega arith)
async_one (Some q) r e = go (eqb q.asynchronous 1) refl e
  where
    go : (b : Bool) → eqb q.asynchronous 1 ≡ b → pick b (Some q) None ≡ Some r → r.asynchronous ≡ 1
    go true h e = let z : q ≡ r = cc in sym (ap (λ (x : Reset). x.asynchronous) z) ∙ eqb-true q.asynchronous 1 h
    go false h e = let z : ◌≡◌ {A = ℕ} 0 1 = cc in absurd (omega arith)

fits_async : (limits : Limits) (o : Option Reset) → FitsOption (FitsReset limits) o → FitsOption (FitsReset limits) (filter_async o)
fits_async limits None h = tt
fits_async limits (Some r) h = go (eqb r.asynchronous 1)
  where
    go : (b : Bool) → FitsOption (FitsReset limits) (pick b (Some r) None)
    go true = h
    go false = tt

same_control : (limits : Limits) (o p : Option Reset) → FitsOption (FitsReset limits) o → FitsOption (FitsReset limits) p → ((r : Reset) → o ≡ Some r → r.asynchronous ≡ 1) → ((r : Reset) → p ≡ Some r → r.asynchronous ≡ 1) → same_reset_control o p ≡ eqb (control_key o) (control_key p)
same_control limits None None f g x y = sym (eq-eqb 0 0 refl)
same_control limits None (Some r) f g x y = sym (ne_eqb 0 (control_key (Some r)) (λ e. omega (arith, e)))
same_control limits (Some q) None f g x y = sym (ne_eqb (control_key (Some q)) 0 (λ e. omega (arith, e)))
same_control limits (Some q) (Some r) f g x y =
    let a : q.asynchronous ≡ r.asynchronous = x q refl ∙ sym (y r refl) in
    ap (λ (b : Bool). same_bit q.signal r.signal && (eqb q.active r.active && b)) (eq-eqb q.asynchronous r.asynchronous a)
    ∙ ap (λ (b : Bool). same_bit q.signal r.signal && b) (and_true (eqb q.active r.active))
    ∙ same_clock q.signal r.signal q.active r.active f.active g.active
    ∙ same_test (eqb (word_of q.signal * 2 + q.active) (word_of r.signal * 2 + r.active)) (eqb (control_key (Some q)) (control_key (Some r)))
    (λ h. eq-eqb (control_key (Some q)) (control_key (Some r)) (ap suc (eqb-true (word_of q.signal * 2 + q.active) (word_of r.signal * 2 + r.active) h)))
    (λ h. eq-eqb (word_of q.signal * 2 + q.active) (word_of r.signal * 2 + r.active) (down (eqb-true (control_key (Some q)) (control_key (Some r)) h)))
  where
    and_true : (b : Bool) → b && true ≡ b
    and_true true = refl
    and_true false = refl

    down : {m n : ℕ} → suc m ≡ suc n → m ≡ n
    down e = omega (arith, e)

and_assoc : (a b c : Bool) → (a && (b && c)) ≡ ((a && b) && c)
and_assoc true b c = refl
and_assoc false b c = refl

pub same_keys : (limits : Limits) (l f : FlipFlop) → FitsFlipFlop limits l → FitsFlipFlop limits f → same_bank l f ≡ (eqb (clock_key l) (clock_key f) && eqb (reset_key l) (reset_key f))
same_keys limits l f p q =
    and_assoc (same_bit l.clock f.clock) (eqb l.edge f.edge) (same_reset_control (async_reset l) (async_reset f))
    ∙ ap₂ (λ (a b : Bool). a && b) (same_clock l.clock f.clock l.edge f.edge p.edge q.edge)
    (same_control limits (async_reset l) (async_reset f) (fits_async limits l.reset p.reset) (fits_async limits f.reset q.reset) (λ r e. async_one l.reset r e) (λ r e. async_one f.reset r e))

-- THE KEY OF A RESET

present : {A : Type 0} (n : ℕ) (a : A) → (n ≡ 0 → ⊥) → when_set n a ≡ Some a
present zero a h = absurd (h refl)
present (suc n) a h = refl

module _ (words : List ℕ) (i : ℕ) where
  abbrev reset : Reset
  reset = reset_at words (i + 8 + 1)

  nine : word_at words (i + 8 + 1) ≡ word_at words (i + 9)
  nine = let e : i + 8 + 1 ≡ i + 9 = omega arith in ap (word_at words) e

  ten : word_at words (i + 8 + 1 + 1) ≡ word_at words (i + 10)
  ten = let e : i + 8 + 1 + 1 ≡ i + 10 = omega arith in ap (word_at words) e

  eleven : word_at words (i + 8 + 1 + 2) ≡ word_at words (i + 11)
  eleven = let e : i + 8 + 1 + 2 ≡ i + 11 = omega arith in ap (word_at words) e

  pub reset_absent : {f : ℕ} → f ≡ word_at words (i + 8) → f ≡ 0 → 0 ≡ reset_key (flop_at words i)
  reset_absent e z = sym (ap (λ (n : ℕ). control_key (filter_async (when_set n reset))) (sym e ∙ z))

  module _ {f y : ℕ} (e : f ≡ word_at words (i + 8)) (there : f ≡ 0 → ⊥) (d : y ≡ word_at words (i + 11)) where
    is : optional_reset_at words (i + 8) ≡ Some reset
    is = present (word_at words (i + 8)) reset (λ z. there (e ∙ z))

    pub reset_sync : (y ≡ 1 → ⊥) → 0 ≡ reset_key (flop_at words i)
    reset_sync n = sym (ap (λ (o : Option Reset). control_key (filter_async o)) is ∙ ap (λ (b : Bool). control_key (pick b (Some reset) None)) (ne_eqb (word_at words (i + 8 + 1 + 2)) 1 (λ q. n (d ∙ sym eleven ∙ q))))

    pub reset_async : y ≡ 1 → {s a k : ℕ} → s ≡ word_at words (i + 9) → a ≡ word_at words (i + 10) → KeyOf s a k → (limits : Limits) → limits.wires < 1000000000 → FitsFlipFlop limits (flop_at words i) → k + 1 ≡ reset_key (flop_at words i)
    reset_async one {s} {a} {k} p q h limits small fits =
        let r : FitsReset limits reset = subst (FitsOption (FitsReset limits)) is fits.reset in
        let b : s < 1073741824 = bit_small limits s small (subst (λ (n : ℕ). FitsBit limits (bit_of n)) (nine ∙ sym p) r.signal) in
        let c : a < 2 = subst (λ (n : ℕ). n < 2) (ten ∙ sym q) r.active in
        let key : k ≡ s * 2 + a = h.is b c in
        add-one k ∙ ap suc (key ∙ ap₂ (λ (m n : ℕ). m * 2 + n) (p ∙ sym nine ∙ sym (word_of_bit (word_at words (i + 8 + 1)))) (q ∙ sym ten))
        ∙ sym (ap (λ (o : Option Reset). control_key (filter_async o)) is ∙ ap (λ (b : Bool). control_key (pick b (Some reset) None)) (eq-eqb (word_at words (i + 8 + 1 + 2)) 1 (eleven ∙ sym d ∙ one)))

-- SCANNING

module _ (p : ℕ → Bool) where
  pub first_start : (n : ℕ) → 0 + first_with p (n - 0) 0 ≡ first_with p n 0
  first_start n = let z : n - 0 ≡ n = omega arith in zero-add (first_with p (n - 0) 0) ∙ ap (λ (k : ℕ). first_with p k 0) z

  step : (n i : ℕ) → i < n → first_with p (n - i) i ≡ pick (p i) 0 (suc (first_with p (n - (i + 1)) (i + 1)))
  unfolding first_with
  step n i h =
      let e : n - i ≡ suc (n - (i + 1)) = omega arith in
      ap (λ (k : ℕ). first_with p k i) e ∙ ap (λ (k : ℕ). pick (p i) 0 (suc (first_with p (n - (i + 1)) k))) (sym (add-one i))

  module _ {n i : ℕ} (so : i + first_with p (n - i) i ≡ first_with p n 0) where
    pub first_hit : i < n → {t : Bool} → t ≡ p i → t ≡ true → i ≡ first_with p n 0
    first_hit h e q = sym (add-zero i) ∙ sym (ap (λ (k : ℕ). i + k) (step n i h ∙ ap (λ (x : Bool). pick x 0 (suc (first_with p (n - (i + 1)) (i + 1)))) (sym e ∙ q))) ∙ so

    pub first_miss : i < n → {t : Bool} → t ≡ p i → t ≡ false → i + 1 + first_with p (n - (i + 1)) (i + 1) ≡ first_with p n 0
    first_miss h e q = one_more i (first_with p (n - (i + 1)) (i + 1)) ∙ sym (ap (λ (k : ℕ). i + k) (step n i h ∙ ap (λ (x : Bool). pick x 0 (suc (first_with p (n - (i + 1)) (i + 1)))) (sym e ∙ q))) ∙ so
      where
        one_more : (x y : ℕ) → x + 1 + y ≡ x + suc y
        one_more x y = omega arith

    pub first_end : i ≤ n → n ≤ i → n ≡ first_with p n 0
    unfolding first_with
    first_end h g =
        let z : n - i ≡ 0 = omega arith in
        let e : n ≡ i = omega arith in
        e ∙ sym (add-zero i) ∙ sym (ap (λ (k : ℕ). i + first_with p k i) z) ∙ so

-- the key's place is the bank's
module _ (limits : Limits) (parts values : List ℕ) (f : FlipFlop) (fits : FitsFlipFlop limits f) where
  scan : (ls : List Member) (j : ℕ) → ((b : ℕ) (d : Member) → b < length ls → get_or parts (j + b) 0 ≡ clock_key (get_or ls b d).flop) → ((b : ℕ) (d : Member) → b < length ls → get_or values (j + b) 0 ≡ reset_key (get_or ls b d).flop)
      → ((b : ℕ) (d : Member) → b < length ls → FitsFlipFlop limits (get_or ls b d).flop) → find_key parts values (clock_key f) (reset_key f) (length ls) j ≡ bank_in ls f
  unfolding first_with bank_in
  scan [] j p q r = refl
  scan (l ∷ ls) j p q r =
      ap₂ (λ (b : Bool) (k : ℕ). pick b 0 (suc k))
      (ap₂ (λ (x y : ℕ). eqb x (clock_key f) && eqb y (reset_key f)) (ap (λ (k : ℕ). get_or parts k 0) (sym (add-zero j)) ∙ p 0 l (omega arith)) (ap (λ (k : ℕ). get_or values k 0) (sym (add-zero j)) ∙ q 0 l (omega arith)) ∙ sym (same_keys limits l.flop f (r 0 l (omega arith)) fits))
      (scan ls (suc j) (λ b d h. ap (λ (k : ℕ). get_or parts k 0) (suc-add j b ∙ sym (add-suc j b)) ∙ p (suc b) d (omega arith)) (λ b d h. ap (λ (k : ℕ). get_or values k 0) (suc-add j b ∙ sym (add-suc j b)) ∙ q (suc b) d (omega arith)) (λ b d h. r (suc b) d (omega arith)))

  pub scan_finds : {ls : List Member} {count : ℕ} → Keyed limits ls parts values count → find_key parts values (clock_key f) (reset_key f) count 0 ≡ bank_in ls f
  scan_finds {ls} k =
      ap (λ (n : ℕ). find_key parts values (clock_key f) (reset_key f) n 0) k.long
      ∙ scan ls 0 (λ b d h. ap (λ (i : ℕ). get_or parts i 0) (zero-add b) ∙ k.clocks b d h) (λ b d h. ap (λ (i : ℕ). get_or values i 0) (zero-add b) ∙ k.resets b d h) (λ b d h. k.fits b d h)

pub bank_most : (ls : List Member) (f : FlipFlop) → bank_in ls f ≤ length ls
unfolding bank_in
bank_most [] f = omega arith
bank_most (l ∷ ls) f = go (same_bank l.flop f) (bank_most ls f)
  where
    go : (b : Bool) → bank_in ls f ≤ length ls → pick b 0 (suc (bank_in ls f)) ≤ suc (length ls)
    go true h = omega arith
    go false h = omega arith

-- A CELL JOINS

pub larger_left : (a b : ℕ) → b ≤ a → larger a b ≡ a
larger_left a b h = ap (λ (t : Bool). pick t b a) (le-ltb a b h)

pub larger_right : (a b : ℕ) → a < b → larger a b ≡ b
larger_right a b h = ap (λ (t : Bool). pick t b a) (lt-ltb a b h)

kind_none : (words : List ℕ) (i : ℕ) (k : Kind) → (k ≡ K.FlipFlop → ⊥) → flip_flop_of (cell_as words k i) ≡ None
kind_none words i K.Lut4 h = refl
kind_none words i K.Pfumx h = refl
kind_none words i K.L6mux21 h = refl
kind_none words i K.Ccu2c h = refl
kind_none words i K.Multiplier h = refl
kind_none words i K.FlipFlop h = absurd (h refl)
kind_none words i K.BlockRam h = refl
kind_none words i K.DistributedRam h = refl
kind_none words i K.Io h = refl
kind_none words i K.Jtagg h = refl
kind_none words i K.Pll h = refl

pub no_flop : (words : List ℕ) (i : ℕ) → (kind_at words i ≡ K.FlipFlop → ⊥) → flip_flop_of (cell_at words i) ≡ None
no_flop words i h = ap flip_flop_of (cell_is words i (kind_at words i) refl) ∙ kind_none words i (kind_at words i) h

pub a_flop : (words : List ℕ) (i : ℕ) → kind_at words i ≡ K.FlipFlop → cell_at words i ≡ flip_flop (flop_at words i)
a_flop words i h = cell_is words i K.FlipFlop h

module _ (words : List ℕ) (i : ℕ) where
  -- no flip-flop: nothing changes
  pub join_none : (kind_at words i ≡ K.FlipFlop → ⊥) → (limits : Limits) (ls : List Member) (c : ℕ) (parts values : List ℕ) (count : ℕ) → Keyed limits ls parts values count → JoinedBank limits ls c (cell_at words i) count 0 parts values
  unfolding leaders_from
  join_none h limits ls c parts values count keyed =
      let e : with_cell ls c (cell_at words i) ≡ ls = ap (λ (o : Option FlipFlop). leaders_from ls (also o c [])) (no_flop words i h) in
      record {
        number = sym (ap (number_of (with_cell ls c (cell_at words i))) (no_flop words i h));
        keyed = subst (λ (x : List Member). Keyed limits x parts values (larger count 0)) (sym e) (subst (Keyed limits ls parts values) (sym (larger_left count 0 (omega arith))) keyed);
      }

  module _ (flop : kind_at words i ≡ K.FlipFlop) (limits : Limits) (small : limits.wires < 1000000000) (fits : FitsCell limits (cell_at words i)) where
    abbrev f : FlipFlop
    f = flop_at words i

    pub fit : FitsFlipFlop limits f
    fit = subst (FitsCell limits) (a_flop words i flop) fits

    pub clock_is : {w e a : ℕ} → w ≡ word_at words (i + 3) → e ≡ word_at words (i + 4) → KeyOf w e a → a ≡ clock_key f
    clock_is {w} {e} {a} p q h =
        h.is (bit_small limits w small (subst (λ (n : ℕ). FitsBit limits (bit_of n)) (sym p) fit.clock)) (subst (λ (n : ℕ). n < 2) (sym q) fit.edge)
        ∙ ap₂ (λ (m n : ℕ). m * 2 + n) (p ∙ sym (word_of_bit (word_at words (i + 3)))) q

    module _ (ls : List Member) (c : ℕ) (parts values : List ℕ) (count : ℕ) (keyed : Keyed limits ls parts values count) where
      abbrev m : Member
      m = record { cell = c; flop = f }

      with_is : with_cell ls c (cell_at words i) ≡ joined ls m
      unfolding leaders_from
      with_is = ap (λ (x : Cell). leaders_from ls (also (flip_flop_of x) c [])) (a_flop words i flop)

      number_is : (ls' : List Member) → number_in ls' (cell_at words i) ≡ suc (bank_in ls' f)
      number_is ls' = ap (number_in ls') (a_flop words i flop)

      module _ {a b bank : ℕ} (ka : a ≡ clock_key f) (kb : b ≡ reset_key f) (found : bank ≡ find_key parts values a b count 0) where
        bank_is : bank ≡ bank_in ls f
        bank_is = found ∙ ap₂ (λ (x y : ℕ). find_key parts values x y count 0) ka kb ∙ scan_finds limits parts values f fit keyed

        pub bank_small : bank ≤ count
        bank_small = omega (arith, bank_is, bank_most ls f, keyed.long)

        -- its bank is there
        pub join_there : (bank ≡ count → ⊥) → JoinedBank limits ls c (cell_at words i) count (bank + 1) parts values
        join_there n =
            let lt : bank_in ls f < length ls = omega (arith, bank_is, bank_most ls f, keyed.long, n) in
            let e : with_cell ls c (cell_at words i) ≡ ls = with_is ∙ ap (λ (t : Bool). pick t ls (ls ++ (m ∷ []))) (lt-ltb (bank_in ls f) (length ls) lt) in
            record {
              number = add-one bank ∙ ap suc bank_is ∙ sym (ap (λ (x : List Member). number_in x (cell_at words i)) e ∙ number_is ls);
              keyed = subst (λ (x : List Member). Keyed limits x parts values (larger count (bank + 1))) (sym e) (subst (Keyed limits ls parts values) (sym (larger_left count (bank + 1) (omega (arith, bank_is, lt, keyed.long)))) keyed);
            }

        -- it founds one
        pub join_new : bank ≡ count → count < length parts → count < length values → JoinedBank limits ls c (cell_at words i) count (bank + 1) (set parts count a) (set values count b)
        join_new n in_first in_second =
            record {
              number = add-one bank ∙ ap suc (n ∙ keyed.long ∙ sym (bank_end ls m (omega (arith, bank_is, n, keyed.long)))) ∙ sym (ap (λ (x : List Member). number_in x (cell_at words i)) e ∙ number_is (ls ++ (m ∷ [])));
              keyed = subst (λ (x : List Member). Keyed limits x (set parts count a) (set values count b) (larger count (bank + 1))) (sym e) (record {
                long = larger_right count (bank + 1) (omega (arith, n)) ∙ ap (λ (x : ℕ). x + 1) (n ∙ keyed.long) ∙ sym (length-append ls (m ∷ []));
                clocks = λ b' d h. at_end (λ (x : FlipFlop). clock_key x) parts a in_first ka (λ b'' d'. keyed.clocks b'' d') b' d h;
                resets = λ b' d h. at_end (λ (x : FlipFlop). reset_key x) values b in_second kb (λ b'' d'. keyed.resets b'' d') b' d h;
                fits = λ b' d h. fits_end b' d h (ℕ_discrete b' (length ls));
              });
            }
          where
            e : with_cell ls c (cell_at words i) ≡ ls ++ (m ∷ [])
            e = with_is ∙ ap (λ (t : Bool). pick t ls (ls ++ (m ∷ []))) (le-ltb (bank_in ls f) (length ls) (omega (arith, bank_is, n, keyed.long)))

            last_is : (d : Member) → get_or (ls ++ (m ∷ [])) (length ls) d ≡ m
            last_is d = ap (λ (k : ℕ). get_or (ls ++ (m ∷ [])) k d) (sym (add-zero (length ls))) ∙ get_or-append-add ls (m ∷ []) 0 d

            inner : (b' : ℕ) (d : Member) → b' < length ls → get_or (ls ++ (m ∷ [])) b' d ≡ get_or ls b' d
            inner b' d h = get_or-append ls (m ∷ []) d b' h

            before : (b' : ℕ) → b' < length (ls ++ (m ∷ [])) → (b' ≡ length ls → ⊥) → b' < length ls
            before b' h q = omega (arith, h, length-append ls (m ∷ []), q)

            fits_end : (b' : ℕ) (d : Member) → b' < length (ls ++ (m ∷ [])) → Dec (b' ≡ length ls) → FitsFlipFlop limits (get_or (ls ++ (m ∷ [])) b' d).flop
            fits_end b' d h (yes q) = subst (λ (x : Member). FitsFlipFlop limits x.flop) (sym (ap (λ (k : ℕ). get_or (ls ++ (m ∷ [])) k d) q ∙ last_is d)) fit
            fits_end b' d h (no q) = subst (λ (x : Member). FitsFlipFlop limits x.flop) (sym (inner b' d (before b' h q))) (keyed.fits b' d (before b' h q))

            at_end : (key : FlipFlop → ℕ) (l : List ℕ) (v : ℕ) → count < length l → v ≡ key f → ((b' : ℕ) (d : Member) → b' < length ls → get_or l b' 0 ≡ key (get_or ls b' d).flop) → (b' : ℕ) (d : Member) → b' < length (ls ++ (m ∷ [])) → get_or (set l count v) b' 0 ≡ key (get_or (ls ++ (m ∷ [])) b' d).flop
            at_end key l v inside is old b' d h = go (ℕ_discrete b' (length ls))
              where
                go : Dec (b' ≡ length ls) → get_or (set l count v) b' 0 ≡ key (get_or (ls ++ (m ∷ [])) b' d).flop
                go (yes q) = ap (λ (k : ℕ). get_or (set l count v) k 0) (q ∙ sym keyed.long) ∙ get_or-set_same l count v 0 inside ∙ is ∙ sym (ap (λ (x : Member). key x.flop) (ap (λ (k : ℕ). get_or (ls ++ (m ∷ [])) k d) q ∙ last_is d))
                go (no q) = get_or-set_other l count b' v 0 (λ r. q (r ∙ keyed.long)) ∙ old b' d (before b' h q) ∙ sym (ap (λ (x : Member). key x.flop) (inner b' d (before b' h q)))

-- the works under other names
pub joined_as : {limits : Limits} {ls : List Member} {c : ℕ} {x : Cell} {count r : ℕ} {parts values parts' values' : List ℕ} → parts' ≡ parts → values' ≡ values → JoinedBank limits ls c x count r parts values → JoinedBank limits ls c x count r parts' values'
joined_as {limits} {ls} {c} {x} {count} {r} {parts} {values} {parts'} {values'} p q h =
    subst (λ (l : List ℕ). JoinedBank limits ls c x count r l values') (sym p) (subst (λ (l : List ℕ). JoinedBank limits ls c x count r parts l) (sym q) h)
