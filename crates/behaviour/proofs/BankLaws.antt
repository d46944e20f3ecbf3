-- Every flip-flop is in one bank, with those of its clock, edge and asynchronous reset control; a bank's leader is its first member.
-- Assumes nothing.
use mathlib.Core.Path.{◌≡◌, refl, ap, sym, ◌∙◌, subst}
use mathlib.Core.Logic.{◌⊎◌, inl, inr}
use mathlib.Core.Bool.{Bool, true, false, ◌&&◌, false≢true}
use mathlib.Core.List.Memᴰ.{cases_cons}
use mathlib.Core.List.Memᴰ.{head as here}
use mathlib.Core.List.Memᴰ.{not-nil}
use mathlib.Core.List.Memᴰ.{tail as there}
use mathlib.Core.List.{List, [], ◌∷◌, ◌++◌, append-nil, append_assoc, Memᴰ as Mem}
use Rattle.std.specs.Prelude.{Option, None, Some}
use Prim.Native.Nat.{ℕ, zero, suc, ◌+◌, ◌≤◌, ◌<◌}
use native.Mathlib.Nat.{le_of_suc-le-suc, not-suc-le-zero}
use native.Mathlib.Omega.{arith}
use lib.Dec.{eqb, ltb}
use lib.ListN.{length, get_or, length-append}
use borrow.Author.Tests.{eq-eqb, ne_eqb, eqb-true, ltb-true, ltb-false}
use Rattle.bits.specs.Bits.{pick}
use Rattle.netlist.specs.declared.Reset.{Reset}
use Rattle.netlist.specs.declared.Bit.{Bit}
use Rattle.netlist.specs.declared.Bit.TheVariants.{Zero, One, Wire}
use Rattle.netlist.specs.Netlist.{FlipFlop, Cell, lut4, pfumx, l6mux21, ccu2c, multiplier, flip_flop, block_ram, distributed_ram, io, jtagg, pll}
use Rattle.netlist.specs.Reader.{same_bit}
use Rattle.netlist.specs.Shape.{Each}
use Rattle.behaviour.specs.Banks.{Member, Bank, filter_async, async_reset, same_reset_control, same_bank, flip_flop_of, also, flip_flops_from, bank_in, joined, leaders_from, kept, members_of, banks_from, flip_flops_of, leaders_of, collect_flip_flop_banks}
use Rattle.behaviour.specs.Behaviour.{Valuation, asserted, resetting, absent}

-- TESTS

by_test : {A : Type 0} (S : A → Type 0) (b : Bool) {x y : A} → (b ≡ true → S x) → (b ≡ false → S y) → S (pick b x y)
by_test S true f g = f refl
by_test S false f g = g refl

and_true : (a b : Bool) → a ≡ true → b ≡ true → a && b ≡ true
and_true a b p q = ap (λ (x : Bool). x && b) p ∙ q

both : (a b : Bool) → a && b ≡ true → (a ≡ true) × (b ≡ true)
both true b h = (refl, h)
both false b h = absurd (false≢true h)

-- ONE BANK

pub same_bit_self : (b : Bit) → same_bit b b ≡ true
same_bit_self Zero = refl
same_bit_self One = refl
same_bit_self (Wire w) = eq-eqb w w refl

pub same_bit_is : (b c : Bit) → same_bit b c ≡ true → b ≡ c
same_bit_is Zero Zero h = refl
same_bit_is Zero One h = absurd (false≢true h)
same_bit_is Zero (Wire w) h = absurd (false≢true h)
same_bit_is One Zero h = absurd (false≢true h)
same_bit_is One One h = refl
same_bit_is One (Wire w) h = absurd (false≢true h)
same_bit_is (Wire v) Zero h = absurd (false≢true h)
same_bit_is (Wire v) One h = absurd (false≢true h)
same_bit_is (Wire v) (Wire w) h = ap Wire (eqb-true v w h)

same_reset_self : (o : Option Reset) → same_reset_control o o ≡ true
same_reset_self None = refl
same_reset_self (Some r) =
    and_true (same_bit r.signal r.signal) _ (same_bit_self r.signal) (and_true (eqb r.active r.active) (eqb r.asynchronous r.asynchronous) (eq-eqb r.active r.active refl) (eq-eqb r.asynchronous r.asynchronous refl))

-- a flip-flop is in its own bank
pub same_bank_self : (f : FlipFlop) → same_bank f f ≡ true
same_bank_self f =
    and_true (same_bit f.clock f.clock) _ (same_bit_self f.clock) (and_true (eqb f.edge f.edge) (same_reset_control (async_reset f) (async_reset f)) (eq-eqb f.edge f.edge refl) (same_reset_self (async_reset f)))

-- what two asynchronous resets of one control have in common
abbrev pub OneControl : Option Reset → Option Reset → Type 0
OneControl None None = Unit {0}
OneControl None (Some r) = ⊥
OneControl (Some q) None = ⊥
OneControl (Some q) (Some r) = (q.signal ≡ r.signal) × (q.active ≡ r.active) × (q.asynchronous ≡ r.asynchronous)

one_control : (o p : Option Reset) → same_reset_control o p ≡ true → OneControl o p
one_control None None h = tt
one_control None (Some r) h = absurd (false≢true h)
one_control (Some q) None h = absurd (false≢true h)
one_control (Some q) (Some r) h =
    let a = both (same_bit q.signal r.signal) (eqb q.active r.active && eqb q.asynchronous r.asynchronous) h in
    let b = both (eqb q.active r.active) (eqb q.asynchronous r.asynchronous) a.1 in
    (same_bit_is q.signal r.signal a.0, eqb-true q.active r.active b.0, eqb-true q.asynchronous r.asynchronous b.1)

-- what two flip-flops of one bank have in common
pub record Mates (l f : FlipFlop) : Type 0 where
  pub clock : l.clock ≡ f.clock
  pub edge : l.edge ≡ f.edge
  pub reset : OneControl (async_reset l) (async_reset f)

pub same_bank_mates : (l f : FlipFlop) → same_bank l f ≡ true → Mates l f
same_bank_mates l f h =
    let a = both (same_bit l.clock f.clock) (eqb l.edge f.edge && same_reset_control (async_reset l) (async_reset f)) h in
    let b = both (eqb l.edge f.edge) (same_reset_control (async_reset l) (async_reset f)) a.1 in
    record { clock = same_bit_is l.clock f.clock a.0; edge = eqb-true l.edge f.edge b.0; reset = one_control (async_reset l) (async_reset f) b.1 }

-- an asynchronous reset alone tells whether a flip-flop is being reset asynchronously
async_alone : (v : Valuation) (o : Option Reset) → resetting v 1 o ≡ resetting v 1 (filter_async o)
async_alone v None = refl
async_alone v (Some r) = go (eqb r.asynchronous 1) refl
  where
    go : (b : Bool) → eqb r.asynchronous 1 ≡ b → b && asserted v r.signal r.active ≡ resetting v 1 (pick b (Some r) None)
    go true e = sym (ap (λ (x : Bool). x && asserted v r.signal r.active) e)
    go false e = refl

one_control_resets : (v : Valuation) (o p : Option Reset) → OneControl o p → resetting v 1 o ≡ resetting v 1 p
one_control_resets v None None h = refl
one_control_resets v None (Some r) h = absurd h
one_control_resets v (Some q) None h = absurd h
one_control_resets v (Some q) (Some r) h =
    ap (λ (a : ℕ). eqb a 1 && asserted v q.signal q.active) h.2
    ∙ ap (λ (s : Bit). eqb r.asynchronous 1 && asserted v s q.active) h.0
    ∙ ap (λ (a : ℕ). eqb r.asynchronous 1 && asserted v r.signal a) h.1

-- flip-flops of one bank are reset together
pub mates_reset : (v : Valuation) (l f : FlipFlop) → Mates l f → resetting v 1 l.reset ≡ resetting v 1 f.reset
mates_reset v l f m = async_alone v l.reset ∙ one_control_resets v (async_reset l) (async_reset f) m.reset ∙ sym (async_alone v f.reset)

-- WHERE A FLIP-FLOP IS FOUND

-- one found stays where it is found
pub bank_here : (ls more : List Member) (f : FlipFlop) → bank_in ls f < length ls → bank_in (ls ++ more) f ≡ bank_in ls f
unfolding bank_in
bank_here [] more f h = absurd (not-suc-le-zero h)
bank_here (l ∷ ls) more f h = go (same_bank l.flop f) (λ k. bank_here ls more f k) h
  where
    go : (b : Bool) → (bank_in ls f < length ls → bank_in (ls ++ more) f ≡ bank_in ls f) → pick b 0 (suc (bank_in ls f)) < suc (length ls) → pick b 0 (suc (bank_in (ls ++ more) f)) ≡ pick b 0 (suc (bank_in ls f))
    go true ih k = refl
    go false ih k = ap suc (ih (le_of_suc-le-suc k))

-- one not found leads the next bank
pub bank_end : (ls : List Member) (m : Member) → length ls ≤ bank_in ls m.flop → bank_in (ls ++ (m ∷ [])) m.flop ≡ length ls
unfolding bank_in
bank_end [] m h = ap (λ (b : Bool). pick b 0 1) (same_bank_self m.flop)
bank_end (l ∷ ls) m h = go (same_bank l.flop m.flop) (λ k. bank_end ls m k) h
  where
    go : (b : Bool) → (length ls ≤ bank_in ls m.flop → bank_in (ls ++ (m ∷ [])) m.flop ≡ length ls) → suc (length ls) ≤ pick b 0 (suc (bank_in ls m.flop)) → pick b 0 (suc (bank_in (ls ++ (m ∷ [])) m.flop)) ≡ suc (length ls)
    go true ih k = absurd (not-suc-le-zero k)
    go false ih k = ap suc (ih (le_of_suc-le-suc k))

-- the leader that is found is a mate
pub bank_found : (ls : List Member) (f : FlipFlop) (d : Member) → bank_in ls f < length ls → same_bank (get_or ls (bank_in ls f) d).flop f ≡ true
unfolding bank_in
bank_found [] f d h = absurd (not-suc-le-zero h)
bank_found (l ∷ ls) f d h = go (same_bank l.flop f) refl (λ k. bank_found ls f d k) h
  where
    go : (b : Bool) → same_bank l.flop f ≡ b → (bank_in ls f < length ls → same_bank (get_or ls (bank_in ls f) d).flop f ≡ true) → pick b 0 (suc (bank_in ls f)) < suc (length ls) → same_bank (get_or (l ∷ ls) (pick b 0 (suc (bank_in ls f))) d).flop f ≡ true
    go true e ih k = e
    go false e ih k = ih (le_of_suc-le-suc k)

-- LEADERS

-- `all` begins with ls
record More (ls all : List Member) : Type 0 where
  more : List Member
  is : all ≡ ls ++ more

more_self : (ls : List Member) → More ls ls
more_self ls = record { more = []; is = sym (append-nil ls) }

joined_more : (ls : List Member) (m : Member) → More ls (joined ls m)
joined_more ls m = by_test (More ls) (ltb (bank_in ls m.flop) (length ls)) (λ q. more_self ls) (λ q. record { more = m ∷ []; is = refl })

leaders_more : (ms ls : List Member) → More ls (leaders_from ls ms)
unfolding leaders_from
leaders_more [] ls = more_self ls
leaders_more (m ∷ ms) ls =
    let a = joined_more ls m in
    let b = leaders_more ms (joined ls m) in
    record { more = a.more ++ b.more; is = b.is ∙ ap (λ (x : List Member). x ++ b.more) a.is ∙ append_assoc ls a.more b.more }

-- what is found among the first leaders is found there among all
found_stays : (ls all : List Member) (f : FlipFlop) → More ls all → bank_in ls f < length ls → bank_in all f ≡ bank_in ls f
found_stays ls all f r h = ap (λ (x : List Member). bank_in x f) r.is ∙ bank_here ls r.more f h

more_longer : (ls all : List Member) → More ls all → length ls ≤ length all
more_longer ls all r = omega (arith, ap length r.is ∙ length-append ls r.more)

-- after joining, a flip-flop is found
joined_found : (ls : List Member) (m : Member) → bank_in (joined ls m) m.flop < length (joined ls m)
joined_found ls m = by_test (λ (x : List Member). bank_in x m.flop < length x) (ltb (bank_in ls m.flop) (length ls)) (λ q. ltb-true (bank_in ls m.flop) (length ls) q) (λ q. omega (arith, bank_end ls m (ltb-false (bank_in ls m.flop) (length ls) q), length-append ls (m ∷ [])))

-- every flip-flop is found among the leaders
found_from : (ms ls : List Member) (m : Member) → Mem m ms → bank_in (leaders_from ls ms) m.flop < length (leaders_from ls ms)
unfolding leaders_from
found_from [] ls m e = absurd (not-nil e)
found_from (x ∷ ms) ls m e = go (λ (q : Mem m ms). found_from ms (joined ls x) m q) (cases_cons e)
  where
    all : List Member
    all = leaders_from (joined ls x) ms

    self : bank_in all x.flop < length all
    self =
        let r = leaders_more ms (joined ls x) in
        omega (arith, found_stays (joined ls x) all x.flop r (joined_found ls x), joined_found ls x, more_longer (joined ls x) all r)

    go : (Mem m ms → bank_in all m.flop < length all) → (m ≡ x) ⊎ Mem m ms → bank_in all m.flop < length all
    go f (inl p) = subst (λ (y : Member). bank_in all y.flop < length all) (sym p) self
    go f (inr q) = f q

pub flop_banked : (cells : List Cell) (m : Member) → Mem m (flip_flops_of cells) → bank_in (leaders_of cells) m.flop < length (leaders_of cells)
flop_banked cells m e = found_from (flip_flops_of cells) [] m e

-- MEMBERS

kept_few : (b : Bool) (m : Member) (ms : List Member) → length (kept b m ms) ≤ suc (length ms)
kept_few true m ms = omega arith
kept_few false m ms = omega arith

members_few : (ls : List Member) (b : ℕ) (ms : List Member) → length (members_of ls b ms) ≤ length ms
unfolding members_of
members_few ls b [] = omega arith
members_few ls b (m ∷ ms) = omega (arith, members_few ls b ms, kept_few (eqb (bank_in ls m.flop) b) m (members_of ls b ms))

-- a member of bank b is one of the flip-flops, and finds bank b
pub member_is : (ls : List Member) (b : ℕ) (ms : List Member) (m : Member) → Mem m (members_of ls b ms) → Mem m ms × (bank_in ls m.flop ≡ b)
unfolding members_of
member_is ls b [] m e = absurd (not-nil e)
member_is ls b (x ∷ ms) m e = go (eqb (bank_in ls x.flop) b) refl (λ (q : Mem m (members_of ls b ms)). member_is ls b ms m q) e
  where
    later : (Mem m (members_of ls b ms) → Mem m ms × (bank_in ls m.flop ≡ b)) → Mem m (members_of ls b ms) → Mem m (x ∷ ms) × (bank_in ls m.flop ≡ b)
    later f q = let r = f q in (there r.0, r.1)

    first : bank_in ls x.flop ≡ b → (Mem m (members_of ls b ms) → Mem m ms × (bank_in ls m.flop ≡ b)) → (m ≡ x) ⊎ Mem m (members_of ls b ms) → Mem m (x ∷ ms) × (bank_in ls m.flop ≡ b)
    first h f (inl p) = (here p, ap (λ (y : Member). bank_in ls y.flop) p ∙ h)
    first h f (inr q) = later f q

    go : (t : Bool) → eqb (bank_in ls x.flop) b ≡ t → (Mem m (members_of ls b ms) → Mem m ms × (bank_in ls m.flop ≡ b)) → Mem m (kept t x (members_of ls b ms)) → Mem m (x ∷ ms) × (bank_in ls m.flop ≡ b)
    go true h f q = first (eqb-true (bank_in ls x.flop) b h) f (cases_cons q)
    go false h f q = later f q

-- and each flip-flop that finds bank b is a member
pub is_member : (ls : List Member) (b : ℕ) (ms : List Member) (m : Member) → Mem m ms → bank_in ls m.flop ≡ b → Mem m (members_of ls b ms)
unfolding members_of
is_member ls b [] m e h = absurd (not-nil e)
is_member ls b (x ∷ ms) m e h = go (λ (q : Mem m ms). is_member ls b ms m q h) (cases_cons e)
  where
    keep : (t : Bool) → Mem m (members_of ls b ms) → Mem m (kept t x (members_of ls b ms))
    keep true q = there q
    keep false q = q

    go : (Mem m ms → Mem m (members_of ls b ms)) → (m ≡ x) ⊎ Mem m ms → Mem m (kept (eqb (bank_in ls x.flop) b) x (members_of ls b ms))
    go f (inl p) = subst (λ (t : Bool). Mem m (kept t x (members_of ls b ms))) (sym (eq-eqb (bank_in ls x.flop) b (ap (λ (y : Member). bank_in ls y.flop) (sym p) ∙ h))) (here p)
    go f (inr q) = keep (eqb (bank_in ls x.flop) b) (f q)

-- a list begins with x
abbrev pub Begins : Member → List Member → Type 0
Begins x l = (rest : List Member) × (l ≡ x ∷ rest)

at_end : (ls more : List Member) (m d : Member) → get_or (ls ++ (m ∷ more)) (length ls) d ≡ m
at_end [] more m d = refl
at_end (l ∷ ls) more m d = at_end ls more m d

module _ (m : Member) (ms ls : List Member) (b : ℕ) (d : Member) (h : length ls ≤ b) where
  abbrev all : List Member
  all = leaders_from (joined ls m) ms

  abbrev Goal : Type 0
  Goal = Begins (get_or all b d) (kept (eqb (bank_in all m.flop) b) m (members_of all b ms))

  -- m is in another bank
  elsewhere : bank_in all m.flop < b → Begins (get_or all b d) (members_of all b ms) → Goal
  elsewhere q ih = subst (λ (t : Bool). Begins (get_or all b d) (kept t m (members_of all b ms))) (sym (ne_eqb (bank_in all m.flop) b (λ e. omega arith))) ih

  -- m leads bank b
  leads : joined ls m ≡ ls ++ (m ∷ []) → length ls ≤ bank_in ls m.flop → b ≡ length ls → Goal
  leads j n e =
      let r = leaders_more ms (joined ls m) in
      let at : bank_in (joined ls m) m.flop ≡ length ls = ap (λ (x : List Member). bank_in x m.flop) j ∙ bank_end ls m n in
      let found : bank_in all m.flop ≡ b = found_stays (joined ls m) all m.flop r (joined_found ls m) ∙ at ∙ sym e in
      let here_is : get_or all b d ≡ m = ap (λ (x : List Member). get_or x b d) (r.is ∙ ap (λ (x : List Member). x ++ r.more) j ∙ append_assoc ls (m ∷ []) r.more) ∙ ap (λ (k : ℕ). get_or (ls ++ (m ∷ r.more)) k d) e ∙ at_end ls r.more m d in
      subst (λ (t : Bool). Begins (get_or all b d) (kept t m (members_of all b ms))) (sym (eq-eqb (bank_in all m.flop) b found)) (members_of all b ms, ap (λ (x : Member). x ∷ members_of all b ms) (sym here_is))

  module _ (ih : length (joined ls m) ≤ b → Begins (get_or all b d) (members_of all b ms)) where
    founds : ltb (bank_in ls m.flop) (length ls) ≡ false → (u : Bool) → ltb b (length ls + 1) ≡ u → Goal
    founds q true e = leads (ap (λ (x : Bool). pick x ls (ls ++ (m ∷ []))) q) (ltb-false (bank_in ls m.flop) (length ls) q) (omega (arith, ltb-true b (length ls + 1) e))
    founds q false e =
        let j : joined ls m ≡ ls ++ (m ∷ []) = ap (λ (x : Bool). pick x ls (ls ++ (m ∷ []))) q in
        let long : length (joined ls m) ≡ length ls + 1 = ap length j ∙ length-append ls (m ∷ []) in
        let at : bank_in (joined ls m) m.flop ≡ length ls = ap (λ (x : List Member). bank_in x m.flop) j ∙ bank_end ls m (ltb-false (bank_in ls m.flop) (length ls) q) in
        elsewhere (omega (arith, found_stays (joined ls m) all m.flop (leaders_more ms (joined ls m)) (joined_found ls m), at, ltb-false b (length ls + 1) e)) (ih (omega (arith, long, ltb-false b (length ls + 1) e)))

    begins_of : (t : Bool) → ltb (bank_in ls m.flop) (length ls) ≡ t → Goal
    begins_of true q =
        let j : joined ls m ≡ ls = ap (λ (x : Bool). pick x ls (ls ++ (m ∷ []))) q in
        let at : bank_in (joined ls m) m.flop ≡ bank_in ls m.flop = ap (λ (x : List Member). bank_in x m.flop) j in
        elsewhere (omega (arith, found_stays (joined ls m) all m.flop (leaders_more ms (joined ls m)) (joined_found ls m), at, ltb-true (bank_in ls m.flop) (length ls) q)) (ih (omega (arith, ap length j)))
    begins_of false q = founds q (ltb b (length ls + 1)) refl

-- a bank that one of the flip-flops ms leads begins with its leader
members_begin : (ms ls : List Member) (b : ℕ) (d : Member) → length ls ≤ b → b < length (leaders_from ls ms) → Begins (get_or (leaders_from ls ms) b d) (members_of (leaders_from ls ms) b ms)
unfolding leaders_from members_of
members_begin [] ls b d h k = absurd (omega (arith, h, k))
members_begin (m ∷ ms) ls b d h k = begins_of m ms ls b d h (λ q. members_begin ms (joined ls m) b d q k) (ltb (bank_in ls m.flop) (length ls)) refl

-- CELLS

-- m is a flip-flop of the cells, which are numbered from c on
record At (cells : List Cell) (c : ℕ) (m : Member) : Type 0 where
  i : ℕ
  number : m.cell ≡ c + i
  inside : i < length cells
  is : get_or cells i absent ≡ flip_flop m.flop

at_next : (x : Cell) (cells : List Cell) (c : ℕ) (m : Member) → At cells (suc c) m → At (x ∷ cells) c m
at_next x cells c m r = record { i = suc r.i; number = omega (arith, r.number); inside = omega (arith, r.inside); is = r.is }

flop_at : (cells : List Cell) (c : ℕ) (m : Member) → Mem m (flip_flops_from cells c) → At cells c m
unfolding flip_flops_from
flop_at [] c m e = absurd (not-nil e)
flop_at (x ∷ cells) c m e = go x (flop_at cells (suc c) m) e
  where
    found : (f : FlipFlop) → (Mem m (flip_flops_from cells (suc c)) → At cells (suc c) m) → (m ≡ record { cell = c; flop = f }) ⊎ Mem m (flip_flops_from cells (suc c)) → At (flip_flop f ∷ cells) c m
    found f ih (inl p) = record { i = 0; number = ap (λ (y : Member). y.cell) p ∙ omega arith; inside = omega arith; is = ap (λ (y : Member). flip_flop y.flop) (sym p) }
    found f ih (inr q) = at_next (flip_flop f) cells c m (ih q)

    go : (y : Cell) → (Mem m (flip_flops_from cells (suc c)) → At cells (suc c) m) → Mem m (also (flip_flop_of y) c (flip_flops_from cells (suc c))) → At (y ∷ cells) c m
    go (lut4 is o t) ih q = at_next (lut4 is o t) cells c m (ih q)
    go (pfumx a b s o) ih q = at_next (pfumx a b s o) cells c m (ih q)
    go (l6mux21 a b s o) ih q = at_next (l6mux21 a b s o) cells c m (ih q)
    go (ccu2c u) ih q = at_next (ccu2c u) cells c m (ih q)
    go (multiplier a b o) ih q = at_next (multiplier a b o) cells c m (ih q)
    go (flip_flop f) ih q = found f ih (cases_cons q)
    go (block_ram r) ih q = at_next (block_ram r) cells c m (ih q)
    go (distributed_ram r) ih q = at_next (distributed_ram r) cells c m (ih q)
    go (io p a o t) ih q = at_next (io p a o t) cells c m (ih q)
    go (jtagg o) ih q = at_next (jtagg o) cells c m (ih q)
    go (pll p) ih q = at_next (pll p) cells c m (ih q)

-- the flip-flops are cells
pub record IsCell (cells : List Cell) (m : Member) : Type 0 where
  pub inside : m.cell < length cells
  pub is : get_or cells m.cell absent ≡ flip_flop m.flop

pub flop_is_cell : (cells : List Cell) (m : Member) → Mem m (flip_flops_of cells) → IsCell cells m
flop_is_cell cells m e =
    let r = flop_at cells 0 m e in
    let n : m.cell ≡ r.i = omega (arith, r.number) in
    record { inside = omega (arith, n, r.inside); is = ap (λ (i : ℕ). get_or cells i absent) n ∙ r.is }

-- and every flip-flop among the cells is listed
pub cell_is_flop : (cells : List Cell) (c i : ℕ) (f : FlipFlop) → get_or cells i absent ≡ flip_flop f → Mem (record { cell = c + i; flop = f }) (flip_flops_from cells c)
unfolding flip_flops_from
cell_is_flop [] c i f e = let z : ◌≡◌ {A = ℕ} 0 1 = cc in absurd (omega arith)
cell_is_flop (x ∷ cells) c zero f e = subst (λ (y : Cell). Mem (record { cell = c + 0; flop = f }) (also (flip_flop_of y) c (flip_flops_from cells (suc c)))) (sym e) (here (ap (λ (k : ℕ). record { cell = k; flop = f }) (omega arith)))
cell_is_flop (x ∷ cells) c (suc i) f e = go (flip_flop_of x) (subst (λ (k : ℕ). Mem (record { cell = k; flop = f }) (flip_flops_from cells (suc c))) (omega arith) (cell_is_flop cells (suc c) i f e))
  where
    go : (o : Option FlipFlop) → Mem (record { cell = c + suc i; flop = f }) (flip_flops_from cells (suc c)) → Mem (record { cell = c + suc i; flop = f }) (also o c (flip_flops_from cells (suc c)))
    go None q = q
    go (Some g) q = there q

flip_flops_few : (cells : List Cell) (c : ℕ) → length (flip_flops_from cells c) ≤ length cells
unfolding flip_flops_from
flip_flops_few [] c = omega arith
flip_flops_few (x ∷ cells) c = go (flip_flop_of x) (flip_flops_few cells (suc c))
  where
    go : (o : Option FlipFlop) → length (flip_flops_from cells (suc c)) ≤ length cells → length (also o c (flip_flops_from cells (suc c))) ≤ suc (length cells)
    go None q = omega (arith, q)
    go (Some f) q = omega (arith, q)

-- THE BANKS

pub record IsBank (cells : List Cell) (b : Bank) : Type 0 where
  -- not more flip-flops than cells
  pub few : length b.members ≤ length cells
  -- the leader is the first
  pub first : Begins b.leader b.members
  -- all are flip-flops of the netlist, with the leader's clock, edge and asynchronous reset control
  pub member : (m : Member) → Mem m b.members → IsCell cells m × Mates b.leader.flop m.flop

module _ (cells : List Cell) where
  abbrev ms : List Member
  ms = flip_flops_of cells

  abbrev ls : List Member
  ls = leaders_of cells

  bank_is : (b : ℕ) (d : Member) → b < length ls → IsBank cells (record { leader = get_or ls b d; members = members_of ls b ms })
  bank_is b d h = record {
    few = omega (arith, members_few ls b ms, flip_flops_few cells 0);
    first = members_begin ms [] b d (omega arith) h;
    member = λ m e. let r = member_is ls b ms m e in (
      flop_is_cell cells m r.0,
      same_bank_mates (get_or ls b d).flop m.flop (ap (λ (k : ℕ). same_bank (get_or ls k d).flop m.flop) (sym r.1) ∙ bank_found ls m.flop d (flop_banked cells m r.0)),
    );
  }

  -- bank number b is led by leader number b
  bank_from : (b : ℕ) (done rest : List Member) (d : Member) (e : Bank) → ls ≡ done ++ rest → length done ≡ b → (i : ℕ) → i < length rest → get_or (banks_from ls ms b rest) i e ≡ record { leader = get_or rest i d; members = members_of ls (b + i) ms }
  unfolding banks_from
  bank_from b done [] d e p q i h = absurd (not-suc-le-zero h)
  bank_from b done (l ∷ rest) d e p q zero h = ap (λ (k : ℕ). record { leader = l; members = members_of ls k ms }) (omega arith)
  bank_from b done (l ∷ rest) d e p q (suc i) h =
      bank_from (suc b) (done ++ (l ∷ [])) rest d e (p ∙ sym (append_assoc done (l ∷ []) rest)) (omega (arith, length-append done (l ∷ []))) i (le_of_suc-le-suc h)
      ∙ ap (λ (k : ℕ). record { leader = get_or rest i d; members = members_of ls k ms }) (omega arith)

  pub bank_at : (b : ℕ) (d : Member) (e : Bank) → b < length ls → get_or (collect_flip_flop_banks cells) b e ≡ record { leader = get_or ls b d; members = members_of ls b ms }
  unfolding collect_flip_flop_banks
  bank_at b d e h = bank_from 0 [] ls d e refl refl b h ∙ ap (λ (k : ℕ). record { leader = get_or ls b d; members = members_of ls k ms }) (omega arith)

  banks_long : (b : ℕ) (rest : List Member) → length (banks_from ls ms b rest) ≡ length rest
  unfolding banks_from
  banks_long b [] = refl
  banks_long b (l ∷ rest) = ap suc (banks_long (suc b) rest)

  pub bank_count : length (collect_flip_flop_banks cells) ≡ length ls
  unfolding collect_flip_flop_banks
  bank_count = banks_long 0 ls

  each_bank : (b : ℕ) (done rest : List Member) → ls ≡ done ++ rest → length done ≡ b → Each (IsBank cells) (banks_from ls ms b rest)
  unfolding banks_from
  each_bank b done [] p q = tt
  each_bank b done (l ∷ rest) p q = (
    subst (λ (x : Member). IsBank cells (record { leader = x; members = members_of ls b ms })) (ap (λ (x : List Member). get_or x b l) p ∙ ap (λ (k : ℕ). get_or (done ++ (l ∷ rest)) k l) (sym q) ∙ at_end done rest l l) (bank_is b l (omega (arith, ap length p ∙ length-append done (l ∷ rest)))),
    each_bank (suc b) (done ++ (l ∷ [])) rest (p ∙ sym (append_assoc done (l ∷ []) rest)) (omega (arith, length-append done (l ∷ []))),
  )

  -- every bank is led by its first member, and its members are flip-flops of one clock, edge and asynchronous reset control
  pub banks_are : Each (IsBank cells) (collect_flip_flop_banks cells)
  unfolding collect_flip_flop_banks
  banks_are = each_bank 0 [] ls refl refl
