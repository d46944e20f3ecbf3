-- The walk over the cells to the next member of a bank.
use mathlib.Core.Path.{◌≡◌, refl, ap, ap₂, sym, ◌∙◌}
use mathlib.Core.Bool.{Bool, true, false}
use mathlib.Core.List.{List, [], ◌∷◌}
use Rattle.std.specs.Prelude.{None}
use Prim.Native.Nat.{ℕ, zero, suc, ◌+◌, ◌-◌, ◌≤◌, ◌<◌, min}
use native.Mathlib.Numerals.{add-one}
use native.Mathlib.Omega.{arith}
use lib.Dec.{eqb, leb}
use lib.ListN.{length, get_or}
use borrow.Author.Tests.{eq-eqb, ne_eqb, leb-true, leb-false}
use Rattle.netlist.specs.Netlist.{FlipFlop, bit_of}
use Rattle.netlist.specs.declared.fields.Fields.{Fields}
use Rattle.netlist.specs.Fields.{word_at, when_set, control_at, reset_at, cell_size, cell_end}
use Rattle.netlist.proofs.WordLaws.{word_past}
use Rattle.behaviour.specs.Banks.{Member, kept}
use Rattle.converter.specs.Banked.{flop_at}
use Rattle.converter.specs.declared.members.Members.{Members}
use Rattle.converter.specs.Members.{noted, member_of, members_left}

-- PAST THE LAST WORD

abbrev blank : FlipFlop
blank = record { input = bit_of 0; output = 0; clock = bit_of 0; edge = 0; enable = None; reset = None }

flop_past : (words : List ℕ) (i : ℕ) → length words ≤ i → flop_at words i ≡ blank
flop_past words i h = λ j. record {
  input = bit_of (at 1 j);
  output = at 2 j;
  clock = bit_of (at 3 j);
  edge = at 4 j;
  enable = ap (λ (n : ℕ). when_set n (control_at words (i + 5 + 1))) (at 5) j;
  reset = ap (λ (n : ℕ). when_set n (reset_at words (i + 8 + 1))) (at 8) j;
}
  where
    at : (k : ℕ) → word_at words (i + k) ≡ 0
    at k = sym (word_past words (i + k) (omega arith))

noted_past : (words banks : List ℕ) (number n c i j : ℕ) → length words ≤ i → length words ≤ j → noted words banks number n c i ≡ noted words banks number n c j
unfolding noted
noted_past words banks number zero c i j h g = refl
noted_past words banks number (suc n) c i j h g =
    ap₂ (λ (f : FlipFlop) (ms : List Member). kept (eqb (get_or banks c 0) number) (record { cell = c; flop = f }) ms) (flop_past words i h ∙ sym (flop_past words j g))
    (noted_past words banks number n (suc c) (cell_end words i) (cell_end words j) (omega arith) (omega arith))

-- an index that was cut to the number of words
noted_cut : (words banks : List ℕ) (number n c i j : ℕ) → i ≡ min j (length words) → noted words banks number n c i ≡ noted words banks number n c j
noted_cut words banks number n c i j e = go (leb j (length words)) refl
  where
    go : (b : Bool) → leb j (length words) ≡ b → noted words banks number n c i ≡ noted words banks number n c j
    go true q = let h = leb-true j (length words) q in ap (noted words banks number n c) (let z : i ≡ j = omega arith in z)
    go false q = let h = leb-false j (length words) q in noted_past words banks number n c i j (omega arith) (omega arith)

module _ (words banks : List ℕ) (number : ℕ) where
  -- those that are left of n cells, from cell c on
  abbrev pub rest_at : ℕ → ℕ → ℕ → List Member
  rest_at n c i = noted words banks number (n - c) c i

  rest_more : (n c i : ℕ) → c < n → rest_at n c i ≡ kept (eqb (get_or banks c 0) number) (record { cell = c; flop = flop_at words i }) (rest_at n (suc c) (cell_end words i))
  unfolding noted
  rest_more n c i h = let e : n - c ≡ suc (n - suc c) = omega arith in ap (λ (k : ℕ). noted words banks number k c i) e

  -- the cell behind, whose index was cut to the number of words
  behind : (n c i : ℕ) {p : ℕ} → p ≡ min (cell_end words i) (length words) → rest_at n (suc c) (cell_end words i) ≡ rest_at n (c + 1) p
  behind n c i {p} e = sym (ap (λ (k : ℕ). rest_at n k p) (add-one c) ∙ noted_cut words banks number (n - suc c) (suc c) p (cell_end words i) e)

  -- a member, or another cell
  pub rest_member : (n c i : ℕ) {p : ℕ} → c < n → get_or banks c 0 ≡ number → p ≡ min (cell_end words i) (length words) → rest_at n c i ≡ record { cell = c; flop = flop_at words i } ∷ rest_at n (c + 1) p
  rest_member n c i {p} h e cut =
      rest_more n c i h ∙ ap (λ (b : Bool). kept b (record { cell = c; flop = flop_at words i }) (rest_at n (suc c) (cell_end words i))) (eq-eqb (get_or banks c 0) number e)
      ∙ ap (λ (ms : List Member). record { cell = c; flop = flop_at words i } ∷ ms) (behind n c i cut)

  pub rest_other : (n c i : ℕ) {p : ℕ} → c < n → (get_or banks c 0 ≡ number → ⊥) → p ≡ min (cell_end words i) (length words) → rest_at n c i ≡ rest_at n (c + 1) p
  rest_other n c i {p} h e cut =
      rest_more n c i h ∙ ap (λ (b : Bool). kept b (record { cell = c; flop = flop_at words i }) (rest_at n (suc c) (cell_end words i))) (ne_eqb (get_or banks c 0) number e)
      ∙ behind n c i cut

  pub rest_end : (n c i : ℕ) → n ≤ c → rest_at n c i ≡ []
  unfolding noted
  rest_end n c i h = let e : n - c ≡ 0 = omega arith in ap (λ (k : ℕ). noted words banks number k c i) e

-- no more than cells are left
noted_few : (words banks : List ℕ) (number n c i : ℕ) → length (noted words banks number n c i) ≤ n
unfolding noted
noted_few words banks number zero c i = omega arith
noted_few words banks number (suc n) c i = go (eqb (get_or banks c 0) number) (noted_few words banks number n (suc c) (cell_end words i))
  where
    go : (b : Bool) → length (noted words banks number n (suc c) (cell_end words i)) ≤ n → length (kept b (record { cell = c; flop = flop_at words i }) (noted words banks number n (suc c) (cell_end words i))) ≤ suc n
    go true h = omega arith
    go false h = omega arith

pub members_few : (m : Members) → length (members_left m) ≤ m.end
members_few m = omega (arith, noted_few m.cell.fields.words.now m.numbers.now m.bank (m.end - m.cell.number) m.cell.number m.cell.fields.at)

-- the cell that stands first is a member, or it is another cell
module _ (m : Members) (less : m.cell.number < m.end) {f : Fields} {size : ℕ} (is_size : size ≡ cell_size m.cell.fields.words.now m.cell.fields.at) (on : f ≡ record m.cell.fields { at = min (m.cell.fields.at + size) (length m.cell.fields.words.now) }) where
  abbrev behind_it : Members
  behind_it = record m { cell = record { number = m.cell.number + 1; fields = f } }

  cut : min (m.cell.fields.at + size) (length m.cell.fields.words.now) ≡ min (cell_end m.cell.fields.words.now m.cell.fields.at) (length m.cell.fields.words.now)
  cut = ap (λ (k : ℕ). min (m.cell.fields.at + k) (length m.cell.fields.words.now)) is_size

  moved : rest_at m.cell.fields.words.now m.numbers.now m.bank m.end (m.cell.number + 1) (min (m.cell.fields.at + size) (length m.cell.fields.words.now)) ≡ members_left behind_it
  moved = ap (λ (g : Fields). rest_at g.words.now m.numbers.now m.bank m.end (m.cell.number + 1) g.at) (sym on)

  pub member_here : {x : ℕ} → x ≡ get_or m.numbers.now m.cell.number 0 → x ≡ m.bank → members_left m ≡ member_of m.cell ∷ members_left behind_it
  member_here e q = rest_member m.cell.fields.words.now m.numbers.now m.bank m.end m.cell.number m.cell.fields.at less (sym e ∙ q) cut ∙ ap (λ (ms : List Member). member_of m.cell ∷ ms) moved

  pub member_other : {x : ℕ} → x ≡ get_or m.numbers.now m.cell.number 0 → (x ≡ m.bank → ⊥) → members_left m ≡ members_left behind_it
  member_other e q = rest_other m.cell.fields.words.now m.numbers.now m.bank m.end m.cell.number m.cell.fields.at less (λ z. q (e ∙ z)) cut ∙ moved

  -- one is left less
  pub member_less : {all : List Member} → members_left m ≡ all → {x : ℕ} → x ≡ get_or m.numbers.now m.cell.number 0 → x ≡ m.bank → length (members_left behind_it) < length all
  member_less a e q = omega (arith, ap length (member_here e q), ap length a)

pub members_end : (m : Members) → m.end ≤ m.cell.number → members_left m ≡ []
members_end m h = rest_end m.cell.fields.words.now m.numbers.now m.bank m.end m.cell.number m.cell.fields.at h
