-- The loop that gives each cell its bank.
use mathlib.Core.Path.{◌≡◌, refl, ap, sym, ◌∙◌, subst}
use mathlib.Core.Bool.{Bool, true, false}
use mathlib.Core.List.{List, [], ◌∷◌, ◌++◌}
use Rattle.std.specs.Prelude.{Option, None, Some}
use Prim.Native.Nat.{ℕ, suc, ◌+◌, ◌≤◌, ◌<◌, min}
use native.Mathlib.Nat.{add-zero, add-suc, suc-add}
use native.Mathlib.Numerals.{add-one}
use native.Mathlib.Decide.{ℕ_discrete}
use native.Mathlib.Omega.{arith}
use lib.Dec.{ltb}
use lib.ListN.{length, get_or, set, length-append}
use lib.Seq.{get_or-set_same, get_or-set_other}
use borrow.Author.Tests.{ltb-true, ltb-false}
use Rattle.bits.specs.Bits.{pick}
use Rattle.netlist.specs.declared.Limits.{Limits}
use Rattle.netlist.specs.Netlist.{FlipFlop, Cell}
use Rattle.netlist.specs.declared.fields.Fields.{Fields}
use Rattle.netlist.specs.Fields.{records_at, end_at, cell_at, cell_end, cells_at, cell_size}
use Rattle.netlist.specs.Shape.{FitsCell}
use Rattle.netlist.proofs.RecordLaws.{records_length}
use Rattle.netlist.proofs.WordLaws.{records_more}
use Rattle.behaviour.specs.Banks.{Member, flip_flop_of, also, flip_flops_from, bank_in, joined, leaders_from, leaders_of}
use Rattle.behaviour.proofs.BankLaws.{bank_here}
use Rattle.converter.specs.Reserves.{Fitting}
use Rattle.converter.proofs.Reserving.{Stands, stands_start, stands_is, stands_step}
use Rattle.converter.specs.Banked.{larger, Keyed, number_of, number_in, with_cell, JoinedBank, Joins, Collected, Work}

also_append : (o : Option FlipFlop) (c : ℕ) (xs ys : List Member) → also o c (xs ++ ys) ≡ also o c xs ++ ys
also_append None c xs ys = refl
also_append (Some f) c xs ys = refl

flops_append : (xs ys : List Cell) (c : ℕ) → flip_flops_from (xs ++ ys) c ≡ flip_flops_from xs c ++ flip_flops_from ys (c + length xs)
unfolding flip_flops_from
flops_append [] ys c = ap (flip_flops_from ys) (sym (add-zero c))
flops_append (x ∷ xs) ys c =
    ap (also (flip_flop_of x) c) (flops_append xs ys (suc c) ∙ ap (λ (k : ℕ). flip_flops_from xs (suc c) ++ flip_flops_from ys k) (suc-add c (length xs) ∙ sym (add-suc c (length xs))))
    ∙ also_append (flip_flop_of x) c (flip_flops_from xs (suc c)) (flip_flops_from ys (c + suc (length xs)))

leaders_append : (ms ns ls : List Member) → leaders_from ls (ms ++ ns) ≡ leaders_from (leaders_from ls ms) ns
unfolding leaders_from
leaders_append [] ns ls = refl
leaders_append (m ∷ ms) ns ls = leaders_append ms ns (joined ls m)

-- one cell more
leaders_more : (words : List ℕ) (at i : ℕ) → leaders_of (cells_at words at (i + 1)) ≡ with_cell (leaders_of (cells_at words at i)) i (cell_at words (end_at (cell_end words) i at))
unfolding flip_flops_from
leaders_more words at i =
    let x = cell_at words (end_at (cell_end words) i at) in
    let n : 0 + length (cells_at words at i) ≡ i = omega (arith, records_length (cell_at words) (cell_end words) i at) in
    ap leaders_of (ap (λ (k : ℕ). cells_at words at k) (add-one i) ∙ records_more (cell_at words) (cell_end words) i at)
    ∙ ap (leaders_from []) (flops_append (cells_at words at i) (x ∷ []) 0 ∙ ap (λ (k : ℕ). flip_flops_from (cells_at words at i) 0 ++ also (flip_flop_of x) k []) n)
    ∙ leaders_append (flip_flops_from (cells_at words at i) 0) (also (flip_flop_of x) i []) []

-- a bank that was found stays
joined_stays : (ls : List Member) (m : Member) (f : FlipFlop) → bank_in ls f < length ls → bank_in (joined ls m) f ≡ bank_in ls f
joined_stays ls m f h = go (ltb (bank_in ls m.flop) (length ls))
  where
    go : (b : Bool) → bank_in (pick b ls (ls ++ (m ∷ []))) f ≡ bank_in ls f
    go true = refl
    go false = bank_here ls (m ∷ []) f h

number_stays : (ls : List Member) (c : ℕ) (x : Cell) (o : Option FlipFlop) → number_of ls o ≤ length ls → number_of (with_cell ls c x) o ≡ number_of ls o
unfolding leaders_from
number_stays ls c x None h = refl
number_stays ls c x (Some f) h = ap suc (go (flip_flop_of x))
  where
    go : (y : Option FlipFlop) → bank_in (leaders_from ls (also y c [])) f ≡ bank_in ls f
    go None = refl
    go (Some g) = joined_stays ls (record { cell = c; flop = g }) f (omega arith)

-- at most one bank more
with_long : (ls : List Member) (c : ℕ) (x : Cell) → length (with_cell ls c x) ≤ length ls + 1
unfolding leaders_from
with_long ls c x = go (flip_flop_of x)
  where
    most : (m : Member) (b : Bool) → length (pick b ls (ls ++ (m ∷ []))) ≤ length ls + 1
    most m true = omega arith
    most m false = omega (arith, length-append ls (m ∷ []))

    go : (y : Option FlipFlop) → length (leaders_from ls (also y c [])) ≤ length ls + 1
    go None = omega arith
    go (Some g) = most (record { cell = c; flop = g }) (ltb (bank_in ls g) (length ls))

larger_both : (a b : ℕ) → (a ≤ larger a b) × (b ≤ larger a b)
larger_both a b = go (ltb a b) refl
  where
    go : (t : Bool) → ltb a b ≡ t → (a ≤ pick t b a) × (b ≤ pick t b a)
    go true e = (omega (arith, ltb-true a b e), omega arith)
    go false e = (omega arith, omega (arith, ltb-false a b e))

-- so far
pub record Collecting (limits : Limits) (words : List ℕ) (at i count : ℕ) (banks parts values : List ℕ) : Type 0 where
  pub keyed : Keyed limits (leaders_of (cells_at words at i)) parts values count
  pub numbers : (k : ℕ) → k < i → get_or banks k 0 ≡ number_in (leaders_of (cells_at words at i)) (cell_at words (end_at (cell_end words) k at))
  pub low : (k : ℕ) → k < i → get_or banks k 0 ≤ count
  pub few : count ≤ i

pub collecting_start : (limits : Limits) (words : List ℕ) (at : ℕ) (banks parts values : List ℕ) → Collecting limits words at 0 0 banks parts values
unfolding leaders_from flip_flops_from records_at
collecting_start limits words at banks parts values = record {
  keyed = record { long = refl; clocks = λ b d h. absurd (omega arith); resets = λ b d h. absurd (omega arith); fits = λ b d h. absurd (omega arith) };
  numbers = λ k h. absurd (omega arith);
  low = λ k h. absurd (omega arith);
  few = omega arith;
}

module _ (limits : Limits) (words : List ℕ) (at i count : ℕ) (banks parts values : List ℕ) (so : Collecting limits words at i count banks parts values) where
  abbrev ls : List Member
  ls = leaders_of (cells_at words at i)

  abbrev x : Cell
  x = cell_at words (end_at (cell_end words) i at)

  pub collecting_step : (r : ℕ) (parts' values' : List ℕ) → JoinedBank limits ls i x count r parts' values' → i < length banks → Collecting limits words at (i + 1) (larger count r) (set banks i r) parts' values'
  collecting_step r parts' values' j inside = record {
    keyed = subst (λ (y : List Member). Keyed limits y parts' values' (larger count r)) (sym (leaders_more words at i)) j.keyed;
    numbers = λ k h. number k h (ℕ_discrete k i);
    low = λ k h. below k h (ℕ_discrete k i);
    few = omega (arith, j.keyed.long, with_long ls i x, so.keyed.long, so.few);
  }
    where
      before : (k : ℕ) → k < i + 1 → (k ≡ i → ⊥) → k < i
      before k h n = omega (arith, h, n)

      number : (k : ℕ) → k < i + 1 → Dec (k ≡ i) → get_or (set banks i r) k 0 ≡ number_in (leaders_of (cells_at words at (i + 1))) (cell_at words (end_at (cell_end words) k at))
      number k h (yes e) =
          ap (λ (n : ℕ). get_or (set banks i r) n 0) e ∙ get_or-set_same banks i r 0 inside ∙ j.number
          ∙ sym (ap (λ (y : List Member). number_in y (cell_at words (end_at (cell_end words) k at))) (leaders_more words at i) ∙ ap (λ (n : ℕ). number_in (with_cell ls i x) (cell_at words (end_at (cell_end words) n at))) e)
      number k h (no n) =
          let q = before k h n in
          get_or-set_other banks i k r 0 n ∙ so.numbers k q
          ∙ sym (ap (λ (y : List Member). number_in y (cell_at words (end_at (cell_end words) k at))) (leaders_more words at i)
          ∙ number_stays ls i x (flip_flop_of (cell_at words (end_at (cell_end words) k at))) (omega (arith, so.numbers k q, so.low k q, so.keyed.long)))

      below : (k : ℕ) → k < i + 1 → Dec (k ≡ i) → get_or (set banks i r) k 0 ≤ larger count r
      below k h (yes e) = omega (arith, ap (λ (n : ℕ). get_or (set banks i r) n 0) e ∙ get_or-set_same banks i r 0 inside, (larger_both count r).1)
      below k h (no n) = omega (arith, get_or-set_other banks i k r 0 n, so.low k (before k h n), (larger_both count r).0)

  pub collecting_end : (n : ℕ) → i ≤ n → n ≤ i → Collected words at n count banks
  collecting_end n h g =
      let e : i ≡ n = omega arith in
      subst (λ (m : ℕ). Collected words at m count banks) e (record { long = so.keyed.long; numbers = so.numbers })

-- THE LOOP

pub record Gathers (words : List ℕ) (at n : ℕ) (banks₀ parts₀ values₀ : List ℕ) (i count : ℕ) (cell : Fields) (banks parts values : List ℕ) : Type 0 where
  pub so : (limits : Limits) → limits.wires < 1000000000 → Fitting (cell_at words) (cell_end words) (FitsCell limits) (length words) n at → Work n banks₀ parts₀ values₀
      → Collecting limits words at i count banks parts values × Stands words (cell_end words) at i cell

pub gathers_start : (cells : Fields) (n : ℕ) (banks₀ parts₀ values₀ : List ℕ) → Gathers cells.words.now cells.at n banks₀ parts₀ values₀ 0 0 cells banks₀ parts₀ values₀
gathers_start cells n banks₀ parts₀ values₀ = record { so = λ limits small fit work. (collecting_start limits cells.words.now cells.at banks₀ parts₀ values₀, stands_start (cell_end cells.words.now)) }

module _ (words : List ℕ) (at n : ℕ) (banks₀ parts₀ values₀ : List ℕ) where
  module _ {i count : ℕ} {cell : Fields} {banks parts values : List ℕ} (now : Gathers words at n banks₀ parts₀ values₀ i count cell banks parts values) where
    pub gathers_step : length banks ≡ length banks₀ → length parts ≡ length parts₀ → length values ≡ length values₀ → i < n → n < 4294967296
        → {r count' size j : ℕ} {cell' : Fields} {banks' parts' values' : List ℕ} → Joins cell.words.now cell.at parts values count r parts' values' → j ≡ i → banks' ≡ set banks j r → count' ≡ larger count r → size ≡ cell_size cell.words.now cell.at → cell' ≡ record cell { at = min (cell.at + size) (length cell.words.now) }
        → Gathers words at n banks₀ parts₀ values₀ (i + 1) count' cell' banks' parts' values'
    gathers_step lb lf ls h big {r} {count'} {size} {j} {cell'} {banks'} {parts'} {values'} join e b c is on = record {
      so = λ limits small fit work.
          let s = now.so limits small fit work in
          let few : count ≤ i = s.0.few in
          let here : cell_at cell.words.now cell.at ≡ cell_at words (end_at (cell_end words) i at) = stands_is cell_at s.1 in
          let fits : FitsCell limits (cell_at cell.words.now cell.at) = subst (FitsCell limits) (sym here) (fit.fit i h) in
          let done = join limits (leaders_of (cells_at words at i)) i small fits s.0.keyed (omega (arith, few, work.clocks)) (omega (arith, few, work.resets)) (omega (arith, few)) in
          let now' = subst (λ (x : Cell). JoinedBank limits (leaders_of (cells_at words at i)) i x count r parts' values') here done in (
            subst (λ (k : ℕ). Collecting limits words at (i + 1) k banks' parts' values') (sym c)
                (subst (λ (l : List ℕ). Collecting limits words at (i + 1) (larger count r) l parts' values') (sym (b ∙ ap (λ (k : ℕ). set banks k r) e))
                (collecting_step limits words at i count banks parts values s.0 r parts' values' now' (omega (arith, work.numbers)))),
            stands_step cell_size fit h s.1 is on,
          );
    }

    pub gathers_end : i ≤ n → n ≤ i → (limits : Limits) → limits.wires < 1000000000 → Fitting (cell_at words) (cell_end words) (FitsCell limits) (length words) n at → Work n banks₀ parts₀ values₀ → Collected words at n count banks
    gathers_end h g limits small fit work = collecting_end limits words at i count banks parts values (now.so limits small fit work).0 n h g
