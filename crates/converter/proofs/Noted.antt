-- Where the banks' numbers are noted, the members that are found are those of the definition.
use mathlib.Core.Path.{◌≡◌, refl, ap, ap₂, sym, ◌∙◌, subst}
use mathlib.Core.Bool.{Bool, true, false}
use mathlib.Core.List.Memᴰ.{head as here}
use mathlib.Core.List.Memᴰ.{tail as there}
use mathlib.Core.List.{List, [], ◌∷◌, Memᴰ as Mem}
use Rattle.std.specs.Prelude.{Option, None}
use Prim.Native.Nat.{ℕ, zero, suc, ◌+◌, ◌-◌, ◌≤◌, ◌<◌}
use native.Mathlib.Nat.{add-zero}
use native.Mathlib.Numerals.{add-one}
use native.Mathlib.Omega.{arith}
use lib.Dec.{eqb}
use lib.ListN.{length, get_or, drop}
use lib.Seq.{drop-cons}
use borrow.Author.Tests.{eq-eqb, ne_eqb, eqb-true, eqb-false}
use Rattle.netlist.specs.declared.Limits.{Limits}
use Rattle.netlist.specs.Netlist.{FlipFlop, Cell, flip_flop}
use Rattle.netlist.specs.declared.Kind.{Kind}
use Rattle.netlist.specs.declared.Kind.TheVariants as K
use Rattle.netlist.specs.Fields.{records_at, end_at, kind_at, cell_at, cell_end, cells_at}
use Rattle.netlist.specs.Shape.{Each, each_at, FitsWire, FitsCell}
use Rattle.netlist.proofs.RecordLaws.{records_length, records_get}
use Rattle.behaviour.specs.Banks.{Member, Bank, flip_flop_of, also, flip_flops_from, flip_flops_of, bank_in, kept, members_of, leaders_of, collect_flip_flop_banks, outputs_of}
use Rattle.behaviour.specs.Behaviour.{absent}
use Rattle.behaviour.proofs.BankLaws.{IsBank, IsCell, bank_at, bank_count, banks_are}
use Rattle.converter.specs.Reserves.{Fitting}
use Rattle.converter.specs.Banked.{flop_at, number_of, number_in, Collected}
use Rattle.converter.specs.declared.members.Members.{Members}
use Rattle.converter.specs.Members.{noted, members_left}
use Rattle.converter.proofs.Keys.{no_flop, a_flop}

-- ONE CELL

is_flop : (k : Kind) → Dec (k ≡ K.FlipFlop)
is_flop K.Lut4 = no (λ e. cc)
is_flop K.Pfumx = no (λ e. cc)
is_flop K.L6mux21 = no (λ e. cc)
is_flop K.Ccu2c = no (λ e. cc)
is_flop K.Multiplier = no (λ e. cc)
is_flop K.FlipFlop = yes refl
is_flop K.BlockRam = no (λ e. cc)
is_flop K.DistributedRam = no (λ e. cc)
is_flop K.Io = no (λ e. cc)
is_flop K.Jtagg = no (λ e. cc)
is_flop K.Pll = no (λ e. cc)

same_number : (a b : ℕ) → eqb (suc a) (b + 1) ≡ eqb a b
same_number a b = go (eqb a b) refl
  where
    go : (t : Bool) → eqb a b ≡ t → eqb (suc a) (b + 1) ≡ t
    go true e = eq-eqb (suc a) (b + 1) (omega (arith, eqb-true a b e))
    go false e = ne_eqb (suc a) (b + 1) (λ q. eqb-false a b e (omega (arith, q)))

module _ (words banks : List ℕ) (ls : List Member) (b c i : ℕ) (is : get_or banks c 0 ≡ number_in ls (cell_at words i)) where
  one_noted : (more : List Member) (ms : List Member) → more ≡ members_of ls b ms → kept (eqb (get_or banks c 0) (b + 1)) (record { cell = c; flop = flop_at words i }) more ≡ members_of ls b (also (flip_flop_of (cell_at words i)) c ms)
  unfolding members_of
  one_noted more ms e = go (is_flop (kind_at words i))
    where
      go : Dec (kind_at words i ≡ K.FlipFlop) → kept (eqb (get_or banks c 0) (b + 1)) (record { cell = c; flop = flop_at words i }) more ≡ members_of ls b (also (flip_flop_of (cell_at words i)) c ms)
      go (yes k) =
          let f : cell_at words i ≡ flip_flop (flop_at words i) = a_flop words i k in
          let n : get_or banks c 0 ≡ suc (bank_in ls (flop_at words i)) = is ∙ ap (number_in ls) f in
          ap₂ (λ (t : Bool) (l : List Member). kept t (record { cell = c; flop = flop_at words i }) l) (ap (λ (k : ℕ). eqb k (b + 1)) n ∙ same_number (bank_in ls (flop_at words i)) b) e
          ∙ sym (ap (λ (x : Cell). members_of ls b (also (flip_flop_of x) c ms)) f)
      go (no k) =
          let f : flip_flop_of (cell_at words i) ≡ None = no_flop words i k in
          let n : get_or banks c 0 ≡ 0 = is ∙ ap (number_of ls) f in
          ap (λ (t : Bool). kept t (record { cell = c; flop = flop_at words i }) more) (ap (λ (k : ℕ). eqb k (b + 1)) n ∙ ne_eqb 0 (b + 1) (λ q. omega (arith, q)))
          ∙ e ∙ sym (ap (λ (o : Option FlipFlop). members_of ls b (also o c ms)) f)

-- ALL CELLS

noted_are : (words banks : List ℕ) (ls : List Member) (b n c i : ℕ) → ((k : ℕ) → k < n → get_or banks (c + k) 0 ≡ number_in ls (cell_at words (end_at (cell_end words) k i)))
    → noted words banks (b + 1) n c i ≡ members_of ls b (flip_flops_from (cells_at words i n) c)
unfolding noted records_at flip_flops_from members_of end_at
noted_are words banks ls b zero c i h = refl
noted_are words banks ls b (suc n) c i h =
    one_noted words banks ls b c i (ap (λ (k : ℕ). get_or banks k 0) (sym (add-zero c)) ∙ h 0 (omega arith)) (noted words banks (b + 1) n (suc c) (cell_end words i)) (flip_flops_from (cells_at words (cell_end words i) n) (suc c))
    (noted_are words banks ls b n (suc c) (cell_end words i) (λ k q. ap (λ (j : ℕ). get_or banks j 0) (up c k) ∙ h (suc k) (omega arith)))
  where
    up : (a k : ℕ) → suc a + k ≡ a + suc k
    up a k = omega arith

module _ {words : List ℕ} {at n count : ℕ} {banks : List ℕ} (so : Collected words at n count banks) where
  abbrev cells : List Cell
  cells = cells_at words at n

  pub members_are : (b : ℕ) (m : Members) → m.cell.fields.words.now ≡ words → m.cell.fields.at ≡ at → m.cell.number ≡ 0 → m.end ≡ n → m.numbers.now ≡ banks → m.bank ≡ b + 1 → members_left m ≡ members_of (leaders_of cells) b (flip_flops_of cells)
  members_are b m p q r e s t =
      (λ i. noted (p i) (s i) (t i) (left i) (r i) (q i))
      ∙ noted_are words banks (leaders_of cells) b n 0 at (λ k h. ap (λ (j : ℕ). get_or banks j 0) (let z : 0 + k ≡ k = omega arith in z) ∙ so.numbers k h)
    where
      left : m.end - m.cell.number ≡ n
      left = omega arith

  abbrev nowhere : Member
  nowhere = record { cell = 0; flop = flop_at [] 0 }

  -- bank b
  unfoldable pub bank_of : ℕ → Bank
  bank_of b = record { leader = get_or (leaders_of cells) b nowhere; members = members_of (leaders_of cells) b (flip_flops_of cells) }

  -- is the next one
  pub bank_next : (b : ℕ) → b < count → drop b (collect_flip_flop_banks cells) ≡ bank_of b ∷ drop (b + 1) (collect_flip_flop_banks cells)
  unfolding bank_of
  bank_next b h =
      let q : b < length (leaders_of cells) = omega (arith, so.long) in
      drop-cons (collect_flip_flop_banks cells) b (bank_of b) (omega (arith, q, bank_count cells))
      ∙ ap₂ (λ (x : Bank) (k : ℕ). x ∷ drop k (collect_flip_flop_banks cells)) (bank_at cells b nowhere (bank_of b) q) (sym (add-one b))

  pub banks_end : (b : ℕ) → count ≤ b → length (collect_flip_flop_banks cells) ≤ b
  banks_end b h = omega (arith, so.long, bank_count cells)

  pub bank_is : (b : ℕ) → b < count → IsBank cells (bank_of b)
  unfolding bank_of
  bank_is b h =
      let q : b < length (leaders_of cells) = omega (arith, so.long) in
      subst (IsBank cells) (bank_at cells b nowhere (bank_of b) q) (each_at (IsBank cells) (collect_flip_flop_banks cells) b (bank_of b) (banks_are cells) (omega (arith, q, bank_count cells)))

  -- its outputs fit
  each_output : (limits : Limits) (ms : List Member) → ((m : Member) → Mem m ms → FitsWire limits m.flop.output) → Each (FitsWire limits) (outputs_of ms)
  each_output limits [] f = tt
  each_output limits (m ∷ ms) f = (f m (here refl), each_output limits ms (λ x e. f x (there e)))

  pub outputs_fit : (limits : Limits) (b : ℕ) → b < count → Fitting (cell_at words) (cell_end words) (FitsCell limits) (length words) n at → Each (FitsWire limits) (outputs_of (bank_of b).members)
  outputs_fit limits b h fit = each_output limits (bank_of b).members (λ m e. one m ((bank_is b h).member m e).0)
    where
      one : (m : Member) → IsCell cells m → FitsWire limits m.flop.output
      one m q =
          let k : m.cell < n = omega (arith, q.inside, records_length (cell_at words) (cell_end words) n at) in
          (subst (FitsCell limits) (sym (records_get (cell_at words) (cell_end words) absent n at m.cell k) ∙ q.is) (fit.fit m.cell k)).output

  pub members_few : (b : ℕ) → b < count → length (bank_of b).members ≤ n
  members_few b h = omega (arith, (bank_is b h).few, records_length (cell_at words) (cell_end words) n at)
