-- Which slots there are: those of the ports, those of the cells' groups, those of the banks, and no others.
-- Assumes nothing.
use mathlib.Core.Path.{◌≡◌, refl, ap, ap₂, sym, ◌∙◌, subst}
use mathlib.Core.Logic.{◌⊎◌, inl, inr}
use mathlib.Core.Bool.{Bool, true, false, false≢true, true≢false}
use mathlib.Core.List.Memᴰ.{append_cases}
use mathlib.Core.List.Memᴰ.{append_left as mem-left}
use mathlib.Core.List.Memᴰ.{append_right as mem-right}
use mathlib.Core.List.Memᴰ.{cases_cons}
use mathlib.Core.List.Memᴰ.{head as here}
use mathlib.Core.List.Memᴰ.{not-nil}
use mathlib.Core.List.Memᴰ.{tail as there}
use mathlib.Core.List.{List, [], ◌∷◌, ◌++◌, map, append-nil, Memᴰ as Mem}
use Rattle.std.specs.Prelude.{Option, None, Some}
use Prim.Native.Nat.{ℕ, zero, suc, ◌+◌, ◌-◌, ◌≤◌, ◌<◌}
use native.Mathlib.Nat.{not-suc-le-zero}
use native.Mathlib.Omega.{arith}
use lib.Dec.{eqb}
use lib.ListN.{length, get_or, length-append, get_or-append}
use lib.Seq.{get_or-append-add}
use Rattle.bits.specs.Bits.{pick}
use Rattle.netlist.specs.declared.Bit.TheVariants.{Wire}
use Rattle.netlist.specs.Netlist.{Port, SecondPort, Netlist, Cell, lut4, pfumx, l6mux21, ccu2c, multiplier, flip_flop, block_ram, distributed_ram, io, jtagg, pll}
use Rattle.behaviour.specs.Banks.{Bank, collect_flip_flop_banks}
use Rattle.behaviour.specs.WireMap.{Source, Slot, pins, WireRef, port_slots, find, is_some, single, together, second_slot, pll_wires, reserve_fresh, reserve, reserve_all, bank_slot, slots}
use Rattle.behaviour.specs.Behaviour.{absent}
use Rattle.meaning.specs.Mapped.{no_slot}
use Rattle.meaning.proofs.Placing.{Placed, placed, all_keeps}
use Rattle.forms.specs.Groups.{Group, apiece, second_group, groups, slot_of, is_pll}

-- FOUND BY NUMBER

pub slot_there : (held : List Slot) (s : ℕ) → s < length held → Mem (get_or held s no_slot) held
slot_there [] s h = absurd (not-suc-le-zero h)
slot_there (x ∷ held) zero h = here refl
slot_there (x ∷ held) (suc s) h = there (slot_there held s (omega arith))

-- CELLS

single_groups : (c : ℕ) (ws : List ℕ) (k : ℕ) → single c ws k ≡ map (slot_of c) (apiece ws k)
single_groups c [] k = refl
single_groups c (w ∷ ws) k = ap (λ (l : List Slot). record { source = pins c k; bits = Wire w ∷ [] } ∷ l) (single_groups c ws (suc k))

second_groups : (c k : ℕ) (o : Option SecondPort) → second_slot c k o ≡ map (slot_of c) (second_group k o)
second_groups c k None = refl
second_groups c k (Some p) = refl

-- a cell that is no PLL adds its groups' slots
plain_adds : (c : ℕ) (x : Cell) (held : List Slot) → is_pll x ≡ false → reserve c x held ≡ held ++ map (slot_of c) (groups x)
plain_adds c (lut4 i o t) held e = refl
plain_adds c (pfumx t f s o) held e = refl
plain_adds c (l6mux21 z y s o) held e = refl
plain_adds c (ccu2c u) held e = refl
plain_adds c (multiplier l r p) held e = refl
plain_adds c (flip_flop f) held e = sym (append-nil held)
plain_adds c (block_ram r) held e = ap (λ (l : List Slot). held ++ (together c r.output 0 ++ l)) (second_groups c r.width r.second)
plain_adds c (distributed_ram r) held e = refl
plain_adds c (io p d i t) held e = refl
plain_adds c (jtagg ws) held e = ap (λ (l : List Slot). held ++ l) (single_groups c ws 0)
plain_adds c (pll p) held e = absurd (true≢false e)

-- a slot of one of some groups of cell c
pub record OfGroup (c : ℕ) (gs : List Group) (x : Slot) : Type 0 where
  pub group : Group
  pub one_of : Mem group gs
  pub is : x ≡ slot_of c group

in_map : (c : ℕ) (gs : List Group) (x : Slot) → Mem x (map (slot_of c) gs) → OfGroup c gs x
in_map c [] x m = absurd (not-nil m)
in_map c (g ∷ gs) x m = go (cases_cons m) (in_map c gs x)
  where
    go : (x ≡ slot_of c g) ⊎ Mem x (map (slot_of c) gs) → (Mem x (map (slot_of c) gs) → OfGroup c gs x) → OfGroup c (g ∷ gs) x
    go (inl e) f = record { group = g; one_of = here refl; is = e }
    go (inr q) f = let r = f q in record { group = r.group; one_of = there r.one_of; is = r.is }

map_in : (c : ℕ) (gs : List Group) (g : Group) → Mem g gs → Mem (slot_of c g) (map (slot_of c) gs)
map_in c [] g m = absurd (not-nil m)
map_in c (h ∷ gs) g m = go (cases_cons m) (map_in c gs g)
  where
    go : (g ≡ h) ⊎ Mem g gs → (Mem g gs → Mem (slot_of c g) (map (slot_of c) gs)) → Mem (slot_of c g) (slot_of c h ∷ map (slot_of c) gs)
    go (inl e) f = here (ap (slot_of c) e)
    go (inr q) f = there (f q)

pll_split : (x : Cell) → is_pll x ≡ true → (p : Rattle.netlist.specs.Netlist.Pll) × (x ≡ pll p)
pll_split (lut4 i o t) e = absurd (false≢true e)
pll_split (pfumx t f s o) e = absurd (false≢true e)
pll_split (l6mux21 z y s o) e = absurd (false≢true e)
pll_split (ccu2c u) e = absurd (false≢true e)
pll_split (multiplier l r p) e = absurd (false≢true e)
pll_split (flip_flop f) e = absurd (false≢true e)
pll_split (block_ram r) e = absurd (false≢true e)
pll_split (distributed_ram r) e = absurd (false≢true e)
pll_split (io p d i t) e = absurd (false≢true e)
pll_split (jtagg ws) e = absurd (false≢true e)
pll_split (pll p) e = (p, refl)

-- a slot of a cell, by the cell's place in the list
pub record OfCell (cells : List Cell) (c : ℕ) (x : Slot) : Type 0 where
  pub place : ℕ
  pub inside : place < length cells
  pub of_group : OfGroup (c + place) (groups (get_or cells place absent)) x

group_kept : (cells : List Cell) (c : ℕ) (held : List Slot) (i : ℕ) (g : Group) → i < length cells → is_pll (get_or cells i absent) ≡ false → Mem g (groups (get_or cells i absent)) → Mem (slot_of (c + i) g) (reserve_all cells c held)
group_kept [] c held i g h e m = absurd (not-suc-le-zero h)
group_kept (y ∷ cells) c held zero g h e m =
    all_keeps cells (suc c) (reserve c y held) (slot_of (c + 0) g)
    (subst (λ (l : List Slot). Mem (slot_of (c + 0) g) l) (sym (plain_adds c y held e)) (mem-right held (subst (λ (k : ℕ). Mem (slot_of k g) (map (slot_of c) (groups y))) (let z : c ≡ c + 0 = omega arith in z) (map_in c (groups y) g m))))
group_kept (y ∷ cells) c held (suc i) g h e m =
    subst (λ (k : ℕ). Mem (slot_of k g) (reserve_all cells (suc c) (reserve c y held))) (let z : suc c + i ≡ c + suc i = omega arith in z) (group_kept cells (suc c) (reserve c y held) i g (omega arith) e m)

-- THE WHOLE

module _ (n : Netlist) where
  abbrev banks : List Bank
  banks = collect_flip_flop_banks n.cells

  bank_from : (bs : List Bank) (x : Slot) → Mem x (map bank_slot bs) → (b : Bank) × Mem b bs × (x ≡ bank_slot b)
  bank_from [] x m = absurd (not-nil m)
  bank_from (b ∷ bs) x m = go (cases_cons m) (bank_from bs x)
    where
      go : (x ≡ bank_slot b) ⊎ Mem x (map bank_slot bs) → (Mem x (map bank_slot bs) → (b' : Bank) × Mem b' bs × (x ≡ bank_slot b')) → (b' : Bank) × Mem b' (b ∷ bs) × (x ≡ bank_slot b')
      go (inl e) f = (b, here refl, e)
      go (inr q) f = let r = f q in (r.0, there r.1, r.2)

  bank_in : (bs : List Bank) (b : Bank) → Mem b bs → Mem (bank_slot b) (map bank_slot bs)
  bank_in [] b m = absurd (not-nil m)
  bank_in (b' ∷ bs) b m = go (cases_cons m) (bank_in bs b)
    where
      go : (b ≡ b') ⊎ Mem b bs → (Mem b bs → Mem (bank_slot b) (map bank_slot bs)) → Mem (bank_slot b) (bank_slot b' ∷ map bank_slot bs)
      go (inl e) f = here (ap bank_slot e)
      go (inr q) f = there (f q)

  -- every group of a cell that is no PLL has its slot
  pub group_slot : (c : ℕ) (g : Group) → c < length n.cells → is_pll (get_or n.cells c absent) ≡ false → Mem g (groups (get_or n.cells c absent)) → Placed (slots n) (slot_of c g)
  group_slot c g h e m =
      placed (slots n) (slot_of c g) (mem-left (map bank_slot banks)
      (subst (λ (k : ℕ). Mem (slot_of k g) (reserve_all n.cells 0 (port_slots n.ports 0))) (let z : 0 + c ≡ c = omega arith in z) (group_kept n.cells 0 (port_slots n.ports 0) c g h e m)))

  -- and so has every bank
  pub bank_slot_lem : (b : Bank) → Mem b banks → Placed (slots n) (bank_slot b)
  bank_slot_lem b m = placed (slots n) (bank_slot b) (mem-right (reserve_all n.cells 0 (port_slots n.ports 0)) (bank_in banks b m))

-- IN ORDER: the ports' slots stand first, and each that follows is a cell's or a bank's

record Grown (P : Slot → Type 0) (held held' : List Slot) : Type 0 where
  added : List Slot
  is : held' ≡ held ++ added
  from : (x : Slot) → Mem x added → P x

grown_none : {P : Slot → Type 0} {held : List Slot} → Grown P held held
grown_none {held = held} = record { added = []; is = sym (append-nil held); from = λ x m. absurd (not-nil m) }

grown_then : {P : Slot → Type 0} {a b c : List Slot} → Grown P a b → Grown P b c → Grown P a c
grown_then {P} {a} f g = record {
  added = f.added ++ g.added;
  is = g.is ∙ ap (λ (l : List Slot). l ++ g.added) f.is ∙ mathlib.Core.List.append_assoc a f.added g.added;
  from = λ x m. go x (append_cases f.added m);
}
  where
    go : (x : Slot) → Mem x f.added ⊎ Mem x g.added → P x
    go x (inl q) = f.from x q
    go x (inr q) = g.from x q

grown_so : {P Q : Slot → Type 0} {a b : List Slot} → ((x : Slot) → P x → Q x) → Grown P a b → Grown Q a b
grown_so h f = record { added = f.added; is = f.is; from = λ x m. h x (f.from x m) }

fresh_grows : (c : ℕ) (ws : List ℕ) (k : ℕ) (held : List Slot) → Grown (OfGroup c (apiece ws k)) held (reserve_fresh c ws k held)
fresh_grows c [] k held = grown_none
fresh_grows c (w ∷ ws) k held = go (is_some (find w held 0)) (λ l. grown_so later (fresh_grows c ws (suc k) l))
  where
    later : (x : Slot) → OfGroup c (apiece ws (suc k)) x → OfGroup c (apiece (w ∷ ws) k) x
    later x r = record { group = r.group; one_of = there r.one_of; is = r.is }

    first : Grown (OfGroup c (apiece (w ∷ ws) k)) held (held ++ single c (w ∷ []) k)
    first = record {
      added = single c (w ∷ []) k;
      is = refl;
      from = λ x m. let r = in_map c (record { pin = k; wires = w ∷ [] } ∷ []) x m in record { group = r.group; one_of = mem-left (apiece ws (suc k)) r.one_of; is = r.is };
    }

    go : (b : Bool) → ((l : List Slot) → Grown (OfGroup c (apiece (w ∷ ws) k)) l (reserve_fresh c ws (suc k) l)) → Grown (OfGroup c (apiece (w ∷ ws) k)) held (reserve_fresh c ws (suc k) (pick b held (held ++ single c (w ∷ []) k)))
    go true f = f held
    go false f = grown_then first (f (held ++ single c (w ∷ []) k))

reserve_grows : (c : ℕ) (y : Cell) (held : List Slot) → Grown (OfGroup c (groups y)) held (reserve c y held)
reserve_grows c y held = go (is_pll y) refl
  where
    go : (b : Bool) → is_pll y ≡ b → Grown (OfGroup c (groups y)) held (reserve c y held)
    go false e = record { added = map (slot_of c) (groups y); is = plain_adds c y held e; from = λ x m. in_map c (groups y) x m }
    go true e = let p = pll_split y e in subst (λ (z : Cell). Grown (OfGroup c (groups z)) held (reserve c z held)) (sym p.1) (fresh_grows c (pll_wires p.0) 0 held)

all_grows : (cells : List Cell) (c : ℕ) (held : List Slot) → Grown (OfCell cells c) held (reserve_all cells c held)
all_grows [] c held = grown_none
all_grows (y ∷ cells) c held = grown_then (grown_so first (reserve_grows c y held)) (grown_so later (all_grows cells (suc c) (reserve c y held)))
  where
    first : (x : Slot) → OfGroup c (groups y) x → OfCell (y ∷ cells) c x
    first x r = record { place = 0; inside = omega arith; of_group = subst (λ (k : ℕ). OfGroup k (groups y) x) (omega arith) r }

    later : (x : Slot) → OfCell cells (suc c) x → OfCell (y ∷ cells) c x
    later x r = record { place = suc r.place; inside = omega (arith, r.inside); of_group = subst (λ (k : ℕ). OfGroup k (groups (get_or cells r.place absent)) x) (omega arith) r.of_group }

module _ (n : Netlist) where
  -- a slot after those of the ports
  pub data Late (x : Slot) : Type 0 where
    of_cell : OfCell n.cells 0 x → Late x
    of_bank : (b : Bank) → Mem b (collect_flip_flop_banks n.cells) → x ≡ bank_slot b → Late x

  whole : Grown Late (port_slots n.ports 0) (slots n)
  whole = grown_then (grown_so (λ x r. of_cell r) (all_grows n.cells 0 (port_slots n.ports 0)))
      (record { added = map bank_slot (collect_flip_flop_banks n.cells); is = refl; from = λ x m. let r = bank_from n (collect_flip_flop_banks n.cells) x m in of_bank r.0 r.1 r.2 })

  port_slot_count : (ports : List Port) (k : ℕ) → length (port_slots ports k) ≡ length ports
  port_slot_count [] k = refl
  port_slot_count (p ∷ ports) k = go (eqb p.direction 1) (port_slot_count ports k) (port_slot_count ports (k + length p.bits))
    where
      go : (b : Bool) → length (port_slots ports k) ≡ length ports → length (port_slots ports (k + length p.bits)) ≡ length ports
          → length (pick b (record { source = Rattle.behaviour.specs.WireMap.shown; bits = [] } ∷ port_slots ports k) (record { source = Rattle.behaviour.specs.WireMap.inputs k; bits = p.bits } ∷ port_slots ports (k + length p.bits))) ≡ suc (length ports)
      go true a b = ap suc a
      go false a b = ap suc b

  pub ports_first : (s : ℕ) → s < length n.ports → get_or (slots n) s no_slot ≡ get_or (port_slots n.ports 0) s no_slot
  ports_first s h = ap (λ (l : List Slot). get_or l s no_slot) whole.is ∙ get_or-append (port_slots n.ports 0) whole.added no_slot s (omega (arith, h, port_slot_count n.ports 0))

  pub ports_within : length n.ports ≤ length (slots n)
  ports_within = omega (arith, ap length whole.is, length-append (port_slots n.ports 0) whole.added, port_slot_count n.ports 0)

  pub slot_late : (s : ℕ) → length n.ports ≤ s → s < length (slots n) → Late (get_or (slots n) s no_slot)
  slot_late s l h =
      let k : ℕ = length (port_slots n.ports 0) in
      let c : k ≡ length n.ports = port_slot_count n.ports 0 in
      let e : s ≡ k + (s - k) = omega (arith, l, c) in
      let q : get_or (slots n) s no_slot ≡ get_or whole.added (s - k) no_slot = ap₂ (λ (x : List Slot) (i : ℕ). get_or x i no_slot) whole.is e ∙ get_or-append-add (port_slots n.ports 0) whole.added (s - k) no_slot in
      subst Late (sym q) (whole.from _ (slot_there whole.added (s - k) (omega (arith, h, l, c, ap length whole.is, length-append (port_slots n.ports 0) whole.added))))
