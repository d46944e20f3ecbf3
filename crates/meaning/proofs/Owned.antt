-- The wires of a block RAM's read registers: as many as each has bits, the first at its signal's lowest; two ports have two signals.
-- Assumes nothing.
use mathlib.Core.Path.{◌≡◌, refl, ap, sym, ◌∙◌, subst}
use mathlib.Core.Logic.{◌⊎◌, inl, inr}
use mathlib.Core.List.Memᴰ.{append_left as mem-left}
use mathlib.Core.List.Memᴰ.{append_right as mem-right}
use mathlib.Core.List.Memᴰ.{cases_cons}
use mathlib.Core.List.Memᴰ.{head as here}
use mathlib.Core.List.Memᴰ.{tail as there}
use mathlib.Core.List.Memᴰ.{not-nil}
use mathlib.Core.List.{List, [], ◌∷◌, ◌++◌, map, Memᴰ as Mem}
use Rattle.std.specs.Prelude.{Option, None, Some}
use Prim.Native.Nat.{ℕ, suc, ◌≤◌, ◌<◌}
use native.Mathlib.Omega.{arith}
use lib.ListN.{length, get_or}
use Rattle.netlist.specs.declared.Bit.TheVariants.{Zero, Wire}
use Rattle.netlist.specs.declared.Limits.{Limits}
use Rattle.netlist.specs.Netlist.{SecondPort, BlockRam, Netlist, Cell, lut4, pfumx, l6mux21, ccu2c, multiplier, flip_flop, block_ram, distributed_ram, io, jtagg, pll}
use Rattle.netlist.specs.Shape.{Each, FitsCell, FitsOption, FitsSecond}
use Rattle.recorder.specs.Record.{Signal}
use Rattle.behaviour.specs.Banks.{collect_flip_flop_banks}
use Rattle.behaviour.specs.WireMap.{pins, Slot, find, port_slots, together, second_slot, reserve, reserve_all, bank_slot, slots}
use Rattle.wires.specs.Wires.{WireRef, Wires}
use Rattle.meaning.specs.Mapped.{ref_of, no_slot, entry_of, Mapping}
use Rattle.meaning.proofs.Placing.{placed, each_mem, all_keeps}

-- the wires of a read register
pub record Owned (m : Wires) (width : ℕ) (output : List ℕ) : Type 0 where
  pub wide : length output ≡ width
  pub lowest : (r : WireRef) → m (get_or output 0 0) ≡ Some r → r.lsb ≡ 0

-- the second port's
pub record SecondOwned (m : Wires) (r : BlockRam) (p : SecondPort) : Type 0 where
  pub owned : Owned m r.width p.output
  pub apart : (q s : WireRef) → m (get_or r.output 0 0) ≡ Some q → m (get_or p.output 0 0) ≡ Some s → q.signal ≡ s.signal → ⊥

abbrev pub ReadsOwned : Wires → Cell → Type 0
ReadsOwned m (lut4 i o t) = Unit {0}
ReadsOwned m (pfumx t f s o) = Unit {0}
ReadsOwned m (l6mux21 z y s o) = Unit {0}
ReadsOwned m (ccu2c u) = Unit {0}
ReadsOwned m (multiplier l r p) = Unit {0}
ReadsOwned m (flip_flop f) = Unit {0}
ReadsOwned m (block_ram r) = Owned m r.width r.output × FitsOption (SecondOwned m r) r.second
ReadsOwned m (distributed_ram r) = Unit {0}
ReadsOwned m (io p d i t) = Unit {0}
ReadsOwned m (jtagg ws) = Unit {0}
ReadsOwned m (pll p) = Unit {0}

-- THEIR SLOTS

-- those of a block RAM among the cells from number c on
ram_slots : (cells : List Cell) (c : ℕ) (held : List Slot) (r : BlockRam) → Mem (block_ram r) cells → (k : ℕ) × ((x : Slot) → Mem x (together k r.output 0 ++ second_slot k r.width r.second) → Mem x (reserve_all cells c held))
ram_slots [] c held r e = absurd (not-nil e)
ram_slots (y ∷ cells) c held r e = go (cases_cons e) (ram_slots cells (suc c) (reserve c y held) r)
  where
    go : (block_ram r ≡ y) ⊎ Mem (block_ram r) cells → (Mem (block_ram r) cells → (k : ℕ) × ((x : Slot) → Mem x (together k r.output 0 ++ second_slot k r.width r.second) → Mem x (reserve_all cells (suc c) (reserve c y held))))
        → (k : ℕ) × ((x : Slot) → Mem x (together k r.output 0 ++ second_slot k r.width r.second) → Mem x (reserve_all cells (suc c) (reserve c y held)))
    go (inl q) f = (c, λ x i. all_keeps cells (suc c) (reserve c y held) x (subst (λ (z : Cell). Mem x (reserve c z held)) q (mem-right held i)))
    go (inr q) f = f q

-- the first wire of a cell's pins from k on is the lowest bit of their signal
record Pinned (held : List Slot) (m : Wires) (c k : ℕ) (ws : List ℕ) : Type 0 where
  number : ℕ
  source : (get_or held number no_slot).source ≡ pins c k
  first : (r : WireRef) → m (get_or ws 0 0) ≡ Some r → (r.signal ≡ number) × (r.lsb ≡ 0)

pinned : {held : List Slot} {ss : List Signal} {m : Wires} (c k : ℕ) (ws : List ℕ) → Mapping held ss m → 1 ≤ length ws → Mem (record { source = pins c k; bits = map Wire ws }) held → Pinned held m c k ws
pinned c k [] h l e = absurd (omega (arith, l))
pinned {held} {ss} {m} c k (w ∷ ws) h l e =
    let x : Slot = record { source = pins c k; bits = map Wire (w ∷ ws) } in
    let p = placed held x e in
    let at : find w held 0 ≡ Some (entry_of held p.number 0) = h.apart p.number 0 w p.inside (subst (λ (y : Slot). 0 < length y.bits) (sym p.is) (omega arith)) (ap (λ (y : Slot). get_or y.bits 0 Zero) p.is) in
    record {
      number = p.number;
      source = ap (λ (y : Slot). y.source) p.is;
      first = λ r q. let z = some_is (sym (ap ref_of at) ∙ sym (h.finds w) ∙ q) in (sym (ap (λ (y : WireRef). y.signal) z), sym (ap (λ (y : WireRef). y.lsb) z));
    }
  where
    some_is : {a b : WireRef} → Some a ≡ Some b → a ≡ b
    some_is q = cc

pins_apart : {held : List Slot} {m : Wires} {c k j : ℕ} {ws vs : List ℕ} → Pinned held m c k ws → Pinned held m c j vs → k < j → (q s : WireRef) → m (get_or ws 0 0) ≡ Some q → m (get_or vs 0 0) ≡ Some s → q.signal ≡ s.signal → ⊥
pins_apart {held} {c = c} {k} {j} a b l q s e f g =
    let n : a.number ≡ b.number = sym (a.first q e).0 ∙ g ∙ (b.first s f).0 in
    let z : pins c k ≡ pins c j = sym a.source ∙ ap (λ (i : ℕ). (get_or held i no_slot).source) n ∙ b.source in
    let d : k ≡ j = cc in
    omega (arith, l, d)

module _ (limits : Limits) (n : Netlist) (fits : Each (FitsCell limits) n.cells) (m : Wires) {ss : List Signal} (mapped : Mapping (slots n) ss m) where
  one_owned : (x : Cell) → Mem x n.cells → FitsCell limits x → ReadsOwned m x
  one_owned (lut4 i o t) e f = tt
  one_owned (pfumx t f s o) e g = tt
  one_owned (l6mux21 z y s o) e f = tt
  one_owned (ccu2c u) e f = tt
  one_owned (multiplier l r p) e f = tt
  one_owned (flip_flop x) e f = tt
  one_owned (block_ram r) e f = (record { wide = f.output.0; lowest = λ q i. (first.first q i).1 }, second r.second f.second refl)
    where
      at : (k : ℕ) × ((x : Slot) → Mem x (together k r.output 0 ++ second_slot k r.width r.second) → Mem x (reserve_all n.cells 0 (port_slots n.ports 0)))
      at = ram_slots n.cells 0 (port_slots n.ports 0) r e

      there_of : (x : Slot) → Mem x (together at.0 r.output 0 ++ second_slot at.0 r.width r.second) → Mem x (slots n)
      there_of x i = mem-left (map bank_slot (collect_flip_flop_banks n.cells)) (at.1 x i)

      first : Pinned (slots n) m at.0 0 r.output
      first = pinned at.0 0 r.output mapped (omega (arith, f.output.0, f.width.0)) (there_of _ (here refl))

      second : (o : Option SecondPort) → FitsOption (FitsSecond limits r.width) o → r.second ≡ o → FitsOption (SecondOwned m r) o
      second None g q = tt
      second (Some p) g q =
          let own : Pinned (slots n) m at.0 r.width p.output = pinned at.0 r.width p.output mapped (omega (arith, g.output.0, f.width.0)) (there_of _ (there (subst (λ (o : Option SecondPort). Mem (record { source = pins at.0 r.width; bits = map Wire p.output }) (second_slot at.0 r.width o)) (sym q) (here refl)))) in
          record { owned = record { wide = g.output.0; lowest = λ s i. (own.first s i).1 }; apart = pins_apart first own (omega (arith, f.width.0)) }
  one_owned (distributed_ram r) e f = tt
  one_owned (io p d i t) e f = tt
  one_owned (jtagg ws) e f = tt
  one_owned (pll p) e f = tt

  pub reads_owned : (x : Cell) → Mem x n.cells → ReadsOwned m x
  reads_owned x e = one_owned x e (each_mem (FitsCell limits) n.cells fits x e)
