-- The wire map of an accepted netlist suits its emission: targets have their values' widths, and read only what their wires depend on.
-- Assumes nothing.
use mathlib.Core.Path.{◌≡◌, refl, ap, ap₂, sym, ◌∙◌, subst}
use mathlib.Core.Logic.{◌⊎◌, inl, inr}
use mathlib.Core.Bool.{Bool, true, false}
use mathlib.Core.List.Memᴰ.{cases_cons}
use mathlib.Core.List.Memᴰ.{head as here}
use mathlib.Core.List.Memᴰ.{not-nil}
use mathlib.Core.List.Memᴰ.{tail as there}
use mathlib.Core.List.{List, [], ◌∷◌, ◌++◌, map, Memᴰ as Mem}
use Rattle.std.specs.Prelude.{Option, None, Some}
use Prim.Native.Nat.{ℕ, zero, suc, ◌+◌, ◌-◌, ◌≤◌, ◌<◌}
use native.Mathlib.Nat.{not-suc-le-zero}
use native.Mathlib.Omega.{arith}
use lib.Dec.{eqb}
use lib.ListN.{length, get_or, length-map}
use borrow.Author.Tests.{ne_eqb}
use Rattle.bits.specs.Bits.{pick}
use Rattle.netlist.specs.declared.Bit.{Bit}
use Rattle.netlist.specs.declared.Bit.TheVariants.{Zero, Wire}
use Rattle.netlist.specs.declared.Limits.{Limits}
use Rattle.netlist.specs.Netlist.{Port, SecondPort, Pll, Netlist, Cell, lut4, pfumx, l6mux21, ccu2c, multiplier, flip_flop, block_ram, distributed_ram, io, jtagg, pll}
use Rattle.netlist.specs.Shape.{Each, each_at, FitsOption, FitsSecond, FitsCell}
use Rattle.behaviour.specs.Banks.{Member, Bank, outputs_of, collect_flip_flop_banks}
use Rattle.behaviour.specs.WireMap.{inputs, shown, pins, Slot, port_slots, pll_wires, slots}
use Rattle.behaviour.specs.Behaviour.{Driver, pin, driver, driver_in, bit_source, driver_reads, depends, wires_of, absent, Depends}
use Rattle.wires.specs.Wires.{Wires, WireRef as Ref}
use Rattle.meaning.specs.Mapped.{no_slot}
use Rattle.forms.specs.Groups.{Group, apiece, second_group, groups, slot_of, is_pll}
use Rattle.forms.specs.Typed.{NoSignal}
use Rattle.forms.specs.Suits.{From, WideAs, Suits, AllSuit, SecondSuits, CellSuits, BankSuits, PortSuits, PortsSuit}
use Rattle.forms.specs.Lowered.{Lowered}
use Rattle.forms.specs.Dependent.{first_word, MayRead, a_word, a_wire}
use Rattle.meaning.proofs.Placing.{Placed, Located, located}
use Rattle.forms.proofs.Slots.{group_slot, bank_slot_lem, ports_first, ports_within}
use Rattle.forms.proofs.Counting.{slot_signals, mapping, wire_at, bank_is, OwnSlot, pll_own, pll_apart, apiece_wire, group_some, leader_first, leader_there}

module _ {shared : ℕ} {limits : Limits} {n : Netlist} (a : Lowered shared limits n) where
  abbrev m : Wires
  m = a.wires

  abbrev D : ℕ → ℕ → Type 0
  D = MayRead n m

  abbrev words : ℕ
  words = first_word n

  pub at_wire : (v : ℕ) (q : Ref) → m v ≡ Some q → Located n v q
  at_wire v q e = located n m (slot_signals a) (mapping a) v q e

  -- a wire in a group's slot is driven by that cell
  pub driven_by : (c : ℕ) (g : Group) (v : ℕ) (q : Ref) → m v ≡ Some q → get_or (slots n) q.signal no_slot ≡ slot_of c g → driver (slots n) v ≡ pin c (g.pin + q.lsb)
  driven_by c g v q e s = ap driver_in (at_wire v q e).found ∙ ap (λ (x : Slot). bit_source x.source q.lsb) s

  -- so it depends on what the cell reads
  depends_by : (c : ℕ) (g : Group) (t : ℕ) (bits : List Bit) → get_or (slots n) t no_slot ≡ slot_of c g → ((k : ℕ) → depends (get_or n.cells c absent) (g.pin + k) ≡ bits) → (b : ℕ) → Mem b (wires_of bits)
      → (v : ℕ) (q : Ref) → m v ≡ Some q → q.signal ≡ t → Depends n v b
  depends_by c g t bits s f b h v q e z =
      subst (λ (d : Driver). Mem b (driver_reads n.cells d)) (sym (driven_by c g v q e (ap (λ (i : ℕ). get_or (slots n) i no_slot) z ∙ s)))
      (subst (λ (l : List Bit). Mem b (wires_of l)) (sym (f q.lsb)) h)

  may : (c : ℕ) (g : Group) (bits : List Bit) (t : ℕ) → get_or (slots n) t no_slot ≡ slot_of c g → ((k : ℕ) → depends (get_or n.cells c absent) (g.pin + k) ≡ bits) → (y : ℕ) → From m bits y → D t y
  may c g bits t s f y h = a_wire h.wire h.ref h.is h.signal (depends_by c g t bits s f h.wire h.one_of)

  -- CELLS THAT ARE NO PLL

  module _ (c : ℕ) (inside : c < length n.cells) (plain : is_pll (get_or n.cells c absent) ≡ false) where
    abbrev x : Cell
    x = get_or n.cells c absent

    fits : FitsCell limits x
    fits = each_at (FitsCell limits) n.cells c absent a.fits.cells inside

    module _ (g : Group) (one_of : Mem g (groups x)) where
      at : Placed (slots n) (slot_of c g)
      at = group_slot n c g inside plain one_of

      there_is : m (get_or g.wires 0 0) ≡ Some (record { signal = at.number; lsb = 0; width = length g.wires })
      there_is = wire_at a (pins c g.pin) g.wires at 0 (group_some limits x g fits one_of)

      group_wide : WideAs m (get_or g.wires 0 0) (length g.wires)
      group_wide r e =
          let y : Some r ≡ Some (record { signal = at.number; lsb = 0; width = length g.wires }) = sym e ∙ there_is in
          let z : r ≡ record { signal = at.number; lsb = 0; width = length g.wires } = cc in
          ap (λ (q : Ref). q.width) z

      group_suits : {S : ℕ → Type 0} (bits : List Bit) → ((k : ℕ) → depends x (g.pin + k) ≡ bits) → ((y : ℕ) → S y → From m bits y ⊎ (words ≤ y)) → Suits D words m (get_or g.wires 0 0) (length g.wires) S
      group_suits {S} bits f h = record { width = group_wide; may = λ r e y q. go r e y (h y q) }
        where
          go : (r : Ref) → m (get_or g.wires 0 0) ≡ Some r → (y : ℕ) → From m bits y ⊎ (words ≤ y) → D r.signal y
          go r e y (inr l) = a_word l
          go r e y (inl q) =
              let u : Some r ≡ Some (record { signal = at.number; lsb = 0; width = length g.wires }) = sym e ∙ there_is in
              let z : r ≡ record { signal = at.number; lsb = 0; width = length g.wires } = cc in
              may c g bits r.signal (ap (λ (w : Ref). get_or (slots n) w.signal no_slot) z ∙ at.is) f y q

  -- A PLL

  module _ (c : ℕ) (inside : c < length n.cells) (p : Pll) (is : get_or n.cells c absent ≡ pll p) where
    own_slot : (w : ℕ) → Mem w (pll_wires p) → (r : Ref) → m w ≡ Some r → OwnSlot n c p r.signal
    own_slot w h r e = pll_own a c p inside is w h r e

    pll_wide : (w : ℕ) → Mem w (pll_wires p) → WideAs m w 1
    pll_wide w h r e =
        let o = own_slot w h r e in
        let q = apiece_wire (pll_wires p) 0 o.group o.one_of in
        (at_wire w r e).width ∙ ap (λ (s : Slot). length s.bits) o.slot ∙ ap (λ (l : List ℕ). length (map Wire l)) q.2

    nothing_suits : (w : ℕ) → Mem w (pll_wires p) → Suits D words m w 1 NoSignal
    nothing_suits w h = record { width = pll_wide w h; may = λ r e y q. absurd q }

    -- the group of pin 2 is the locked wire
    pin_wire : (ws : List ℕ) (k : ℕ) (g : Group) → Mem g (apiece ws k) → (k ≤ g.pin) × (g.wires ≡ get_or ws (g.pin - k) 0 ∷ [])
    pin_wire [] k g h = absurd (not-nil h)
    pin_wire (w ∷ ws) k g h = go (cases_cons h) (pin_wire ws (suc k) g)
      where
        go : (g ≡ record { pin = k; wires = w ∷ [] }) ⊎ Mem g (apiece ws (suc k)) → (Mem g (apiece ws (suc k)) → (suc k ≤ g.pin) × (g.wires ≡ get_or ws (g.pin - suc k) 0 ∷ [])) → (k ≤ g.pin) × (g.wires ≡ get_or (w ∷ ws) (g.pin - k) 0 ∷ [])
        go (inl e) f =
            let z : g.pin - k ≡ 0 = omega (arith, ap (λ (y : Group). y.pin) e) in
            (omega (arith, ap (λ (y : Group). y.pin) e), ap (λ (y : Group). y.wires) e ∙ ap (λ (i : ℕ). get_or (w ∷ ws) i 0 ∷ []) (sym z))
        go (inr q) f =
            let r = f q in
            let z : g.pin - k ≡ suc (g.pin - suc k) = omega (arith, r.0) in
            (omega (arith, r.0), r.1 ∙ ap (λ (i : ℕ). get_or (w ∷ ws) i 0 ∷ []) (sym z))

    is_clock : (w : ℕ) → Mem w (p.feedback ∷ p.output ∷ p.more) → Mem w (pll_wires p)
    is_clock w h = one (cases_cons h)
      where
        two : (w ≡ p.output) ⊎ Mem w p.more → Mem w (p.output ∷ p.locked ∷ p.more)
        two (inl e) = here e
        two (inr q) = there (there q)

        one : (w ≡ p.feedback) ⊎ Mem w (p.output ∷ p.more) → Mem w (pll_wires p)
        one (inl e) = here e
        one (inr q) = there (two (cases_cons q))

    wire_inside : (v w : ℕ) → get_or (Wire v ∷ []) 0 Zero ≡ Wire w → v ≡ w
    wire_inside v w h = let q : Wire v ≡ Wire w = h in cc

    -- a clock's slot is not that of pin 2
    clock_pin : (w : ℕ) (h : Mem w (p.feedback ∷ p.output ∷ p.more)) (r : Ref) (e : m w ≡ Some r) → eqb (own_slot w (is_clock w h) r e).group.pin 2 ≡ false
    clock_pin w h r e = ne_eqb _ 2 (λ two. pll_apart a c p inside is w (is_clock w h) r e h (same two))
      where
        o : OwnSlot n c p r.signal
        o = own_slot w (is_clock w h) r e

        same : o.group.pin ≡ 2 → w ≡ p.locked
        same two =
            let l = at_wire w r e in
            let q = pin_wire (pll_wires p) 0 o.group o.one_of in
            let k : o.group.pin - 0 ≡ 2 = omega (arith, two) in
            let bits_are : (get_or (slots n) r.signal no_slot).bits ≡ Wire p.locked ∷ [] = ap (λ (s : Slot). s.bits) o.slot ∙ ap (λ (ws : List ℕ). map Wire ws) q.1 ∙ ap (λ (i : ℕ). Wire (get_or (pll_wires p) i 0) ∷ []) k in
            let low : r.lsb ≡ 0 = omega (arith, l.within, ap length bits_are) in
            sym (wire_inside p.locked w (ap₂ (λ (bs : List Bit) (i : ℕ). get_or bs i Zero) (sym bits_are) (sym low) ∙ l.is))

    clock_suits : (w : ℕ) → Mem w (p.feedback ∷ p.output ∷ p.more) → Suits D words m w 1 (From m (p.reference ∷ []))
    clock_suits w h = record {
      width = pll_wide w (is_clock w h);
      may = λ r e y q.
          let o = own_slot w (is_clock w h) r e in
          let pw = pin_wire (pll_wires p) 0 o.group o.one_of in
          a_wire q.wire q.ref q.is q.signal (λ v r₂ e₂ z.
          subst (λ (d : Driver). Mem q.wire (driver_reads n.cells d)) (sym (driven_by c o.group v r₂ e₂ (ap (λ (i : ℕ). get_or (slots n) i no_slot) z ∙ o.slot)))
          (subst (λ (u : Cell). Mem q.wire (wires_of (depends u (o.group.pin + r₂.lsb)))) (sym is)
          (subst (λ (b : Bool). Mem q.wire (wires_of (pick b [] (p.reference ∷ [])))) (sym (first_bit r e o.group.pin r₂.lsb (low r₂ v e₂ (ap (λ (i : ℕ). get_or (slots n) i no_slot) z ∙ o.slot ∙ ap (λ (ws : List ℕ). record { source = pins c o.group.pin; bits = map Wire ws }) pw.1)) (clock_pin w h r e))) q.one_of)));
    }
      where
        low : (r₂ : Ref) (v : ℕ) → m v ≡ Some r₂ → {k u : ℕ} → get_or (slots n) r₂.signal no_slot ≡ record { source = pins c k; bits = Wire u ∷ [] } → r₂.lsb ≡ 0
        low r₂ v e₂ s = omega (arith, (at_wire v r₂ e₂).within, ap (λ (y : Slot). length y.bits) s)

        first_bit : (r : Ref) → m w ≡ Some r → (k i : ℕ) → i ≡ 0 → eqb k 2 ≡ false → eqb (k + i) 2 ≡ false
        first_bit r e k i z f = ap (λ (j : ℕ). eqb j 2) (let q : k + i ≡ k = omega (arith, z) in q) ∙ f

    clocks_suit : (ws : List ℕ) → ((w : ℕ) → Mem w ws → Mem w (p.feedback ∷ p.output ∷ p.more)) → AllSuit D words m ws (From m (p.reference ∷ []))
    clocks_suit [] f = tt
    clocks_suit (w ∷ ws) f = (clock_suits w (f w (here refl)), clocks_suit ws (λ v q. f v (there q)))

  -- EVERY CELL

  apiece_at : (ws : List ℕ) (k w : ℕ) → Mem w ws → (g : Group) × Mem g (apiece ws k) × (g.wires ≡ w ∷ [])
  apiece_at [] k w h = absurd (not-nil h)
  apiece_at (v ∷ ws) k w h = go (cases_cons h) (apiece_at ws (suc k) w)
    where
      go : (w ≡ v) ⊎ Mem w ws → (Mem w ws → (g : Group) × Mem g (apiece ws (suc k)) × (g.wires ≡ w ∷ [])) → (g : Group) × Mem g (apiece (v ∷ ws) k) × (g.wires ≡ w ∷ [])
      go (inl e) f = (record { pin = k; wires = v ∷ [] }, here refl, ap (λ (u : ℕ). u ∷ []) (sym e))
      go (inr q) f = let r = f q in (r.0, there r.1, r.2)

  as_wires : {S : ℕ → Type 0} (ws vs : List ℕ) → ws ≡ vs → Suits D words m (get_or ws 0 0) (length ws) S → Suits D words m (get_or vs 0 0) (length vs) S
  as_wires {S} ws vs e h = subst (λ (l : List ℕ). Suits D words m (get_or l 0 0) (length l) S) e h

  module _ (c : ℕ) (inside : c < length n.cells) where
    abbrev is_cell : Cell → Type 0
    is_cell y = get_or n.cells c absent ≡ y

    plain_of : (y : Cell) → is_cell y → is_pll y ≡ false → is_pll (get_or n.cells c absent) ≡ false
    plain_of y e p = ap is_pll e ∙ p

    -- one group of a known cell, whose outputs all depend on these bits
    one_group : {S : ℕ → Type 0} (y : Cell) (e : is_cell y) → is_pll y ≡ false → (g : Group) → Mem g (groups y) → (bits : List Bit) → ((k : ℕ) → depends y (g.pin + k) ≡ bits) → ((z : ℕ) → S z → From m bits z ⊎ (words ≤ z)) → Suits D words m (get_or g.wires 0 0) (length g.wires) S
    one_group y e p g h bits f s = group_suits c inside (plain_of y e p) g (subst (λ (z : Cell). Mem g (groups z)) (sym e) h) bits (λ k. ap (λ (z : Cell). depends z (g.pin + k)) e ∙ f k) s

    one_wide : (y : Cell) (e : is_cell y) → is_pll y ≡ false → (g : Group) → Mem g (groups y) → WideAs m (get_or g.wires 0 0) (length g.wires)
    one_wide y e p g h = group_wide c inside (plain_of y e p) g (subst (λ (z : Cell). Mem g (groups z)) (sym e) h)

    apiece_suits : {S : ℕ → Type 0} (y : Cell) (e : is_cell y) → is_pll y ≡ false → (ws : List ℕ) → groups y ≡ apiece ws 0 → (bits : List Bit) → ((k : ℕ) → depends y k ≡ bits) → ((z : ℕ) → S z → From m bits z ⊎ (words ≤ z)) → (w : ℕ) → Mem w ws → Suits D words m w 1 S
    apiece_suits {S} y e p ws q bits f s w h =
        let r = apiece_at ws 0 w h in
        as_wires r.0.wires (w ∷ []) r.2 (one_group y e p r.0 (subst (λ (l : List Group). Mem r.0 l) (sym q) r.1) bits (λ k. f (r.0.pin + k)) s)

    second_suits : (o : Option SecondPort) (width : ℕ) → FitsOption (FitsSecond limits width) o → ((p : SecondPort) → o ≡ Some p → WideAs m (get_or p.output 0 0) (length p.output)) → SecondSuits D words m width o
    second_suits None width f h = tt
    second_suits (Some p) width f h = λ r q. h p refl r q ∙ f.output.0

    cell_suits : (y : Cell) → is_cell y → FitsCell limits y → CellSuits D words m y
    cell_suits (lut4 i o t) e f = apiece_suits (lut4 i o t) e refl (o ∷ []) refl i (λ k. refl) (λ y q. inl q) o (here refl)
    cell_suits (pfumx t g s o) e f = apiece_suits (pfumx t g s o) e refl (o ∷ []) refl (t ∷ g ∷ s ∷ []) (λ k. refl) (λ y q. inl q) o (here refl)
    cell_suits (l6mux21 g t s o) e f = apiece_suits (l6mux21 g t s o) e refl (o ∷ []) refl (g ∷ t ∷ s ∷ []) (λ k. refl) (λ y q. inl q) o (here refl)
    cell_suits (ccu2c u) e f =
        let one : (w : ℕ) → Mem w (u.sum0 ∷ u.sum1 ∷ u.carry ∷ []) → Suits D words m w 1 (From m (u.row0 ++ (u.row1 ++ (u.carry_in ∷ [])))) =
        apiece_suits (ccu2c u) e refl (u.sum0 ∷ u.sum1 ∷ u.carry ∷ []) refl (u.row0 ++ (u.row1 ++ (u.carry_in ∷ []))) (λ k. refl) (λ y q. inl q) in
        (one u.sum0 (here refl), (one u.sum1 (there (here refl)), (one u.carry (there (there (here refl))), tt)))
    cell_suits (multiplier l r p) e f =
        subst (λ (k : ℕ). Suits D words m (get_or p 0 0) k (From m (l ++ r))) f.2.0 (one_group (multiplier l r p) e refl (record { pin = 0; wires = p }) (here refl) (l ++ r) (λ k. refl) (λ y q. inl q))
    cell_suits (flip_flop g) e f = tt
    cell_suits (block_ram r) e f = (
      λ q h. one_wide (block_ram r) e refl (record { pin = 0; wires = r.output }) (here refl) q h ∙ f.output.0,
      second_suits r.second r.width f.second (λ p q. one_wide (block_ram r) e refl (record { pin = r.width; wires = p.output }) (there (subst (λ (o : Option SecondPort). Mem (record { pin = r.width; wires = p.output }) (second_group r.width o)) (sym q) (here refl)))),
    )
    cell_suits (distributed_ram r) e f =
        subst (λ (k : ℕ). Suits D words m (get_or r.output 0 0) k (λ y. From m r.read_address y ⊎ (words ≤ y))) f.output.0
        (one_group (distributed_ram r) e refl (record { pin = 0; wires = r.output }) (here refl) r.read_address (λ k. refl) (λ y q. q))
    cell_suits (io p d i t) e f = apiece_suits (io p d i t) e refl (i ∷ []) refl (Wire p ∷ d ∷ t ∷ []) (λ k. refl) (λ y q. inl q) i (here refl)
    cell_suits (jtagg ws) e f = λ w h. apiece_suits (jtagg ws) e refl ws refl [] (λ k. refl) (λ y q. absurd q) w h
    cell_suits (pll p) e f = (clocks_suit c inside p e (p.feedback ∷ p.output ∷ p.more) (λ w q. q), nothing_suits c inside p e p.locked (there (there (here refl))))

  -- a statement by place, for all of a list
  pub each_from : {A : Type 0} (P : A → Type 0) (d : A) (l : List A) → ((i : ℕ) → i < length l → P (get_or l i d)) → Each P l
  each_from P d [] f = tt
  each_from P d (x ∷ l) f = (f 0 (omega arith), each_from P d l (λ i h. f (suc i) (omega arith)))

  pub cells_suit : Each (CellSuits D words m) n.cells
  cells_suit = each_from (CellSuits D words m) absent n.cells (λ c h. cell_suits c h (get_or n.cells c absent) refl (each_at (FitsCell limits) n.cells c absent a.fits.cells h))

  -- BANKS

  pub each_mem_in : (P : Bank → Type 0) (bs : List Bank) → ((b : Bank) → Mem b bs → P b) → Each P bs
  each_mem_in P [] f = tt
  each_mem_in P (b ∷ bs) f = (f b (here refl), each_mem_in P bs (λ x q. f x (there q)))

  outputs_long : (ms : List Member) → length (outputs_of ms) ≡ length ms
  outputs_long ms = length-map ms _

  pub bank_suits : (b : Bank) → Mem b (collect_flip_flop_banks n.cells) → BankSuits D words m b
  bank_suits b h r e =
      let f = (bank_is a b h).first in
      let p = bank_slot_lem n b h in
      let w = wire_at a _ (outputs_of b.members) p 0 (leader_there a b f) in
      let y : Some r ≡ Some (record { signal = p.number; lsb = 0; width = length (outputs_of b.members) }) = sym e ∙ ap m (sym (leader_first a b f)) ∙ w in
      let z : r ≡ record { signal = p.number; lsb = 0; width = length (outputs_of b.members) } = cc in
      ap (λ (q : Ref). q.width) z ∙ outputs_long b.members

  -- PORTS: an output's signal holds no wire

  port_empty : (ports : List Port) (k s : ℕ) (d : Port) → s < length ports → eqb (get_or ports s d).direction 1 ≡ true → (get_or (port_slots ports k) s no_slot).bits ≡ []
  port_empty [] k s d h e = absurd (not-suc-le-zero h)
  port_empty (p ∷ ports) k zero d h e = ap (λ (b : Bool). (get_or (pick b (record { source = shown; bits = [] } ∷ port_slots ports k) (record { source = inputs k; bits = p.bits } ∷ port_slots ports (k + length p.bits))) 0 no_slot).bits) e
  port_empty (p ∷ ports) k (suc s) d h e = go (eqb p.direction 1) (port_empty ports k s d (omega arith) e) (port_empty ports (k + length p.bits) s d (omega arith) e)
    where
      go : (b : Bool) → (get_or (port_slots ports k) s no_slot).bits ≡ [] → (get_or (port_slots ports (k + length p.bits)) s no_slot).bits ≡ []
          → (get_or (pick b (record { source = shown; bits = [] } ∷ port_slots ports k) (record { source = inputs k; bits = p.bits } ∷ port_slots ports (k + length p.bits))) (suc s) no_slot).bits ≡ []
      go true x y = x
      go false x y = y

  abbrev pub no_port : Port
  no_port = record { direction = 0; bits = [] }

  port_suits : (s : ℕ) → s < length n.ports → PortSuits D words m s (get_or n.ports s no_port)
  port_suits s h e = (
    omega (arith, h, ports_within n),
    λ y f. a_wire f.wire f.ref f.is f.signal (λ v q e₂ z.
        let empty : (get_or (slots n) s no_slot).bits ≡ [] = ap (λ (x : Slot). x.bits) (ports_first n s h) ∙ port_empty n.ports 0 s no_port h e in
        let none_there : q.lsb < length (get_or (slots n) s no_slot).bits = subst (λ (i : ℕ). q.lsb < length (get_or (slots n) i no_slot).bits) z (at_wire v q e₂).within in
        absurd (omega (arith, none_there, ap length empty))),
  )

  ports_from : (p : ℕ) (xs : List Port) → ((i : ℕ) → i < length xs → PortSuits D words m (p + i) (get_or xs i no_port)) → PortsSuit D words m p xs
  ports_from p [] f = tt
  ports_from p (x ∷ xs) f = (
    subst (λ (k : ℕ). PortSuits D words m k x) (let z : p + 0 ≡ p = omega arith in z) (f 0 (omega arith)),
    ports_from (suc p) xs (λ i h. subst (λ (k : ℕ). PortSuits D words m k (get_or xs i no_port)) (let z : p + suc i ≡ suc p + i = omega arith in z) (f (suc i) (omega arith))),
  )

  pub ports_suit : PortsSuit D words m 0 n.ports
  ports_suit = ports_from 0 n.ports (λ i h. subst (λ (k : ℕ). PortSuits D words m k (get_or n.ports i no_port)) (let z : i ≡ 0 + i = omega arith in z) (port_suits i h))
