-- In a settled state of the model each wire holds what its driver gives, so the wires are the netlist's settled ones.
-- Assumes nothing.
use mathlib.Core.Path.{◌≡◌, refl, ap, sym, ◌∙◌, subst}
use mathlib.Core.Bool.{false}
use mathlib.Core.List.{List, [], ◌∷◌, ◌++◌, map, Memᴰ as Mem}
use Rattle.std.specs.Prelude.{Option, None, Some}
use Rattle.bits.proofs.Options.{none_ne_some}
use Prim.Native.Nat.{ℕ, zero, suc, ◌+◌, ◌<◌}
use native.Mathlib.Nat.{not-suc-le-zero}
use native.Mathlib.Omega.{arith}
use native.Mathlib.Decide.{dec_lt}
use lib.ListN.{length, get_or, take, drop, length-map}
use lib.Seq.{get_or-take, get_or-drop}
use Rattle.bits.specs.Bits.{Bits}
use Rattle.netlist.specs.declared.Bit.TheVariants.{Wire}
use Rattle.netlist.specs.declared.Limits.{Limits}
use Rattle.netlist.specs.Netlist.{Netlist, Cell}
use Rattle.netlist.specs.Shape.{each_at, FitsCell}
use Rattle.recorder.specs.Evaluate.{Signals}
use Rattle.behaviour.specs.Banks.{Member}
use Rattle.behaviour.specs.WireMap.{Source, inputs, Slot, WireRef, find, slots, bank_slot, word_signals}
use Rattle.behaviour.specs.Behaviour.{Valuation, Registers, unused, absent, output, Driver, driver, driver_in, bit_source, gives as given_by, drive, settle, NoWireLoop}
use Rattle.behaviour.proofs.Settled.{settled_only}
use Rattle.behaviour.proofs.MapLaws.{Holds as SlotHolds, BankHolds, bank_holds}
use Rattle.wires.specs.declared.Constants.{Constants}
use Rattle.wires.specs.Wires.{Wires, WireRef as Ref}
use Rattle.meaning.specs.Held.{ref_bit, held}
use Rattle.meaning.specs.Settles.{Tick}
use Rattle.meaning.specs.Mapped.{ref_of, no_slot}
use Rattle.meaning.specs.Runs.{Laid}
use Rattle.meaning.proofs.Whole.{Does, AllDo, Runs}
use Rattle.forms.specs.Groups.{Group, slot_of}
use Rattle.forms.specs.Lowered.{Lowered}
use Rattle.meaning.proofs.Placing.{Placed, Located, located}
use Rattle.forms.proofs.Slots.{Late, of_cell, of_bank, ports_first, slot_late}
use Rattle.forms.proofs.Counting.{mapping, slot_signals, PortSlot, gives, shows, port_slot, wire_at, bank_is, group_some}
use Rattle.equivalence.specs.Registers.{registers_of, registers_all}
use Rattle.equivalence.proofs.Outputs.{cell_gives}

-- the registers of cell c
pub registers_at : (σ : Signals) (m : Wires) (xs : List Cell) (ws : List (List ℕ)) (c : ℕ) → c < length xs → get_or (registers_all σ m xs ws) c unused ≡ registers_of σ m (get_or xs c absent) (get_or ws c [])
registers_at σ m [] ws c h = absurd (not-suc-le-zero h)
registers_at σ m (x ∷ xs) [] zero h = refl
registers_at σ m (x ∷ xs) [] (suc c) h = registers_at σ m xs [] c (omega arith)
registers_at σ m (x ∷ xs) (w ∷ ws) zero h = refl
registers_at σ m (x ∷ xs) (w ∷ ws) (suc c) h = registers_at σ m xs ws c (omega arith)

pub laid_at : (xs : List Cell) (ws : List (List ℕ)) (c : ℕ) → Laid xs ws → c < length xs → length (get_or ws c []) ≡ word_signals (get_or xs c absent)
laid_at [] ws c h l = absurd (not-suc-le-zero l)
laid_at (x ∷ xs) [] c h l = absurd h
laid_at (x ∷ xs) (w ∷ ws) zero h l = h.0
laid_at (x ∷ xs) (w ∷ ws) (suc c) h l = laid_at xs ws c h.1 (omega arith)

pub does_at : (κ : Tick) (m : Wires) (z : Constants) (xs : List Cell) (ws : List (List ℕ)) (c : ℕ) → AllDo κ m z xs ws → c < length xs → Does κ m z (get_or xs c absent) (get_or ws c [])
does_at κ m z [] ws c h l = absurd (not-suc-le-zero l)
does_at κ m z (x ∷ xs) [] c h l = absurd h
does_at κ m z (x ∷ xs) (w ∷ ws) zero h l = h.0
does_at κ m z (x ∷ xs) (w ∷ ws) (suc c) h l = does_at κ m z xs ws c h.1 (omega arith)

-- the input signals hold the tick's bits
pub record InputsHold (n : Netlist) (σ : Signals) (bits : Bits) : Type 0 where
  pub input_is : (s k : ℕ) → s < length n.ports → (get_or (slots n) s no_slot).source ≡ inputs k → σ s ≡ take (length (get_or (slots n) s no_slot).bits) (drop k bits)

module _ {shared : ℕ} {limits : Limits} {n : Netlist} (a : Lowered shared limits n) {K : Type 0} (κ : K → Tick) (runs : Runs κ n a.wires) (k : K) where
  abbrev m : Wires
  m = a.wires

  abbrev σ : Signals
  σ = (κ k).before

  abbrev v : Valuation
  v = held (κ k).before a.wires

  abbrev regs : List Registers
  regs = registers_all (κ k).before a.wires n.cells runs.words

  module _ (bits : Bits) (ins : InputsHold n σ bits) (w : ℕ) (r : Ref) (e : m w ≡ Some r) where
    at : Located n w r
    at = located n m (slot_signals a) (mapping a) w r e

    abbrev slot : Slot
    slot = get_or (slots n) r.signal no_slot

    wire_holds : v w ≡ get_or (σ r.signal) r.lsb false
    wire_holds = ap (ref_bit σ) e

    driver_is : driver (slots n) w ≡ bit_source slot.source r.lsb
    driver_is = ap driver_in at.found

    -- an input
    from_port : PortSlot slot → r.signal < length n.ports → given_by n.cells bits regs (bit_source slot.source r.lsb) v ≡ get_or (σ r.signal) r.lsb false
    from_port (gives j q) l =
        ap (λ (x : Source). given_by n.cells bits regs (bit_source x r.lsb) v) q
        ∙ sym (get_or-drop j bits r.lsb false)
        ∙ sym (get_or-take (length slot.bits) (drop j bits) r.lsb false at.within)
        ∙ ap (λ (x : Bits). get_or x r.lsb false) (sym (ins.input_is r.signal j l q))
    from_port (shows q) l = absurd (omega (arith, at.within, ap length q))

    -- a cell's output
    from_late : Late n slot → given_by n.cells bits regs (bit_source slot.source r.lsb) v ≡ get_or (σ r.signal) r.lsb false
    from_late (of_cell o) =
        let c : ℕ = o.place in
        let g : Group = o.of_group.group in
        let x : Cell = get_or n.cells o.place absent in
        let is : slot ≡ slot_of o.place o.of_group.group = o.of_group.is ∙ ap (λ (i : ℕ). slot_of i o.of_group.group) (let z : 0 + o.place ≡ o.place = omega arith in z) in
        let f = each_at (FitsCell limits) n.cells o.place absent a.fits.cells o.inside in
        let p : Placed (slots n) (slot_of o.place o.of_group.group) = record { number = r.signal; inside = at.inside; is = is } in
        let there_is : m (get_or o.of_group.group.wires 0 0) ≡ Some (record { signal = r.signal; lsb = 0; width = length o.of_group.group.wires }) =
        wire_at a (Rattle.behaviour.specs.WireMap.pins o.place o.of_group.group.pin) o.of_group.group.wires p 0 (group_some limits x g f o.of_group.one_of) in
        let low : r.lsb < length o.of_group.group.wires = omega (arith, at.within, ap (λ (s : Slot). length s.bits) is, length-map o.of_group.group.wires Wire) in
        ap (λ (s : Slot). given_by n.cells bits regs (bit_source s.source r.lsb) v) is
        ∙ ap (λ (y : Registers). output v y (get_or n.cells o.place absent) (o.of_group.group.pin + r.lsb)) (registers_at σ m n.cells runs.words o.place o.inside)
        ∙ cell_gives limits (κ k) m runs.constants (get_or n.cells o.place absent) (get_or runs.words o.place []) f (laid_at n.cells runs.words o.place runs.laid o.inside)
        (does_at (κ k) m runs.constants n.cells runs.words o.place (runs.cells_do k) o.inside) o.of_group.group o.of_group.one_of (record { signal = r.signal; lsb = 0; width = length o.of_group.group.wires }) there_is r.lsb low
    from_late (of_bank b h q) =
        let d : Member = b.leader in
        let x : WireRef = record { signal = r.signal; lowest = r.lsb; width = r.width; source = slot.source } in
        let sh : SlotHolds w (bank_slot b) x = subst (λ (s : Slot). SlotHolds w s x) q (record { width = at.width; source = refl; inside = at.within; is = at.is }) in
        let bh : BankHolds b w d x = bank_holds b w d x sh in
        let c : ℕ = (get_or b.members r.lsb b.leader).cell in
        let i = ((bank_is a b h).member (get_or b.members r.lsb b.leader) (member_there b.members r.lsb b.leader bh.inside)).0 in
        ap (λ (y : Driver). given_by n.cells bits regs y v) bh.drives
        ∙ ap (λ (y : Registers). output v y (get_or n.cells (get_or b.members r.lsb b.leader).cell absent) 0) (registers_at σ m n.cells runs.words (get_or b.members r.lsb b.leader).cell i.inside)
        ∙ ap (λ (y : Cell). output v (registers_of σ m y (get_or runs.words (get_or b.members r.lsb b.leader).cell [])) y 0) i.is
        ∙ ap v bh.output ∙ wire_holds
      where
        member_there : (ms : List Member) (j : ℕ) (d : Member) → j < length ms → Mem (get_or ms j d) ms
        member_there [] j d l = absurd (not-suc-le-zero l)
        member_there (x ∷ ms) zero d l = mathlib.Core.List.Memᴰ.head refl
        member_there (x ∷ ms) (suc j) d l = mathlib.Core.List.Memᴰ.tail (member_there ms j d (omega arith))

    wire_driven : drive (slots n) n.cells bits regs w v ≡ v w
    wire_driven = ap (λ (d : Driver). given_by n.cells bits regs d v) driver_is ∙ go (dec_lt r.signal (length n.ports)) ∙ sym wire_holds
      where
        go : Dec (r.signal < length n.ports) → given_by n.cells bits regs (bit_source slot.source r.lsb) v ≡ get_or (σ r.signal) r.lsb false
        go (yes l) = from_port (subst PortSlot (sym (ports_first n r.signal l)) (port_slot n.ports 0 r.signal l)) l
        go (no l) = from_late (slot_late n r.signal (omega arith) at.inside)

  pub all_driven : (bits : Bits) → InputsHold n σ bits → (w : ℕ) → drive (slots n) n.cells bits regs w v ≡ v w
  all_driven bits ins w = go (m w) refl
    where
      none_found : m w ≡ None → (o : Option WireRef) → find w (slots n) 0 ≡ o → o ≡ None
      none_found q None e = refl
      none_found q (Some x) e = absurd (none_ne_some _ (sym q ∙ (mapping a).finds w ∙ ap ref_of e))

      go : (o : Option Ref) → m w ≡ o → drive (slots n) n.cells bits regs w v ≡ v w
      go None q = ap (λ (x : Option WireRef). given_by n.cells bits regs (driver_in x) v) (none_found q (find w (slots n) 0) refl) ∙ sym (ap (ref_bit σ) q)
      go (Some r) q = wire_driven bits ins w r q

  -- the wires hold the netlist's settled values
  pub wires_settled : (bits : Bits) → InputsHold n σ bits → NoWireLoop n → (w : ℕ) → v w ≡ settle (slots n) n.cells bits regs w
  wires_settled bits ins loopless w = settled_only n loopless bits regs v (all_driven bits ins) w
