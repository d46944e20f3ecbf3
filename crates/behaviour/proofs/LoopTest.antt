-- The test of loops is true exactly of the netlists with no loop.
use Rattle.std.specs.Prelude.{◌≡◌, refl, Bool, true, false, ℕ, suc, length, eqb}
use mathlib.Core.List.Memᴰ.{append_left as in_left}
use mathlib.Core.List.Memᴰ.{append_right as in_right}
use mathlib.Core.List.Memᴰ.{head as here}
use mathlib.Core.List.Memᴰ.{not-nil}
use mathlib.Core.List.Memᴰ.{tail as there}
use mathlib.Core.List.{List, [], ◌∷◌, Memᴰ as Mem}
use Rattle.std.specs.Prelude.{Option, None, Some}
use Rattle.std.proofs.Common.{eqb-true}
use Rattle.bits.specs.Bits.{pick}
use Rattle.settle.specs.Ground.{way_first, grounded_no_loop, ends→grounded}
use Rattle.settle.specs.Loop.{mark}
use Rattle.settle.proofs.Loop.{mark→ends, ends→mark}
use Rattle.settle.specs.Tests.{all_in, all_out}
use Rattle.netlist.specs.declared.Bit.{Bit}
use Rattle.netlist.specs.declared.Bit.TheVariants.{Zero, One, Wire}
use Rattle.netlist.specs.Netlist.{Netlist}
use Rattle.behaviour.specs.WireMap.{Slot, WireRef, slots, place_of, held_at, find}
use Rattle.behaviour.specs.Behaviour.{wires_of, driver_in, driver_reads, Depends, NoWireLoop}
use Rattle.behaviour.proofs.Settled.{walks_end}
use Rattle.behaviour.specs.LoopTest.{held_wires, reads, loop_free}

abbrev Placed : ℕ → List Bit → Option ℕ → Type 0
Placed w l None = Unit {0}
Placed w l (Some i) = Mem w (wires_of l)

placed : (w : ℕ) (l : List Bit) (i : ℕ) → Placed w l (place_of w l i)
placed w [] i = tt
placed w (Zero ∷ l) i = go (place_of w l (suc i)) (placed w l (suc i))
  where
    go : (o : Option ℕ) → Placed w l o → Placed w (Zero ∷ l) o
    go None h = tt
    go (Some k) h = h
placed w (One ∷ l) i = go (place_of w l (suc i)) (placed w l (suc i))
  where
    go : (o : Option ℕ) → Placed w l o → Placed w (One ∷ l) o
    go None h = tt
    go (Some k) h = h
placed w (Wire x ∷ l) i = go (eqb w x) refl (place_of w l (suc i)) (placed w l (suc i))
  where
    more : (o : Option ℕ) → Placed w l o → Placed w (Wire x ∷ l) o
    more None h = tt
    more (Some k) h = there h

    go : (b : Bool) → eqb w x ≡ b → (o : Option ℕ) → Placed w l o → Placed w (Wire x ∷ l) (pick b (Some i) o)
    go true e o h = here (eqb-true w x e)
    go false e o h = more o h

abbrev Found : ℕ → List Slot → Option WireRef → Type 0
Found w l None = Unit {0}
Found w l (Some r) = Mem w (held_wires l)

found : (w : ℕ) (l : List Slot) (n : ℕ) → Found w l (find w l n)
found w [] n = tt
found w (s ∷ l) n = go (place_of w s.bits 0) (placed w s.bits 0) (find w l (suc n)) (found w l (suc n))
  where
    more : (o : Option WireRef) → Found w l o → Found w (s ∷ l) o
    more None h = tt
    more (Some r) h = in_right (wires_of s.bits) h

    go : (p : Option ℕ) → Placed w s.bits p → (o : Option WireRef) → Found w l o → Found w (s ∷ l) (held_at p s n o)
    go None q o h = more o h
    go (Some i) q o h = in_left (held_wires l) q

-- a wire that reads another is held
reader_held : (n : Netlist) (x z : ℕ) → Depends n x z → Mem x (held_wires (slots n))
reader_held n x z = go (find x (slots n) 0) (found x (slots n) 0)
  where
    go : (o : Option WireRef) → Found x (slots n) o → Mem z (driver_reads n.cells (driver_in o)) → Mem x (held_wires (slots n))
    go None h m = absurd (not-nil m)
    go (Some r) h m = h

pub loop_free→no_loop : (n : Netlist) → loop_free n ≡ true → NoWireLoop n
loop_free→no_loop n h x w =
    let r = way_first (Depends n) w in
    let m = all_out (mark (reads n) (suc (length n.cells))) (held_wires (slots n)) h x (reader_held n x r.0 r.1) in
    grounded_no_loop (Depends n) (ends→grounded (Depends n) (suc (length n.cells)) x (mark→ends (reads n) (suc (length n.cells)) x m)) w

pub no_loop→loop_free : (n : Netlist) → NoWireLoop n → loop_free n ≡ true
no_loop→loop_free n h = all_in (mark (reads n) (suc (length n.cells))) (held_wires (slots n)) (λ x m. ends→mark (reads n) (suc (length n.cells)) x (walks_end (slots n) n.cells h x))
