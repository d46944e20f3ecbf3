-- What a signal of the model may read: RAM words, and signals of wires on which all its own wires depend.
use Rattle.std.specs.Prelude.{◌≡◌, ℕ, suc, ◌≤◌, length}
use Rattle.std.specs.Prelude.{Some}
use Rattle.netlist.specs.Netlist.{Netlist}
use Rattle.behaviour.specs.WireMap.{slots}
use Rattle.behaviour.specs.Behaviour.{Depends}
use Rattle.wires.specs.Wires.{Wires, WireRef}

-- the number of the first RAM word's signal
abbrev pub first_word : Netlist → ℕ
first_word n = suc (suc (length (slots n)))

pub data MayRead (n : Netlist) (m : Wires) (t y : ℕ) : Type 0 where
  a_word : first_word n ≤ y → MayRead n m t y
  a_wire : (b : ℕ) (r : WireRef) → m b ≡ Some r → r.signal ≡ y → ((v : ℕ) (q : WireRef) → m v ≡ Some q → q.signal ≡ t → Depends n v b) → MayRead n m t y
