-- Whether a netlist has a loop, as a test that computes. It is true exactly of the netlists with no loop (proofs/LoopTest).
use Rattle.std.specs.Prelude.{Bool, ℕ, suc, length}
use mathlib.Core.List.{List, [], ◌∷◌, ◌++◌}
use Rattle.settle.specs.Loop.{mark}
use Rattle.settle.specs.Tests.{all}
use Rattle.netlist.specs.Netlist.{Netlist}
use Rattle.behaviour.specs.WireMap.{Slot, slots}
use Rattle.behaviour.specs.Behaviour.{wires_of, driver, driver_reads}

abbrev pub held_wires : List Slot → List ℕ
held_wires [] = []
held_wires (s ∷ l) = wires_of s.bits ++ held_wires l

abbrev pub reads : Netlist → ℕ → List ℕ
reads n x = driver_reads n.cells (driver (slots n) x)

-- every driven wire is marked after as many rounds as `settle` sweeps; a round marks the wires whose reads were marked before
abbrev pub loop_free : Netlist → Bool
loop_free n = all (mark (reads n) (suc (length n.cells))) (held_wires (slots n))
