use Rattle.std.proofs.Common.{◌+◌}
use Rattle.netlist.specs.Fields.{wires_at}
use Rattle.wires.specs.Wires.{wires_in}
use Rattle.wires.specs.Expressions.{assign_wire}
use Rattle.cells.specs.Cells.{assign_all}
use Rattle.clocking.proofs.Each.{Doing}
use Rattle.clocking.proofs.jtagg.assign_all.Given as goal

abbrev pub invariant-loop-i : goal.invariant-loop-i
invariant-loop-i l = Doing (λ w. assign_wire (wires_in l.map) w l.value.0) (wires_at l.fields.words.now (l.fields.at + l.offset) l.n) (assign_all (wires_in l.map) (wires_at l.fields.words.now (l.fields.at + l.offset) l.n) l.value.0) l.initial.recorder l.recorder l.i
