use Rattle.std.proofs.Common.{◌+◌}
use Rattle.netlist.specs.Fields.{wires_at}
use Rattle.wires.specs.Wires.{wires_in}
use Rattle.cells.specs.Cells.{pll_clocks}
use Rattle.clocking.proofs.Each.{clock, Doing}
use Rattle.clocking.proofs.pll.assign_clocks.Given as goal

abbrev pub invariant-loop-i : goal.invariant-loop-i
invariant-loop-i l = Doing (clock (wires_in l.map) l.feedback l.output l.value.0) (wires_at l.fields.words.now (l.fields.at + 6) l.n) (pll_clocks (wires_in l.map) l.feedback l.output (wires_at l.fields.words.now (l.fields.at + 6) l.n) l.value.0) l.initial.recorder l.recorder l.i
