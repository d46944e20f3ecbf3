use Rattle.std.proofs.Common.{◌≡◌, drop}
use Rattle.simulation.specs.Index.{widths_in}
use Rattle.simulation.specs.Fault.{all_wide}
use Rattle.model_check.proofs.check.each_operand.Given as goal

abbrev pub invariant-loop-a : goal.invariant-loop-a
invariant-loop-a l = all_wide (widths_in l.exprs.list.now) l.n l.w (drop l.a-index l.operands) ≡ all_wide (widths_in l.exprs.list.now) l.n l.w l.operands
