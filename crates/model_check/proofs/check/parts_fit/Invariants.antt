use Rattle.std.proofs.Common.{◌-◌, ◌≡◌, ◌≤◌}
use Rattle.simulation.specs.Index.{widths_in}
use Rattle.simulation.proofs.Exprs.{parts_left}
use Rattle.model_check.proofs.check.parts_fit.Given as goal

abbrev pub invariant-loop-p : goal.invariant-loop-p
invariant-loop-p l =
    (l.left ≤ l.w) × (parts_left (widths_in l.exprs.list.now) l.n l.w l.parts (l.w - l.left) l.p-index ≡ parts_left (widths_in l.exprs.list.now) l.n l.w l.parts 0 0)
