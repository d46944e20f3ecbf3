use Rattle.ordering.specs.Marks.{marked}
use Rattle.ordering.proofs.Scans.{Failed}
use Rattle.runner.proofs.marks.any_marked.Given as goal

abbrev pub invariant-loop-i : goal.invariant-loop-i
invariant-loop-i l = Failed (marked l.marks) l.exprs l.at l.n l.i
