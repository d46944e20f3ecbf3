use Rattle.ordering.specs.Marks.{marked}
use Rattle.ordering.proofs.Scans.{Passed}
use Rattle.runner.proofs.marks.all_marked.Given as goal

abbrev pub invariant-loop-i : goal.invariant-loop-i
invariant-loop-i l = Passed (marked l.marks) l.exprs l.at l.n l.i
