use Rattle.runner.proofs.Planning.{DriversSoFar}
use Rattle.runner.proofs.code.drivers_marked.Given as goal

abbrev pub invariant-loop-j : goal.invariant-loop-j
invariant-loop-j l = DriversSoFar l.m.stmts.now l.order l.from l.marks l.j
