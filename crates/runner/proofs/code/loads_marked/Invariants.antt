use Rattle.runner.proofs.Planning.{LoadsSoFar}
use Rattle.runner.proofs.code.loads_marked.Given as goal

abbrev pub invariant-loop-j : goal.invariant-loop-j
invariant-loop-j l = LoadsSoFar l.m.stmts.now l.order l.from l.marks l.j
