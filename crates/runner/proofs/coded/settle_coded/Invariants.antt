use Rattle.coding.proofs.Running.{Running}
use Rattle.runner.proofs.coded.settle_coded.Given as goal

abbrev pub invariant-loop-j : goal.invariant-loop-j
invariant-loop-j l = Running l.m.signals.now l.m.exprs.now l.m.stmts.now l.from l.k l.order l.bytes l.initial.values l.values l.j
