use Rattle.evaluation.proofs.Storing.{Storing}
use Rattle.runner.proofs.store.store_assigned.Given as goal

abbrev pub invariant-loop-s : goal.invariant-loop-s
invariant-loop-s l = Storing l.m.signals.now l.m.exprs.now l.m.stmts.now l.values l.fn.bytes l.bytes l.s
