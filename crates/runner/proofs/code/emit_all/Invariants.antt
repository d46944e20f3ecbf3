use Rattle.coding.proofs.Emitting.{EmittingAll}
use Rattle.runner.proofs.code.emit_all.Given as goal

abbrev pub invariant-loop-i : goal.invariant-loop-i
invariant-loop-i l = EmittingAll l.m.signals.now l.m.exprs.now l.m.stmts.now l.m.expr_count l.from l.initial.order l.initial.values l.initial.marks l.order l.values l.marks l.k l.i
