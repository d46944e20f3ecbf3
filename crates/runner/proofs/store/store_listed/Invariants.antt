use Rattle.runner.proofs.Listing.{StoresFirst}
use Rattle.runner.proofs.store.store_listed.Given as goal

abbrev pub invariant-loop-j : goal.invariant-loop-j
invariant-loop-j l = StoresFirst l.m.signals.now l.m.exprs.now l.m.stmts.now l.values l.order l.from l.fn.bytes l.bytes l.j
