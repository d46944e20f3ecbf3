use Rattle.runner.proofs.Listing.{LoadsFirst}
use Rattle.runner.proofs.commit.load_listed.Given as goal

abbrev pub invariant-loop-j : goal.invariant-loop-j
invariant-loop-j l = LoadsFirst l.m.signals.now l.m.exprs.now l.m.stmts.now l.values l.marks l.order l.from l.fn.bytes l.bytes l.j
