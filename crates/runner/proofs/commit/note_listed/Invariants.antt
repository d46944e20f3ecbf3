use Rattle.simulation.specs.Run.{fired_of, firing}
use Rattle.runner.proofs.Listing.{NotesListed}
use Rattle.runner.proofs.commit.note_listed.Given as goal

abbrev pub invariant-loop-j : goal.invariant-loop-j
invariant-loop-j l = NotesListed l.m.signals.now l.m.stmts.now (firing (fired_of l.fired)) l.bytes l.order l.from l.fn.marks l.marks l.j
