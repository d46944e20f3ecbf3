use Rattle.runner.proofs.Listing.{ListsControls}
use Rattle.runner.proofs.lists.list_controls.Given as goal

abbrev pub invariant-loop-j : goal.invariant-loop-j
invariant-loop-j l = ListsControls l.m.stmts.now l.fn.order l.loads l.from l.room l.initial.marks l.order l.marks l.k l.j
