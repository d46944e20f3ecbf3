use Rattle.recorder.specs.Records.{left}
use Rattle.runner.proofs.Listing.{ListsOutputs}
use Rattle.runner.proofs.lists.list_outputs.Given as goal

abbrev pub invariant-loop-s : goal.invariant-loop-s
invariant-loop-s l = ListsOutputs l.m.signals.now l.fn.order l.from l.room l.order l.k l.s-iterator.count (left l.s-iterator.iter)
