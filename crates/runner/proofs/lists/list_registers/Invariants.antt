use Rattle.recorder.specs.Records.{left}
use Rattle.runner.proofs.Listing.{ListsRegisters}
use Rattle.runner.proofs.lists.list_registers.Given as goal

abbrev pub invariant-loop-fields : goal.invariant-loop-fields
invariant-loop-fields l = ListsRegisters l.m.stmts.now l.fn.order l.from l.room l.order l.k l.at (left l.fields-iterator)
