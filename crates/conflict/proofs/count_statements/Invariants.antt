use Rattle.std.proofs.Common.{◌≡◌}
use Rattle.recorder.specs.Read.{split}
use Rattle.recorder.specs.Records.{left}
use Rattle.conflict.specs.Counting.{tally}
use Rattle.conflict.proofs.count_statements.Given as goal

abbrev pub invariant-loop-fields : goal.invariant-loop-fields
invariant-loop-fields l = tally l.signals (left l.fields-iterator) ≡ tally l.initial.signals (split l.stmts).records
