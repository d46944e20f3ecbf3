use Rattle.std.proofs.Common.{rules, tests}
use Rattle.lines.specs.Lines.{owner_mark}
use Rattle.lines.proofs.records.owner_mark.Goals as goal

pub returns-then-label-lt2 : goal.returns-then-label-lt2
unfolding owner_mark
returns-then-label-lt2 c = search (rules, tests)

pub returns-then-label-eq7 : goal.returns-then-label-eq7
unfolding owner_mark
returns-then-label-eq7 c = search (rules, tests)

pub returns-else-label-eq7 : goal.returns-else-label-eq7
unfolding owner_mark
returns-else-label-eq7 c = search (rules, tests)
