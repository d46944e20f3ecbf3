use Rattle.std.proofs.Common.{arith}
use Rattle.text.proofs.Appending.{appended_as}
use Rattle.lines.specs.Lines.{expr_fields}
use Rattle.lines.proofs.Marked.{of_others}
use Rattle.lines.proofs.records.ExpressionRecord.put_rest.Goals as goal

pub returns-in-0 : goal.returns-in-0
unfolding expr_fields
returns-in-0 c = rw c.in-0.is c.put_fields.ensures

pub returns-in-1 : goal.returns-in-1
unfolding expr_fields
returns-in-1 c = rw c.in-1.is c.put_fields-in-1.ensures

pub returns-in_default : goal.returns-in_default
returns-in_default c = appended_as (of_others _ _ (omega arith)) c.put_fields-in_default.ensures
