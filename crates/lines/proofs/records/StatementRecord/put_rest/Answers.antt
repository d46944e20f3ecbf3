use Rattle.std.proofs.Common.{arith}
use Rattle.text.proofs.Appending.{appended_as}
use Rattle.lines.specs.Lines.{stmt_fields}
use Rattle.lines.proofs.Marked.{of_reg}
use Rattle.lines.proofs.records.StatementRecord.put_rest.Goals as goal

pub returns-in-0 : goal.returns-in-0
unfolding stmt_fields
returns-in-0 c = rw c.in-0.is c.put_fields.ensures

pub returns-in_default : goal.returns-in_default
returns-in_default c = appended_as (of_reg _ _ (omega arith) c.reg_marks.ensures) c.put_fields-in_default.ensures
