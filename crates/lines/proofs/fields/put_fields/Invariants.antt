-- The fields from i on are left to put.
use Rattle.std.proofs.Common.{drop}
use Rattle.text.proofs.Going.{Going}
use Rattle.lines.specs.Lines.{fields_text}
use Rattle.lines.proofs.fields.put_fields.Given as goal

abbrev pub invariant-loop-i : goal.invariant-loop-i
invariant-loop-i l = Going l.fn.text (fields_text l.marks l.fn.last l.fields) l.text (fields_text (drop l.i l.marks) l.fn.last (drop l.i l.fields))
