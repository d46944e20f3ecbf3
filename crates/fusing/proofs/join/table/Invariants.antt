use Rattle.fusing.specs.Join.{Tabled, row_bit}
use Rattle.fusing.proofs.join.table.Given as goal

abbrev pub invariant-loop-i : goal.invariant-loop-i
invariant-loop-i l = Tabled (row_bit l.kind l.s l.p l.q l.r) l.t l.i
