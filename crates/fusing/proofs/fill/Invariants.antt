use Rattle.std.proofs.Common.{List, ℕ, ◌≡◌, ◌*◌, length}
use Rattle.simulation.specs.Index.{records_in}
use Rattle.fusing.specs.Form.{Formed}
use Rattle.fusing.specs.Finding.{Known, Behind}
use Rattle.fusing.proofs.fill.Given as goal

abbrev pub invariant-loop-e : goal.invariant-loop-e
invariant-loop-e l = Behind (6 * l.n) l.initial.forms l.forms × ((signals : List ℕ) → Known signals l.m.exprs.now l.m.stmts.now l.m.starts.now l.m.expr_table.now l.m.signal_table.now l.m.driver_table.now → l.n ≡ length (records_in l.m.exprs.now) → Formed signals l.m.exprs.now l.m.stmts.now l.forms l.e)
