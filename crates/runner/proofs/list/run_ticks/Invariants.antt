use Rattle.recorder.specs.Lists.{lists}
use Rattle.simulation.specs.Index.{widths_in}
use Rattle.model_check.specs.Works.{SameWorks}
use Rattle.evaluation.specs.Ticks.{Filled}
use Rattle.runner.proofs.Lagging.{Along}
use Rattle.runner.proofs.list.run_ticks.Given as goal

abbrev pub invariant-loop-i : goal.invariant-loop-i
invariant-loop-i l = Along (lists l.m.signals.now l.m.exprs.now l.m.stmts.now) l.list.heads.now l.list.bits.now l.initial.bytes l.bytes l.initial.answers l.answers l.initial.shown l.shown l.at l.pos l.to l.i l.late × Filled (widths_in l.m.exprs.now) l.works.bits.now × SameWorks l.initial.works l.works
