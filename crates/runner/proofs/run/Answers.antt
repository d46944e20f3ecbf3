use Rattle.std.proofs.Common.{rules}
use Rattle.recorder.specs.Lists.{lists}
use Rattle.simulation.specs.Run.{fired_of}
use Rattle.simulation.specs.Fault.{call_of}
use Rattle.runner.proofs.Call.{runs, zeroed_same}
use Rattle.runner.proofs.run.Goals as goal

pub returns : goal.returns
returns c = let a = c.args in let k = c.run_with-r.ensures.same in let w = runs (call_of (lists a.signals.now a.exprs.now a.stmts.now) a.bytes.now a.ticks.now (fired_of a.fired) a.work_bits.now a.work_exprs.now a.work_signals.now) c.run_with-r.ensures.answers (zeroed_same _ a.work_bits.now k.bits_long (c.fill.ensures.after (λ _ e. e))) (zeroed_same _ a.work_exprs.now k.exprs_long (c.fill-2.ensures.after (λ _ e. e))) (zeroed_same _ a.work_signals.now k.signals_long (c.fill-3.ensures.after (λ _ e. e))) in search (rules, w)
