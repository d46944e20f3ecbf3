use Rattle.recorder.specs.Lists.{lists}
use Rattle.runner.proofs.WholeList.{runs_list}
use Rattle.runner.proofs.run_list.Goals as goal

pub returns-clause-runs : goal.returns-clause-runs
returns-clause-runs c = let a = c.args in runs_list (lists a.signals.now a.exprs.now a.stmts.now) a.heads.now a.bits.now a.bytes.now a.work_bits.now a.work_exprs.now a.work_signals.now a.answers.now a.shown.now (c.fill.ensures.after (λ _ e. e)) (c.fill-2.ensures.after (λ _ e. e)) c.run_list_with-r.ensures.leaves
