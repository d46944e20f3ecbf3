-- What is handed out is the answer of the tick, or of a short `answer`.
use Rattle.std.proofs.Common.{length, ltb, ap, ◌∙◌}
use Rattle.std.specs.Prelude.{Some}
use Rattle.bits.specs.Bits.{pick}
use Rattle.recorder.specs.Lists.{lists}
use Rattle.runner.specs.Calls.{fired_by}
use Rattle.capi.proofs.Handing.{ran_by}
use Rattle.capi.proofs.reamerpoppy_run.Goals as goal

pub returns : goal.returns
returns c =
    let a = c.args in
    ran_by (lists a.signals.now a.exprs.now a.stmts.now) a.bytes.now a.ticks.now a.work_bits.now a.work_exprs.now a.work_signals.now (fired_by a.fires a.signal) a.answer.now
    (c.fired_for-fired.ensures ∙ ap (pick (ltb (length a.answer.now) 8) (Some (0, 2))) c.fired_by.ensures) c.run-ran.ensures c.ran_for.ensures c.hand_ran.ensures
