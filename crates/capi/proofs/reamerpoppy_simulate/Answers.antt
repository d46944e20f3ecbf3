-- What is handed out is the answer of the whole call, or of a short `answer`.
use Rattle.std.proofs.Common.{[], ◌∷◌}
use Rattle.recorder.specs.Lists.{lists}
use Rattle.capi.proofs.Handing.{simulated_by}
use Rattle.capi.proofs.reamerpoppy_simulate.Goals as goal

pub returns-clause-simulates : goal.returns-clause-simulates
returns-clause-simulates c =
    let a = c.args in
    let w = c.simulate-simulated.new in
    simulated_by a.words.now a.heads.now a.bits.now (lists a.signals.now a.exprs.now a.stmts.now) (a.wires.now ∷ a.places.now ∷ a.parts.now ∷ a.values.now ∷ a.banks.now ∷ []) a.bytes.now a.work_bits.now a.work_exprs.now a.work_signals.now a.answers.now a.shown.now
    a.answer.now c.lowered_for.result
    {l' = lists w.signals w.exprs w.stmts} c.words_for-used.ensures c.simulate-simulated.ensures.simulates c.lowered_for.ensures c.hand_lowered.ensures
