-- What `simulate` promises of its call, from what its parts leave.
use Rattle.std.proofs.Common.{[], ◌∷◌, rules}
use Rattle.recorder.specs.Lists.{lists}
use Rattle.simulator.specs.Parts.{lists_in}
use Rattle.simulator.proofs.Parts.{simulates}
use Rattle.simulator.proofs.simulate.Goals as goal

pub returns-clause-simulates : goal.returns-clause-simulates
returns-clause-simulates c =
    let a = c.args in
    let k = c.lower-lowered.auto in
    let r = c.run_lowered-r in
    let w = simulates a.words.now a.heads.now a.bits.now (lists a.signals.now a.exprs.now a.stmts.now) (a.wires.now ∷ a.places.now ∷ a.parts.now ∷ a.values.now ∷ a.banks.now ∷ []) a.bytes.now a.work_bits.now a.work_exprs.now a.work_signals.now a.answers.now a.shown.now
    {l' = lists_in r.new.lists} c.lower-lowered.ensures k.signals k.exprs k.stmts (c.fill.ensures.after (λ _ e. e)) r.ensures.runs in
    search (rules, w)
