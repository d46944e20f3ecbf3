use Rattle.simulation.proofs.Tally.{tallying_some}
use Rattle.model_check.proofs.check.tally.Goals as goal

pub loop-fields-preserved-in-Some-target : goal.loop-fields-preserved-in-Some-target
loop-fields-preserved-in-Some-target c = tallying_some c.loop-fields.invariant c.in-Some.ensures.steps c.in-Some-target.ensures c.bump.ensures
