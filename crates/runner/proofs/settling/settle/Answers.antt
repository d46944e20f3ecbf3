use Rattle.evaluation.proofs.Settling.{settles_stored}
use Rattle.runner.proofs.Models.{prepared_of}
use Rattle.runner.proofs.settling.settle.Goals as goal

pub returns : goal.returns
returns c = settles_stored (prepared_of c.args.m.now) c.requires.3 c.settle_plain.ensures c.store_assigned.ensures
