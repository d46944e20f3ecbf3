use Rattle.evaluation.proofs.Committing.{stated}
use Rattle.runner.proofs.Listing.{stores_next}
use Rattle.runner.proofs.Models.{prepared_of}
use Rattle.runner.proofs.store.store_listed.Goals as goal

pub loop-j-preserved : goal.loop-j-preserved
loop-j-preserved c = stores_next c.loop-j.invariant (stated (prepared_of c.args.m.now)) c.wide-s.ensures c.store_driven.auto.bytes c.store_driven.ensures
