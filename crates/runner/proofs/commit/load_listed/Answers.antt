use Rattle.evaluation.proofs.Committing.{stated}
use Rattle.runner.proofs.Listing.{loads_next, loads_end}
use Rattle.runner.proofs.Models.{prepared_of}
use Rattle.runner.proofs.commit.load_listed.Goals as goal

pub loop-j-preserved : goal.loop-j-preserved
loop-j-preserved c = loads_next (stated (prepared_of c.args.m.now)) c.loop-j.invariant c.requires.3 c.loop-j-test.true c.wide-at.ensures c.store_load.auto.bytes c.store_load.ensures

pub returns : goal.returns
returns c = loads_end (stated (prepared_of c.args.m.now)) c.loop-j.invariant c.requires.3 c.loop-j-test.false
