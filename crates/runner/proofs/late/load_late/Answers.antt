use Rattle.runner.proofs.Lagging.{loads_late}
use Rattle.runner.proofs.Models.{prepared_of}
use Rattle.runner.proofs.late.load_late.Goals as goal

pub returns-clause-loaded : goal.returns-clause-loaded
returns-clause-loaded c = loads_late (prepared_of c.args.m.now) c.requires.2 c.requires.5 c.settle_coded.ensures c.store_listed.ensures c.commit_listed.ensures
