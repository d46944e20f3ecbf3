use Rattle.runner.proofs.Lagging.{shows_late}
use Rattle.runner.proofs.Models.{prepared_of}
use Rattle.runner.proofs.late.show_late.Goals as goal

pub returns-clause-shows : goal.returns-clause-shows
returns-clause-shows c = shows_late (prepared_of c.args.m.now) c.requires.1 c.requires.4 c.settle_coded.ensures c.store_listed.ensures
