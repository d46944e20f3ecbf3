use Rattle.runner.proofs.Lagging.{late_whole}
use Rattle.runner.proofs.Models.{prepared_of}
use Rattle.runner.proofs.list.tick_either.Goals as goal

pub returns-in-None-clause-ticked : goal.returns-in-None-clause-ticked
returns-in-None-clause-ticked c = late_whole (prepared_of c.args.m.now) c.requires.4 c.tick.ensures.ticked
