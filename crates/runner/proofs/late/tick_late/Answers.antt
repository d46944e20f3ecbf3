use Rattle.runner.proofs.Lagging.{late_made}
use Rattle.runner.proofs.Models.{prepared_of}
use Rattle.runner.proofs.late.tick_late.Goals as goal

pub set_inputs-requires : goal.set_inputs-requires
set_inputs-requires c = (c.requires.5, c.requires.0.bytes_room)

pub returns-clause-ticked : goal.returns-clause-ticked
returns-clause-ticked c = late_made (prepared_of c.args.m.now) c.requires.2 c.set_inputs.ensures c.load_late.ensures.loaded c.show_late.ensures.shows
