use Rattle.evaluation.proofs.Committing.{committed}
use Rattle.runner.proofs.Models.{prepared_of}
use Rattle.runner.proofs.commit.commit.Goals as goal

pub note_loads-requires : goal.note_loads-requires
note_loads-requires c = (c.requires.0.bytes_room, c.requires.1)

pub returns : goal.returns
returns c = committed (prepared_of c.args.m.now) c.note_loads.ensures c.store_loads.ensures
