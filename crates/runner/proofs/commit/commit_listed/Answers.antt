use Rattle.evaluation.proofs.Committing.{stated}
use Rattle.runner.proofs.Listing.{loads_listed_by}
use Rattle.runner.proofs.Models.{prepared_of}
use Rattle.runner.proofs.commit.commit_listed.Goals as goal

pub note_listed-requires : goal.note_listed-requires
note_listed-requires c = (c.requires.0.bytes_room, c.requires.1, c.requires.2, c.requires.3)

pub returns : goal.returns
returns c = loads_listed_by (stated (prepared_of c.args.m.now)) c.note_listed.ensures c.load_listed.ensures
