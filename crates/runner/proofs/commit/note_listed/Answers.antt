use Rattle.runner.proofs.Listing.{notes_next, notes_end}
use Rattle.runner.proofs.Models.{stated_of}
use Rattle.runner.proofs.commit.note_listed.Goals as goal

pub loop-j-preserved : goal.loop-j-preserved
loop-j-preserved c = notes_next (stated_of c.args.m.now) c.loop-j.invariant c.requires.3 c.loop-j-test.true c.wide-at.ensures c.note_load.auto.marks c.note_load.ensures

pub returns : goal.returns
returns c = notes_end (stated_of c.args.m.now) c.loop-j.invariant c.requires.3 c.loop-j-test.false
