use Rattle.std.proofs.Common.{ap, not}
use Rattle.evaluation.proofs.Settling.{passes_end}
use Rattle.runner.proofs.Models.{prepared_of}
use Rattle.runner.proofs.settling.settle_marked.Goals as goal

pub returns : goal.returns
returns c = passes_end (prepared_of c.args.m.now) c.requires.2 c.settle_pass.ensures (ap not c.loop-test.false)
