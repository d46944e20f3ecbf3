use Rattle.evaluation.proofs.Settling.{settles_all}
use Rattle.runner.proofs.Models.{prepared_of}
use Rattle.runner.proofs.settling.settle_plain.Goals as goal

pub returns-then-m-order : goal.returns-then-m-order
returns-then-m-order c = settles_all (prepared_of c.args.m.now) c.requires.3 c.settle_ordered.ensures

pub returns-else-m-order : goal.returns-else-m-order
returns-else-m-order c = settles_all (prepared_of c.args.m.now) c.requires.3 c.settle_marked.ensures
