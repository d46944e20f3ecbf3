use Rattle.ordering.proofs.Touching.{on_loop_by}
use Rattle.runner.proofs.Models.{faultless_of}
use Rattle.runner.proofs.loops.on_loop.Goals as goal

pub returns : goal.returns
returns c = on_loop_by (faultless_of c.args.m.now).widest (faultless_of c.args.m.now).sound c.mark_leading.ensures c.driver_marked.ensures
