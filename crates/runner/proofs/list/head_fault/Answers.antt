use Rattle.simulation.specs.Run.{fired_of}
use Rattle.runner.proofs.Ticking.{few_refused}
use Rattle.runner.proofs.list.head_fault.Goals as goal

pub returns-then-ticks-asked : goal.returns-then-ticks-asked
returns-then-ticks-asked c = few_refused c.args.inputs c.args.asked c.args.ticks.now c.args.count (fired_of c.args.fired) c.if-ticks-asked.true
