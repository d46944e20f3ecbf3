use Rattle.simulation.specs.Run.{fired_of}
use Rattle.runner.proofs.Lagging.{late_handed}
use Rattle.runner.proofs.Ticking.{handed_causes, good_ticks}
use Rattle.runner.proofs.list.run_tick.Goals as goal

pub tick_either-requires : goal.tick_either-requires
tick_either-requires c = (c.requires.0, c.requires.1, c.requires.2, c.requires.3, c.requires.4, c.requires.5, c.requires.6, good_ticks c.args.m.now.signals.now c.args.ticks.now (fired_of c.args.fired) c.args.m.now.signal_count c.args.inputs c.requires.7 (handed_causes c.args.inputs c.args.asked c.args.ticks.now c.args.m.now.signal_count (fired_of c.args.fired) c.in_ok-head_fault.ensures), c.requires.8)

pub returns-clause-runs : goal.returns-clause-runs
returns-clause-runs c = late_handed c.args.inputs c.args.asked c.args.m.now.signal_count c.in_ok-head_fault.ensures c.tick_either.ensures.ticked
