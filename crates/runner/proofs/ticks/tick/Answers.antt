use Rattle.runner.proofs.Tick.{made, values_fill}
use Rattle.runner.proofs.ticks.tick.Goals as goal

pub set_inputs-requires : goal.set_inputs-requires
set_inputs-requires c = (c.requires.6, c.requires.0.bytes_room)

pub returns-clause-ticked : goal.returns-clause-ticked
returns-clause-ticked c = made c.set_inputs.ensures c.settle.ensures c.commit.ensures c.settle-2.ensures

pub returns-clause-filled : goal.returns-clause-filled
returns-clause-filled c = values_fill c.set_inputs.ensures c.settle.ensures c.commit.ensures c.settle-2.ensures c.requires.7
