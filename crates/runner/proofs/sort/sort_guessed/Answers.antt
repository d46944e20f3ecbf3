use Rattle.runner.proofs.Along.{sorting_step}
use Rattle.runner.proofs.sort.sort_guessed.Goals as goal

pub returns : goal.returns
returns c = sorting_step c.requires.3 c.if-e-m.false c.requires.0 c.sort_one.ensures
