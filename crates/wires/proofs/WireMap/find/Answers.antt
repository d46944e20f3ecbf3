use Rattle.wires.proofs.Laws.{reads_found, reads_missing}
use Rattle.wires.proofs.WireMap.find.Goals as goal

pub returns-in-Some : goal.returns-in-Some
returns-in-Some c = reads_found _ _ c.in-Some.ensures

pub returns-in-None : goal.returns-in-None
returns-in-None c = reads_missing _ _ c.in-None.ensures
