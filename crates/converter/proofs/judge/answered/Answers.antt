use Rattle.converter.proofs.Judged.{answered_done}
use Rattle.converter.proofs.judge.answered.Goals as goal

pub returns-in-Ok : goal.returns-in-Ok
returns-in-Ok c = answered_done _ _ c.overdriven.result c.in-Ok.is c.overdriven.ensures.found c.overdriven.ensures.left c.judged.ensures
