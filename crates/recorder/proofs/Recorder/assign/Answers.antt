use Rattle.std.proofs.Common.{refl}
use Rattle.recorder.proofs.Recorder.assign.Goals as goal

pub returns : goal.returns
returns c = c.push_stmt.ensures _ refl
