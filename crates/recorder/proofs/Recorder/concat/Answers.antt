use Rattle.std.proofs.Common.{refl}
use Rattle.recorder.proofs.Recorder.concat.Goals as goal

pub returns : goal.returns
returns c = c.push_expr.ensures _ refl
