use Rattle.std.proofs.Common.{refl}
use Rattle.recorder.proofs.Room.{pushed_expr}
use Rattle.recorder.proofs.Recorder.push_expr.Goals as goal

pub returns-in_default : goal.returns-in_default
returns-in_default c = pushed_expr c.in_default.ensures refl

pub returns : goal.returns
returns c = pushed_expr c.in-Some.ensures refl
