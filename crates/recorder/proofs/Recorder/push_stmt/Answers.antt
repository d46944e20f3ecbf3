use Rattle.std.proofs.Common.{refl}
use Rattle.recorder.proofs.Room.{pushed_stmt, puts_nil}
use Rattle.recorder.proofs.Recorder.push_stmt.Goals as goal

pub returns-in_default : goal.returns-in_default
returns-in_default c = pushed_stmt (puts_nil c.args.fields.now c.in_default.ensures) refl

pub returns : goal.returns
returns c = pushed_stmt (puts_nil c.args.fields.now c.in-Some.ensures) refl
