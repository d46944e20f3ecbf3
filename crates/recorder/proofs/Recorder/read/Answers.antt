use Rattle.std.proofs.Common.{refl}
use Rattle.recorder.proofs.Recorder.read.Goals as goal

pub returns : goal.returns
returns c = c.push_fixed.ensures _ refl
