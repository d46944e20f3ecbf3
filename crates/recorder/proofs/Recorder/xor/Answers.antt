use Rattle.std.proofs.Common.{refl}
use Rattle.recorder.proofs.Recorder.xor.Goals as goal

pub returns : goal.returns
returns c = c.push_fixed.ensures _ refl
