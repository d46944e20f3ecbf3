use Rattle.std.proofs.Common.{refl}
use Rattle.recorder.proofs.Recorder.signal.Goals as goal

pub returns : goal.returns
returns c = c.push_signal.ensures _ refl
