use Rattle.std.proofs.Common.{ap, sym}
use Rattle.recorder.proofs.Calls.{writes_as}
use Rattle.optimize.specs.Rewrite.{emit_rewrite, xor_of}
use Rattle.optimize.proofs.optimizer.xor.Goals as goal

pub returns : goal.returns
unfolding xor_of
returns c = writes_as (ap emit_rewrite (sym c.simplify_xor.ensures)) c.emit.ensures
