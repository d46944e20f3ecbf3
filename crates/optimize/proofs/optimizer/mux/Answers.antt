use Rattle.std.proofs.Common.{ap, sym}
use Rattle.recorder.proofs.Calls.{writes_as}
use Rattle.optimize.specs.Rewrite.{emit_rewrite, mux_of}
use Rattle.optimize.proofs.optimizer.mux.Goals as goal

pub returns : goal.returns
unfolding mux_of
returns c = writes_as (ap emit_rewrite (sym c.simplify.ensures)) c.emit.ensures
