use Rattle.std.proofs.Common.{refl}
use Rattle.recorder.proofs.Calls.{writes_then, writes_err}
use Rattle.memories.specs.Steps.{select_one}
use Rattle.memories.proofs.distributed_ram.select_one.Goals as goal

pub returns-in_err-found : goal.returns-in_err-found
unfolding select_one
returns-in_err-found c = (writes_err c.in_err-found.ensures _ _ c.from_residual.result _ refl c.from_residual.ensures.1)

pub returns : goal.returns
unfolding select_one
returns c = (writes_then c.in_ok-found.ensures _ refl c.mux.ensures)
