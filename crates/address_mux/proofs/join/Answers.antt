use Rattle.std.proofs.Common.{refl}
use Rattle.recorder.proofs.Calls.{writes_then, writes_err, writes_pure}
use Rattle.address_mux.specs.Candidates.{join_nodes}
use Rattle.address_mux.proofs.join.Goals as goal

pub returns-in_err-matched : goal.returns-in_err-matched
unfolding join_nodes
returns-in_err-matched c = writes_err c.in_err-matched.ensures _ _ c.from_residual.result _ refl c.from_residual.ensures.1

pub returns-in_err-value : goal.returns-in_err-value
unfolding join_nodes
returns-in_err-value c = writes_then c.in_ok-matched.ensures _ refl (writes_err c.in_err-value.ensures _ _ c.from_residual-in_err-value.result _ refl c.from_residual-in_err-value.ensures.1)

pub returns : goal.returns
unfolding join_nodes
returns c = writes_then c.in_ok-matched.ensures _ refl (writes_then c.in_ok-value.ensures _ refl writes_pure)
