use Rattle.std.proofs.Common.{refl}
use Rattle.recorder.proofs.Calls.{writes_then, writes_err}
use Rattle.address_mux.specs.Address.{match_address}
use Rattle.address_mux.proofs.address.match_address.Goals as goal

pub returns-in_err-k : goal.returns-in_err-k
unfolding match_address
returns-in_err-k c = writes_err c.in_err-k.ensures _ _ c.from_residual.result _ refl c.from_residual.ensures.1

pub returns : goal.returns
unfolding match_address
returns c = writes_then c.in_ok-k.ensures _ refl c.equal.ensures
