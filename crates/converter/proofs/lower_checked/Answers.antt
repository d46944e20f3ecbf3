use Rattle.converter.proofs.Whole.{attempt_refused, attempt_done}
use Rattle.converter.proofs.lower_checked.Goals as goal

pub returns-in_err-layout-clause-wrote : goal.returns-in_err-layout-clause-wrote
returns-in_err-layout-clause-wrote c = attempt_refused _ _ _ c.args.buffers.now _ c.in_err-layout.ensures c.from_residual.result c.from_residual.ensures.1

pub returns-clause-wrote : goal.returns-clause-wrote
returns-clause-wrote c = attempt_done c.args.limits _ _ c.args.buffers.now c.in_ok-layout.ensures.0 c.in_ok-layout.ensures.1 c.record_netlist-r.ensures c.answered.ensures
