use Rattle.std.proofs.Common.{length}
use Rattle.recorder.proofs.Left.{records_count}
use Rattle.simulation.proofs.Calls.{total_is}
use Rattle.model_check.proofs.call.width_total.Goals as goal

pub returns : goal.returns
returns c = total_is c.args.list.now (length c.args.list.now) _ (records_count c.args.list.now) c.sum_to.ensures
