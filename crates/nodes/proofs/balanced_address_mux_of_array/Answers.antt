use Rattle.std.proofs.Common.{arith}
use Rattle.recorder.proofs.Calls.{writes_as, writes_refuse}
use Rattle.address_mux.proofs.Addresses.{at_most_yes, at_most_no}
use Rattle.nodes.proofs.balanced_address_mux_of_array.Goals as goal

pub returns-then-n-clause-wrote : goal.returns-then-n-clause-wrote
returns-then-n-clause-wrote g c = writes_as (at_most_no g.row.N c.args.n _ c.if-n.true) writes_refuse

pub returns-clause-wrote : goal.returns-clause-wrote
returns-clause-wrote g c = writes_as (at_most_yes g.row.N c.args.n _ (omega (arith, c.if-n.false))) c.balanced_address_mux_of_nodes.ensures.wrote
