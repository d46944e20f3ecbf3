use Rattle.std.proofs.Common.{arith, length}
use Rattle.recorder.proofs.Calls.{writes_as, writes_refuse}
use Rattle.address_mux.proofs.Levels.{both_first, both_second}
use Rattle.nodes.proofs.Copied.{mux_copied}
use Rattle.nodes.proofs.balanced_address_mux_of_nodes.Goals.{then-works-n-via-then-works-n, then-works-n-via-else-works-n+then-works-n-2}
use Rattle.nodes.proofs.balanced_address_mux_of_nodes.Goals as goal

pub returns-then-works-n-clause-wrote : goal.returns-then-works-n-clause-wrote
returns-then-works-n-clause-wrote c = elim c.then-works-n.branch [
  | then-works-n-via-then-works-n w ↦ writes_as (both_first (length c.args.nodes.now) c.args.works.now.parts.now c.args.works.now.values.now _ (omega (arith, w.if-works-n))) writes_refuse
  | then-works-n-via-else-works-n+then-works-n-2 w ↦ writes_as (both_second (length c.args.nodes.now) c.args.works.now.parts.now c.args.works.now.values.now _ (omega (arith, w.if-works-n)) (omega (arith, w.if-works-n-2))) writes_refuse
]

pub returns-clause-wrote : goal.returns-clause-wrote
returns-clause-wrote c =
    writes_as (mux_copied c.args.nodes.now c.args.works.now c.copy_nodes.new.works c.args.width c.args.zero.0 (omega (arith, c.if-works-n.false)) (omega (arith, c.if-works-n-2.false)) c.copy_nodes.ensures.works c.copy_nodes.ensures.nodes) c.balanced_address_mux.ensures.wrote
