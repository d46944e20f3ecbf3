use Rattle.std.proofs.Common.{refl}
use Rattle.converter.proofs.Sequence.{reserve_refused, emit_refused, recorded_all}
use Rattle.converter.proofs.record.record_parts.Goals as goal

pub returns-in_err-reserve_netlist-clause-wrote : goal.returns-in_err-reserve_netlist-clause-wrote
returns-in_err-reserve_netlist-clause-wrote c = reserve_refused _ c.args.wires.now c.args.places.now c.args.works.now c.args.ports c.args.n c.args.banks c.args.shared _ c.in_err-reserve_netlist.ensures c.from_residual.result c.from_residual.ensures.1

pub returns-in_err-emit_netlist-clause-wrote : goal.returns-in_err-emit_netlist-clause-wrote
returns-in_err-emit_netlist-clause-wrote c =
    emit_refused _ c.args.wires.now c.args.places.now c.args.works.now c.args.ports c.args.n c.args.banks c.args.shared c.in_ok-reserve_netlist.ensures _ c.in_err-emit_netlist.ensures c.from_residual-in_err-emit_netlist.result c.from_residual-in_err-emit_netlist.ensures.1

pub returns-clause-wrote : goal.returns-clause-wrote
returns-clause-wrote c = recorded_all _ c.args.wires.now c.args.places.now c.args.works.now c.args.ports c.args.n c.args.banks c.args.shared c.in_ok-reserve_netlist.ensures c.in_ok-emit_netlist.ensures refl
