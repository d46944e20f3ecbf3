use Rattle.std.proofs.Common.{refl}
use Rattle.converter.proofs.Sequence.{constants_err, cells_refused, banks_refused, outputs_last}
use Rattle.converter.proofs.steps.emit_netlist.Goals as goal

pub returns-in_err-constants : goal.returns-in_err-constants
returns-in_err-constants c = constants_err c.args.works.now c.args.wires.now c.args.places.now c.args.ports c.args.n c.args.banks c.args.shared _ c.in_err-constants.ensures _ c.from_residual.result c.from_residual.ensures.1

pub returns-in_err-emit_shared_cells : goal.returns-in_err-emit_shared_cells
returns-in_err-emit_shared_cells c = cells_refused c.args.works.now c.args.wires.now c.args.places.now c.args.ports c.args.n c.args.banks c.args.shared c.in_ok-constants.ensures refl refl _ c.in_err-emit_shared_cells.ensures.wrote _ c.from_residual-in_err-emit_shared_cells.result c.from_residual-in_err-emit_shared_cells.ensures.1

pub returns-in_err-emit_flip_flop_banks : goal.returns-in_err-emit_flip_flop_banks
returns-in_err-emit_flip_flop_banks c = banks_refused c.args.works.now c.args.wires.now c.args.places.now c.args.ports c.args.n c.args.banks c.args.shared c.in_ok-constants.ensures refl refl c.in_ok-emit_shared_cells.ensures.wrote c.in_ok-emit_shared_cells.ensures.works.parts_size _ c.in_err-emit_flip_flop_banks.ensures _ c.from_residual-in_err-emit_flip_flop_banks.result c.from_residual-in_err-emit_flip_flop_banks.ensures.1

pub returns : goal.returns
returns c = outputs_last c.args.works.now c.args.wires.now c.args.places.now c.args.ports c.args.n c.args.banks c.args.shared c.in_ok-constants.ensures refl refl c.in_ok-emit_shared_cells.ensures.wrote c.in_ok-emit_shared_cells.ensures.works.parts_size c.in_ok-emit_flip_flop_banks.ensures _ c.emit_flip_flop_banks.auto.parts c.emit_outputs.ensures
