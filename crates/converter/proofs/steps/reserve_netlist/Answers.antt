use Rattle.std.proofs.Common.{rules}
use Rattle.converter.proofs.Sequence.{reserved, ports_err, cells_err, banks_last}
use Rattle.converter.proofs.steps.reserve_netlist.Goals as goal

pub returns-in_err-reserve_ports : goal.returns-in_err-reserve_ports
returns-in_err-reserve_ports c = let w = reserved _ c.args.ports c.args.n c.args.banks (ports_err _ _ _ _ _ c.in_err-reserve_ports.ensures c.from_residual.result c.from_residual.ensures.1) in search (rules, w)

pub returns-in_err-reserve_cells : goal.returns-in_err-reserve_cells
returns-in_err-reserve_cells c =
    let w = reserved _ c.args.ports c.args.n c.args.banks (cells_err _ _ _ _ c.in_ok-reserve_ports.ensures _ c.in_err-reserve_cells.ensures c.from_residual-in_err-reserve_cells.result c.from_residual-in_err-reserve_cells.ensures.1) in
    search (rules, w)

pub returns : goal.returns
returns c = let w = reserved _ c.args.ports c.args.n c.args.banks (banks_last _ _ _ _ c.in_ok-reserve_ports.ensures c.in_ok-reserve_cells.ensures c.reserve_flip_flop_banks.ensures) in search (rules, w)
