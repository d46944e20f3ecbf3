use Rattle.std.proofs.Common.{arith}
use Rattle.netlist.specs.Fields.{cell_end, cell_size}
use Rattle.converter.proofs.Reserving.{stands_start, stands_step}
use Rattle.converter.proofs.Emitting.{cells_start, cells_step, cells_err, cells_end, same_works}
use Rattle.converter.proofs.cell.emit_cells.Goals as goal

pub loop-owner-init : goal.loop-owner-init
loop-owner-init c = (cells_start c.args.emitter.now c.args.works.now c.args.cells.words.now c.args.cells.at c.args.n, λ limits p. stands_start (cell_end c.args.cells.words.now))

pub returns-in_err-emit_cell-clause-wrote : goal.returns-in_err-emit_cell-clause-wrote
returns-in_err-emit_cell-clause-wrote c = cells_err c.args.emitter.now c.args.works.now c.args.cells.words.now c.args.cells.at c.args.n c.loop-owner.invariant.0 c.loop-owner.invariant.1 c.loop-owner-test.true _ c.in_err-emit_cell.ensures.wrote _ c.from_residual.result c.from_residual.ensures.1

pub returns-in_err-emit_cell-clause-works : goal.returns-in_err-emit_cell-clause-works
returns-in_err-emit_cell-clause-works c = same_works c.loop-owner.invariant.0.lent c.in_err-emit_cell.ensures.works

pub loop-owner-preserved : goal.loop-owner-preserved
loop-owner-preserved c = (
  cells_step c.args.emitter.now c.args.works.now c.args.cells.words.now c.args.cells.at c.args.n c.loop-owner.invariant.0 c.loop-owner.invariant.1 c.loop-owner-test.true c.in_ok-emit_cell.ensures.wrote c.in_ok-emit_cell.ensures.works,
  λ limits p. stands_step cell_size p.2 c.loop-owner-test.true (c.loop-owner.invariant.1 limits p) c.cell_size.ensures c.from-cell.ensures,
)

pub returns-clause-wrote : goal.returns-clause-wrote
returns-clause-wrote c = cells_end c.args.emitter.now c.args.works.now c.args.cells.words.now c.args.cells.at c.args.n c.loop-owner.invariant.0 (omega arith)

pub returns-clause-works : goal.returns-clause-works
returns-clause-works c = c.loop-owner.invariant.0.lent
