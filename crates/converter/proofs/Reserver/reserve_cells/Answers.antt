use Rattle.std.proofs.Common.{arith, subst, sym}
use Rattle.netlist.specs.Fields.{cell_at, cell_end, cell_size}
use Rattle.netlist.specs.Shape.{FitsCell}
use Rattle.converter.proofs.Reserving.{loop_step, loop_err, loop_end, stands_start, stands_is, stands_step}
use Rattle.converter.proofs.Rows.{cells_start}
use Rattle.converter.proofs.Reserver.reserve_cells.Goals as goal

pub loop-owner-init : goal.loop-owner-init
loop-owner-init c = (cells_start c.args.cells.words.now c.args.cells.at c.args.n c.args.self.now, λ limits p. stands_start (cell_end c.args.cells.words.now))

pub returns-in_err-reserve_cell_output : goal.returns-in_err-reserve_cell_output
returns-in_err-reserve_cell_output c =
    loop_err c.loop-owner.invariant.0 c.loop-owner-test.true (λ limits p. stands_is cell_at (c.loop-owner.invariant.1 limits p))
    (λ limits room p. subst (FitsCell limits) (sym (stands_is cell_at (c.loop-owner.invariant.1 limits p))) (p.fit c.loop-owner.owner c.loop-owner-test.true))
    c.in_err-reserve_cell_output.ensures c.from_residual.result c.from_residual.ensures.1

pub loop-owner-preserved : goal.loop-owner-preserved
loop-owner-preserved c = (
  loop_step c.loop-owner.invariant.0 c.loop-owner-test.true (λ limits p. stands_is cell_at (c.loop-owner.invariant.1 limits p))
      (λ limits room p. subst (FitsCell limits) (sym (stands_is cell_at (c.loop-owner.invariant.1 limits p))) (p.fit c.loop-owner.owner c.loop-owner-test.true))
      c.in_ok-reserve_cell_output.ensures,
  λ limits p. stands_step cell_size p c.loop-owner-test.true (c.loop-owner.invariant.1 limits p) c.cell_size.ensures c.from-cell.ensures,
)

pub returns : goal.returns
returns c = loop_end c.loop-owner.invariant.0 (omega arith)
