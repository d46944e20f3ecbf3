use Rattle.std.proofs.Common.{refl, length-set}
use Rattle.converter.proofs.NextBits.{counting_step, nexting_step, nexting_err, nexting_end}
use Rattle.converter.proofs.next.next_value.Goals as goal

pub returns-in_err-parts : goal.returns-in_err-parts
returns-in_err-parts c = nexting_err c.loop-cell.invariant.1 c.loop-cell.invariant.0 c.in-Some.ensures.steps _ c.from_residual.result _ c.from_residual.ensures.1 c.in_err-parts.ensures

pub loop-cell-preserved : goal.loop-cell-preserved
loop-cell-preserved c = (counting_step c.loop-cell.invariant.0 (simp length-set refl) c.in-Some.ensures.steps, nexting_step c.loop-cell.invariant.1 c.loop-cell.invariant.0 c.in-Some.ensures.steps c.in_ok-parts.ensures)

pub returns : goal.returns
returns c = nexting_end c.loop-cell.invariant.1 c.loop-cell.invariant.0 c.in-None.ensures.steps.0 c.concat_parts.ensures
