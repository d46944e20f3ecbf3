use Rattle.std.proofs.Common.{refl, ap, ◌∙◌, length-set}
use Rattle.lowering.specs.Emit.{reset_bit}
use Rattle.converter.proofs.NextBits.{counting_step, loading_step, loading_end}
use Rattle.converter.proofs.next.reset_bits.Goals as goal

pub loop-cell-preserved : goal.loop-cell-preserved
loop-cell-preserved c =
    (counting_step c.loop-cell.invariant.0 (simp length-set refl) c.in-Some.ensures.steps, loading_step c.loop-cell.invariant.1 c.loop-cell.invariant.0 c.in-Some.ensures.steps (c.reset_bit.ensures ∙ ap reset_bit c.optional_reset.ensures))

pub returns : goal.returns
returns c = loading_end c.loop-cell.invariant.1 c.loop-cell.invariant.0 c.in-None.ensures.steps.0
