use Rattle.std.proofs.Common.{arith, sym, ◌∙◌}
use Rattle.fusing.proofs.Filling.{kept_behind, formed_next, formed_all, base_is}
use Rattle.fusing.proofs.Finding.{of_some}
use Rattle.fusing.proofs.fill.Goals as goal

pub loop-e-preserved : goal.loop-e-preserved
loop-e-preserved c = (
  kept_behind c.put.ensures c.args.n (omega arith) c.loop-e.invariant.0,
  λ signals k h. formed_next c.put.ensures (omega arith) k (omega arith) (λ o e. sym e ∙ c.entry-own.ensures) (of_some _ c.form_of-f.result (c.form_of-f.ensures signals k (omega arith) (base_is _ _ _ _ h c.sum_to.ensures c.clip-base.ensures))) (c.loop-e.invariant.1 signals k h),
)

pub returns-clause-formed : goal.returns-clause-formed
returns-clause-formed c = λ signals k h. formed_all (c.loop-e.invariant.1 signals k h) (omega arith) (omega arith)
