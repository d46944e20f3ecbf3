use Rattle.std.proofs.Common.{arith}
use Rattle.reader.proofs.PassedLaws.{handed, then_stop, gone_more, gone_stop}
use Rattle.reader.proofs.section.Section.ports.Goals as goal

pub returns-in_err-at : goal.returns-in_err-at
returns-in_err-at c =
    let h = c.from_residual.ensures.1 in
    then_stop _ (gone_stop _ _ _ _ c.args.count _ _ c.loop.invariant (omega arith) c.port.ensures c.in_err-at.was h) (handed _ h) h

pub loop-preserved : goal.loop-preserved
loop-preserved c = gone_more _ _ _ _ _ _ c.loop.invariant c.port.ensures c.in_ok-at.was
