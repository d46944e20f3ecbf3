use Rattle.reader.proofs.PassedLaws.{then_go, then_stop, then_done}
use Rattle.reader.proofs.section.Section.multiplier.Goals as goal

pub returns-in_err-at : goal.returns-in_err-at
returns-in_err-at c = then_stop _ c.bits.ensures c.in_err-at.was c.from_residual.ensures.1

pub returns-in_err-at-2 : goal.returns-in_err-at-2
returns-in_err-at-2 c = then_go _ c.bits.ensures c.in_ok-at.was (λ _. then_stop _ c.bits-2.ensures c.in_err-at-2.was c.from_residual-in_err-at-2.ensures.1)

pub returns : goal.returns
returns c = then_go _ c.bits.ensures c.in_ok-at.was (λ _. then_go _ c.bits-2.ensures c.in_ok-at-2.was (λ _. then_done _ c.wires.ensures))
