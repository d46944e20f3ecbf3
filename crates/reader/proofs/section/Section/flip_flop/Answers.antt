use Rattle.reader.proofs.PassedLaws.{then_go, then_done}
use Rattle.reader.proofs.section.Section.flip_flop.Goals as goal

pub returns : goal.returns
returns c = then_go _ c.bit.ensures c.in_ok-at.was (λ _. then_go _ c.wire.ensures c.in_ok-at-2.was (λ _. then_go _ c.bit-2.ensures c.in_ok-at-3.was (λ _. then_go _ c.below.ensures c.in_ok-at-4.was (λ _. then_go _ c.optional_control.ensures c.in_ok-at-5.was (λ _. then_done _ c.optional_reset.ensures)))))
