use Rattle.reader.proofs.PassedLaws.{with_second, then_go, then_stop, then_done}
use Rattle.reader.proofs.section.Section.second_port.Goals as goal

pub returns-in_err-at-7 : goal.returns-in_err-at-7
returns-in_err-at-7 c = with_second c.args.self.now.limits c.args.self.now.words.now c.args.self.now.end c.args.flag c.args.width c.if-flag-eq0.false (then_go _ c.bits.ensures c.in_ok-at.was (λ _. then_go _ c.control.ensures c.in_ok-at-2.was (λ _. then_go _ c.optional_control.ensures c.in_ok-at-3.was (λ _. then_go _ c.optional_control-2.ensures c.in_ok-at-4.was (λ _. then_go _ c.bit.ensures c.in_ok-at-5.was (λ _. then_go _ c.below.ensures c.in_ok-at-6.was (λ _. then_stop _ c.bits-2.ensures c.in_err-at-7.was c.from_residual-in_err-at-7.ensures.1)))))))

pub returns : goal.returns
returns c = with_second c.args.self.now.limits c.args.self.now.words.now c.args.self.now.end c.args.flag c.args.width c.if-flag-eq0.false (then_go _ c.bits.ensures c.in_ok-at.was (λ _. then_go _ c.control.ensures c.in_ok-at-2.was (λ _. then_go _ c.optional_control.ensures c.in_ok-at-3.was (λ _. then_go _ c.optional_control-2.ensures c.in_ok-at-4.was (λ _. then_go _ c.bit.ensures c.in_ok-at-5.was (λ _. then_go _ c.below.ensures c.in_ok-at-6.was (λ _. then_go _ c.bits-2.ensures c.in_ok-at-7.was (λ _. then_done _ c.wires.ensures))))))))
