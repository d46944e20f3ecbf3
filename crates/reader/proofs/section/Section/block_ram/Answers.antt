use Rattle.reader.proofs.PassedLaws.{then_go, then_stop, then_word, then_done}
use Rattle.reader.proofs.section.Section.block_ram.Goals as goal

pub returns-in_err-at-5 : goal.returns-in_err-at-5
returns-in_err-at-5 c = then_word c.args.self.now.limits c.args.self.now.words.now c.args.self.now.end _ _ c.within.ensures c.in_ok-at.was c.word-depth.ensures (then_word c.args.self.now.limits c.args.self.now.words.now c.args.self.now.end _ _ c.within-2.ensures c.in_ok-at-2.was c.word-width.ensures (then_go _ c.physical.ensures c.in_ok-at-3.was (λ _. then_go _ c.bits.ensures c.in_ok-at-4.was (λ _. then_stop _ c.control.ensures c.in_err-at-5.was c.from_residual-in_err-at-5.ensures.1))))

pub returns-in_err-at-6 : goal.returns-in_err-at-6
returns-in_err-at-6 c = then_word c.args.self.now.limits c.args.self.now.words.now c.args.self.now.end _ _ c.within.ensures c.in_ok-at.was c.word-depth.ensures (then_word c.args.self.now.limits c.args.self.now.words.now c.args.self.now.end _ _ c.within-2.ensures c.in_ok-at-2.was c.word-width.ensures (then_go _ c.physical.ensures c.in_ok-at-3.was (λ _. then_go _ c.bits.ensures c.in_ok-at-4.was (λ _. then_go _ c.control.ensures c.in_ok-at-5.was (λ _. then_stop _ c.bits-2.ensures c.in_err-at-6.was c.from_residual-in_err-at-6.ensures.1)))))

pub returns-in_err-at-7 : goal.returns-in_err-at-7
returns-in_err-at-7 c = then_word c.args.self.now.limits c.args.self.now.words.now c.args.self.now.end _ _ c.within.ensures c.in_ok-at.was c.word-depth.ensures (then_word c.args.self.now.limits c.args.self.now.words.now c.args.self.now.end _ _ c.within-2.ensures c.in_ok-at-2.was c.word-width.ensures (then_go _ c.physical.ensures c.in_ok-at-3.was (λ _. then_go _ c.bits.ensures c.in_ok-at-4.was (λ _. then_go _ c.control.ensures c.in_ok-at-5.was (λ _. then_go _ c.bits-2.ensures c.in_ok-at-6.was (λ _. then_stop _ c.optional_control.ensures c.in_err-at-7.was c.from_residual-in_err-at-7.ensures.1))))))

pub returns-in_err-at-8 : goal.returns-in_err-at-8
returns-in_err-at-8 c = then_word c.args.self.now.limits c.args.self.now.words.now c.args.self.now.end _ _ c.within.ensures c.in_ok-at.was c.word-depth.ensures (then_word c.args.self.now.limits c.args.self.now.words.now c.args.self.now.end _ _ c.within-2.ensures c.in_ok-at-2.was c.word-width.ensures (then_go _ c.physical.ensures c.in_ok-at-3.was (λ _. then_go _ c.bits.ensures c.in_ok-at-4.was (λ _. then_go _ c.control.ensures c.in_ok-at-5.was (λ _. then_go _ c.bits-2.ensures c.in_ok-at-6.was (λ _. then_go _ c.optional_control.ensures c.in_ok-at-7.was (λ _. then_stop _ c.optional_control-2.ensures c.in_err-at-8.was c.from_residual-in_err-at-8.ensures.1)))))))

pub returns-in_err-at-9 : goal.returns-in_err-at-9
returns-in_err-at-9 c = then_word c.args.self.now.limits c.args.self.now.words.now c.args.self.now.end _ _ c.within.ensures c.in_ok-at.was c.word-depth.ensures (then_word c.args.self.now.limits c.args.self.now.words.now c.args.self.now.end _ _ c.within-2.ensures c.in_ok-at-2.was c.word-width.ensures (then_go _ c.physical.ensures c.in_ok-at-3.was (λ _. then_go _ c.bits.ensures c.in_ok-at-4.was (λ _. then_go _ c.control.ensures c.in_ok-at-5.was (λ _. then_go _ c.bits-2.ensures c.in_ok-at-6.was (λ _. then_go _ c.optional_control.ensures c.in_ok-at-7.was (λ _. then_go _ c.optional_control-2.ensures c.in_ok-at-8.was (λ _. then_stop _ c.bit.ensures c.in_err-at-9.was c.from_residual-in_err-at-9.ensures.1))))))))

pub returns-in_err-at-10 : goal.returns-in_err-at-10
returns-in_err-at-10 c = then_word c.args.self.now.limits c.args.self.now.words.now c.args.self.now.end _ _ c.within.ensures c.in_ok-at.was c.word-depth.ensures (then_word c.args.self.now.limits c.args.self.now.words.now c.args.self.now.end _ _ c.within-2.ensures c.in_ok-at-2.was c.word-width.ensures (then_go _ c.physical.ensures c.in_ok-at-3.was (λ _. then_go _ c.bits.ensures c.in_ok-at-4.was (λ _. then_go _ c.control.ensures c.in_ok-at-5.was (λ _. then_go _ c.bits-2.ensures c.in_ok-at-6.was (λ _. then_go _ c.optional_control.ensures c.in_ok-at-7.was (λ _. then_go _ c.optional_control-2.ensures c.in_ok-at-8.was (λ _. then_go _ c.bit.ensures c.in_ok-at-9.was (λ _. then_stop _ c.below.ensures c.in_err-at-10.was c.from_residual-in_err-at-10.ensures.1)))))))))

pub returns-in_err-at-11 : goal.returns-in_err-at-11
returns-in_err-at-11 c = then_word c.args.self.now.limits c.args.self.now.words.now c.args.self.now.end _ _ c.within.ensures c.in_ok-at.was c.word-depth.ensures (then_word c.args.self.now.limits c.args.self.now.words.now c.args.self.now.end _ _ c.within-2.ensures c.in_ok-at-2.was c.word-width.ensures (then_go _ c.physical.ensures c.in_ok-at-3.was (λ _. then_go _ c.bits.ensures c.in_ok-at-4.was (λ _. then_go _ c.control.ensures c.in_ok-at-5.was (λ _. then_go _ c.bits-2.ensures c.in_ok-at-6.was (λ _. then_go _ c.optional_control.ensures c.in_ok-at-7.was (λ _. then_go _ c.optional_control-2.ensures c.in_ok-at-8.was (λ _. then_go _ c.bit.ensures c.in_ok-at-9.was (λ _. then_go _ c.below.ensures c.in_ok-at-10.was (λ _. then_stop _ c.below-2.ensures c.in_err-at-11.was c.from_residual-in_err-at-11.ensures.1))))))))))

pub returns-in_err-at-12 : goal.returns-in_err-at-12
returns-in_err-at-12 c = then_word c.args.self.now.limits c.args.self.now.words.now c.args.self.now.end _ _ c.within.ensures c.in_ok-at.was c.word-depth.ensures (then_word c.args.self.now.limits c.args.self.now.words.now c.args.self.now.end _ _ c.within-2.ensures c.in_ok-at-2.was c.word-width.ensures (then_go _ c.physical.ensures c.in_ok-at-3.was (λ _. then_go _ c.bits.ensures c.in_ok-at-4.was (λ _. then_go _ c.control.ensures c.in_ok-at-5.was (λ _. then_go _ c.bits-2.ensures c.in_ok-at-6.was (λ _. then_go _ c.optional_control.ensures c.in_ok-at-7.was (λ _. then_go _ c.optional_control-2.ensures c.in_ok-at-8.was (λ _. then_go _ c.bit.ensures c.in_ok-at-9.was (λ _. then_go _ c.below.ensures c.in_ok-at-10.was (λ _. then_word c.args.self.now.limits c.args.self.now.words.now c.args.self.now.end _ _ c.below-2.ensures c.in_ok-at-11.was c.word-flag.ensures (then_stop _ c.bits-3.ensures c.in_err-at-12.was c.from_residual-in_err-at-12.ensures.1)))))))))))

pub returns-in_err-at-13 : goal.returns-in_err-at-13
returns-in_err-at-13 c = then_word c.args.self.now.limits c.args.self.now.words.now c.args.self.now.end _ _ c.within.ensures c.in_ok-at.was c.word-depth.ensures (then_word c.args.self.now.limits c.args.self.now.words.now c.args.self.now.end _ _ c.within-2.ensures c.in_ok-at-2.was c.word-width.ensures (then_go _ c.physical.ensures c.in_ok-at-3.was (λ _. then_go _ c.bits.ensures c.in_ok-at-4.was (λ _. then_go _ c.control.ensures c.in_ok-at-5.was (λ _. then_go _ c.bits-2.ensures c.in_ok-at-6.was (λ _. then_go _ c.optional_control.ensures c.in_ok-at-7.was (λ _. then_go _ c.optional_control-2.ensures c.in_ok-at-8.was (λ _. then_go _ c.bit.ensures c.in_ok-at-9.was (λ _. then_go _ c.below.ensures c.in_ok-at-10.was (λ _. then_word c.args.self.now.limits c.args.self.now.words.now c.args.self.now.end _ _ c.below-2.ensures c.in_ok-at-11.was c.word-flag.ensures (then_go _ c.bits-3.ensures c.in_ok-at-12.was (λ _. then_stop _ c.wires.ensures c.in_err-at-13.was c.from_residual-in_err-at-13.ensures.1))))))))))))

pub returns : goal.returns
returns c = then_word c.args.self.now.limits c.args.self.now.words.now c.args.self.now.end _ _ c.within.ensures c.in_ok-at.was c.word-depth.ensures (then_word c.args.self.now.limits c.args.self.now.words.now c.args.self.now.end _ _ c.within-2.ensures c.in_ok-at-2.was c.word-width.ensures (then_go _ c.physical.ensures c.in_ok-at-3.was (λ _. then_go _ c.bits.ensures c.in_ok-at-4.was (λ _. then_go _ c.control.ensures c.in_ok-at-5.was (λ _. then_go _ c.bits-2.ensures c.in_ok-at-6.was (λ _. then_go _ c.optional_control.ensures c.in_ok-at-7.was (λ _. then_go _ c.optional_control-2.ensures c.in_ok-at-8.was (λ _. then_go _ c.bit.ensures c.in_ok-at-9.was (λ _. then_go _ c.below.ensures c.in_ok-at-10.was (λ _. then_word c.args.self.now.limits c.args.self.now.words.now c.args.self.now.end _ _ c.below-2.ensures c.in_ok-at-11.was c.word-flag.ensures (then_go _ c.bits-3.ensures c.in_ok-at-12.was (λ _. then_go _ c.wires.ensures c.in_ok-at-13.was (λ _. then_done _ c.second_port.ensures)))))))))))))
