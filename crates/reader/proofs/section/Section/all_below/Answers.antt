use Rattle.std.proofs.Common.{refl, arith}
use Rattle.reader.proofs.PassedLaws.{gone_stop, gone_more, run_missing, run_wrong, run_taken}
use Rattle.reader.proofs.section.Section.all_below.Goals as goal

pub returns-then-self-at : goal.returns-then-self-at
returns-then-self-at c = gone_stop _ _ _ _ c.args.count _ _ c.loop.invariant c.loop-test.true (run_missing _ _ _ _ c.if-self-at.true) refl refl

pub returns-then-bound-word : goal.returns-then-bound-word
returns-then-bound-word c = gone_stop _ _ _ _ c.args.count _ _ c.loop.invariant c.loop-test.true (run_wrong c.args.self.now.words.now _ _ _ c.if-self-at.false (omega arith)) refl refl

pub loop-preserved : goal.loop-preserved
loop-preserved c = gone_more _ _ _ _ _ _ c.loop.invariant (run_taken c.args.self.now.words.now _ _ _ c.if-self-at.false (omega arith)) refl
