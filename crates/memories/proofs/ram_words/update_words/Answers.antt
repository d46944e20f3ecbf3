use Rattle.std.proofs.Common.{refl, rules}
use Rattle.recorder.proofs.Calls.{writes_pure, underway_start, underway_step, underway_end}
use Rattle.address_mux.proofs.Binds.{underway_err}
use Rattle.memories.proofs.WordLaws.{update_all, update_more, update_none}
use Rattle.memories.proofs.ram_words.update_words.Goals as goal

pub loop-index-init : goal.loop-index-init
loop-index-init c = underway_start (update_all c.args.words c.args.clock.0 c.args.edge)

pub returns-in_err-register : goal.returns-in_err-register
returns-in_err-register c = underway_err _ c.loop-index.invariant (update_more c.args.words c.args.clock.0 c.args.edge c.loop-index.index c.loop-index-test.true c.word-word.ensures) _ c.from_residual.result _ c.from_residual.ensures.1 c.in_err-register.ensures

pub loop-index-preserved : goal.loop-index-preserved
loop-index-preserved c = underway_step _ c.loop-index.invariant (update_more c.args.words c.args.clock.0 c.args.edge c.loop-index.index c.loop-index-test.true c.word-word.ensures) c.in_ok-register.ensures refl

pub returns : goal.returns
returns c = underway_end c.loop-index.invariant (update_none c.args.words c.args.clock.0 c.args.edge c.loop-index.index (search rules)) writes_pure
