use Rattle.std.proofs.Common.{rules, refl}
use Rattle.memories.specs.Rams.{port_in}
use Rattle.memories.proofs.WordLaws.{making_start, making_step, making_err, making_end, ram_all, ram_more, ram_none, word_made, made_as}
use Rattle.memories.proofs.ram_words.ram_words.Goals as goal

pub loop-index-init : goal.loop-index-init
loop-index-init c = making_start (ram_all (port_in c.args.first) c.args.second c.args.owner c.args.width c.args.address c.args.depth)

pub returns-in_err-ram_word-clause-wrote : goal.returns-in_err-ram_word-clause-wrote
returns-in_err-ram_word-clause-wrote c = making_err c.loop-index.invariant (ram_more (port_in c.args.first) c.args.second c.args.owner c.args.width c.args.address c.args.depth c.loop-index.index _ c.loop-index-test.true) _ c.from_residual.result _ c.from_residual.ensures.1 c.in_err-ram_word.ensures

pub loop-index-preserved : goal.loop-index-preserved
loop-index-preserved c =
    making_step c.loop-index.invariant (ram_more (port_in c.args.first) c.args.second c.args.owner c.args.width c.args.address c.args.depth c.loop-index.index _ c.loop-index-test.true) c.in_ok-ram_word.ensures
    (made_as c.last_of-last.ensures (word_made (port_in c.args.first) c.args.second c.args.owner c.args.width c.args.address c.loop-index.index c.in_ok-ram_word.ensures))

pub returns-clause-wrote : goal.returns-clause-wrote
returns-clause-wrote c = making_end c.loop-index.invariant c.args.depth (search rules) refl (ram_none (port_in c.args.first) c.args.second c.args.owner c.args.width c.args.address c.args.depth c.loop-index.index _ (search rules))
