use Rattle.std.proofs.Common.{refl, rules}
use Rattle.memories.specs.Rams.{port_in}
use Rattle.memories.proofs.WordLaws.{making_start, making_step, making_err, making_end, dram_more, dram_none, dram_made}
use Rattle.memories.proofs.distributed_ram.dram_words.Goals as goal

pub loop-index-init : goal.loop-index-init
loop-index-init c = making_start refl

pub returns-in_err-dram_word : goal.returns-in_err-dram_word
returns-in_err-dram_word c = making_err c.loop-index.invariant (dram_more (port_in c.args.port) c.args.owner c.args.clock.0 c.args.edge c.loop-index.index _ c.loop-index-test.true) _ c.from_residual.result _ c.from_residual.ensures.1 c.in_err-dram_word.ensures

pub loop-index-preserved : goal.loop-index-preserved
loop-index-preserved c = making_step c.loop-index.invariant (dram_more (port_in c.args.port) c.args.owner c.args.clock.0 c.args.edge c.loop-index.index _ c.loop-index-test.true) c.in_ok-dram_word.ensures (dram_made (port_in c.args.port) c.args.owner c.args.clock.0 c.args.edge c.loop-index.index c.in_ok-dram_word.ensures)

pub returns : goal.returns
returns c = making_end c.loop-index.invariant 16 (search rules) refl (dram_none (port_in c.args.port) c.args.owner c.args.clock.0 c.args.edge c.loop-index.index _ (search rules))
