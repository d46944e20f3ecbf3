use Rattle.std.proofs.Common.{refl, rules}
use Rattle.recorder.proofs.Calls.{writes_pure, underway_start, underway_step, underway_end}
use Rattle.address_mux.proofs.Binds.{underway_err}
use Rattle.memories.proofs.WordLaws.{select_all, select_more, select_none}
use Rattle.memories.proofs.distributed_ram.dram_select.Goals as goal

pub loop-index-init : goal.loop-index-init
loop-index-init c = underway_start (select_all c.args.words c.args.reads.0 c.args.other.0)

pub returns-in_err-selected : goal.returns-in_err-selected
returns-in_err-selected c = underway_err _ c.loop-index.invariant (select_more c.args.words c.args.reads.0 c.loop-index.index c.loop-index.selected.0 c.loop-index-test.true c.word-word.ensures) _ c.from_residual.result _ c.from_residual.ensures.1 c.in_err-selected.ensures

pub loop-index-preserved : goal.loop-index-preserved
loop-index-preserved c = underway_step _ c.loop-index.invariant (select_more c.args.words c.args.reads.0 c.loop-index.index c.loop-index.selected.0 c.loop-index-test.true c.word-word.ensures) c.in_ok-selected.ensures refl

pub returns : goal.returns
returns c = underway_end c.loop-index.invariant (select_none c.args.words c.args.reads.0 c.loop-index.index c.loop-index.selected.0 (search rules)) writes_pure
