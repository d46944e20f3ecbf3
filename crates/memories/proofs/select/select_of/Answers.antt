use Rattle.std.proofs.Common.{refl, [], rules, arith}
use Rattle.recorder.proofs.Calls.{writes_then, writes_err, writes_as, writes_pure, underway_start, underway_end}
use Rattle.recorder.proofs.Calls.{underway_stop}
use Rattle.memories.specs.Steps.{pick_word}
use Rattle.memories.proofs.WordLaws.{gather_all, gather_more, gathered, gather_none}
use Rattle.memories.proofs.ReadLaws.{mux_as}
use Rattle.std.proofs.lemmas.List.{length-replicate}
use Rattle.std.proofs.Common.{◌≤◌}
use Rattle.memories.proofs.select.select_of.Goals as goal

pub loop-index-init : goal.loop-index-init
loop-index-init g c = (length-replicate g.row.N _, underway_start (gather_all c.args.words c.args.reads.0 c.args.address []))

pub returns-in_err-matched-clause-wrote : goal.returns-in_err-matched-clause-wrote
unfolding pick_word
returns-in_err-matched-clause-wrote g c = writes_err (underway_stop _ c.loop-index.invariant.1 (gather_more c.args.words c.args.reads.0 c.args.address c.loop-index.index c.loop-index.nodes c.loop-index-test.true refl) c.in_err-matched.ensures refl) _ _ c.from_residual.result _ refl c.from_residual.ensures.1

pub loop-index-preserved : goal.loop-index-preserved
loop-index-preserved g c = (search rules, gathered c.args.words c.args.reads.0 c.args.address c.loop-index.nodes c.loop-index.invariant.1 c.loop-index-test.true c.word.ensures (omega (arith, c.loop-index.invariant.0, c.loop-index-test.true, c.requires.1)) refl c.in_ok-matched.ensures)

pub balanced_address_mux_of_array-requires : goal.balanced_address_mux_of_array-requires
balanced_address_mux_of_array-requires g c = let h : g.row.N ≤ 16384 = c.requires.2 in omega (arith, h)

pub returns-clause-wrote : goal.returns-clause-wrote
unfolding pick_word
returns-clause-wrote g c =
    let i = c.loop-index.invariant in
    writes_then (underway_end i.1 (gather_none c.args.words c.args.reads.0 c.args.address c.loop-index.index c.loop-index.nodes (search rules)) writes_pure) _ refl
    (writes_as (mux_as g.row.N c.args.words.depth c.args.works.now.parts.now c.args.works.now.values.now c.loop-index.nodes c.args.width c.args.zero.0 c.requires.1 (omega (arith, i.0, c.requires.1)) c.requires.0.0 c.requires.0.1) c.balanced_address_mux_of_array.ensures.wrote)
