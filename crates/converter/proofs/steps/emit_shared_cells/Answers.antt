use Rattle.std.proofs.Common.{rules, refl}
use Rattle.recorder.specs.Calls.{stated}
use Rattle.converter.specs.Emits.{EmitsAll}
use Rattle.converter.proofs.Sequence.{shared_cells}
use Rattle.converter.proofs.steps.emit_shared_cells.Goals as goal

pub returns-clause-wrote : goal.returns-clause-wrote
returns-clause-wrote c =
    let w : EmitsAll c.args.recorder.now c.args.works.now c.args.map c.args.cells.words.now c.args.cells.at c.args.n c.args.shared (stated c.emit_cells.result) c.emit_cells.new.emitter.recorder.now = shared_cells 16384 c.min-end.result c.args.shared refl c.min-end.ensures refl c.emit_cells.ensures.wrote in
    search (rules, w)
