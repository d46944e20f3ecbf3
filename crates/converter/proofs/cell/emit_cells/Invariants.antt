use Rattle.converter.proofs.Emitting.{CellsLoop, CellIs}
use Rattle.converter.proofs.cell.emit_cells.Given as goal

abbrev pub invariant-loop-owner : goal.invariant-loop-owner
invariant-loop-owner l =
    CellsLoop l.initial.emitter l.initial.works l.cells.words.now l.cells.at l.n l.emitter l.works l.owner
    × CellIs l.initial.emitter l.initial.works l.cells.words.now l.cells.at l.n l.owner l.cell
