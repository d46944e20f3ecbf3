use Rattle.converter.proofs.Rows.{CellsLoop, CellIs}
use Rattle.converter.proofs.Reserver.reserve_cells.Given as goal

abbrev pub invariant-loop-owner : goal.invariant-loop-owner
invariant-loop-owner l = CellsLoop l.cells.words.now l.cells.at l.n l.fn.self l.self l.owner × CellIs l.cells.words.now l.cells.at l.n l.fn.self l.owner l.cell
