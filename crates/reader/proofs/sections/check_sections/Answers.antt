use Rattle.reader.proofs.SectionLaws.{ports_refused, cells_refused}
use Rattle.reader.proofs.sections.check_sections.Goals as goal

pub returns-in_err-ports : goal.returns-in_err-ports
returns-in_err-ports c = ports_refused c.args.limits c.args.words.now c.args.layout _ _ c.from_residual.ensures.1 c.ports.ensures c.in_err-ports.was

pub returns-in_err-cell : goal.returns-in_err-cell
returns-in_err-cell c = cells_refused c.args.limits c.args.words.now c.args.layout _ _ c.from_residual-in_err-cell.ensures.1 c.requires c.ports.ensures c.in_ok-ports.was c.cells.ensures c.in_err-cell.was
