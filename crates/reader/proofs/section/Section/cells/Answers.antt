use Rattle.std.proofs.Common.{arith}
use Rattle.reader.proofs.SectionLaws.{cells_more, cells_stop}
use Rattle.reader.proofs.section.Section.cells.Goals as goal

pub returns-in_err-at : goal.returns-in_err-at
returns-in_err-at c = let s = c.args.self.now in cells_stop s.limits s.words.now s.end c.args.start c.args.count _ c.loop-k.invariant (omega arith) c.cell.ensures c.in_err-at.was c.from_residual.ensures.1

pub loop-k-preserved : goal.loop-k-preserved
loop-k-preserved c = let s = c.args.self.now in cells_more s.limits s.words.now s.end c.args.start c.loop-k.invariant c.cell.ensures c.in_ok-at.was (cc)
