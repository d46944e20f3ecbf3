use Rattle.reader.proofs.SectionLaws.{CellsGone}
use Rattle.reader.proofs.section.Section.cells.Given as goal

abbrev pub invariant-loop-k : goal.invariant-loop-k
invariant-loop-k l = CellsGone l.self.limits l.self.words.now l.self.end l.start l.k l.at l.six
