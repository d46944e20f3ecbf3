use Rattle.netlist.specs.Reader
use Rattle.netlist.specs.Reader.{base}
use Rattle.reader.proofs.PassedLaws.{Gone}
use Rattle.reader.proofs.section.Section.all_below.Given as goal

abbrev pub invariant-loop : goal.invariant-loop
invariant-loop l = Gone (Reader.below base l.self.words.now l.self.end l.bound) l.start l.counter l.at
