use Rattle.netlist.specs.Reader
use Rattle.netlist.specs.Reader.{base}
use Rattle.reader.proofs.PassedLaws.{Gone}
use Rattle.reader.proofs.section.Section.ports.Given as goal

abbrev pub invariant-loop : goal.invariant-loop
invariant-loop l = Gone (Reader.read_port l.self.limits l.self.words.now l.self.end) 0 l.counter l.at
