use Rattle.std.proofs.Common.{◌+◌}
use Rattle.netlist.specs.Netlist.{bit_of}
use Rattle.netlist.specs.Reader
use Rattle.netlist.specs.Reader.{base}
use Rattle.reader.proofs.PassedLaws.{many_done}
use Rattle.reader.proofs.section.Section.bits.Goals as goal

pub returns : goal.returns
returns c = let s = c.args.self.now in many_done (Reader.below base s.words.now s.end (2 + s.limits.wires)) bit_of c.args.count c.all_below.ensures
