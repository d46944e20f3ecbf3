use Rattle.std.proofs.Common.{[]}
use Rattle.memories.specs.Memories.{ram_words}
use Rattle.memories.specs.Rams.{port_in, second_in}
use Rattle.memories.proofs.WordLaws.{Making, ram_left}
use Rattle.memories.proofs.ram_words.ram_words.Given as goal

abbrev pub invariant-loop-index : goal.invariant-loop-index
invariant-loop-index l = Making l.last (ram_words (port_in l.first) (second_in l.second) l.owner l.width l.address l.depth 0 []) (ram_left (port_in l.first) l.second l.owner l.width l.address l.depth) l.fn.recorder l.recorder l.index
