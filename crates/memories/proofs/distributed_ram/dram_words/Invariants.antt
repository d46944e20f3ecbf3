use Rattle.std.proofs.Common.{[]}
use Rattle.memories.specs.Memories.{dram_words}
use Rattle.memories.specs.Rams.{port_in}
use Rattle.memories.proofs.WordLaws.{Making, dram_left}
use Rattle.memories.proofs.distributed_ram.dram_words.Given as goal

abbrev pub invariant-loop-index : goal.invariant-loop-index
invariant-loop-index l = Making 4 (dram_words (port_in l.port) l.owner l.clock.0 l.edge 16 0 []) (dram_left (port_in l.port) l.owner l.clock.0 l.edge) l.fn.recorder l.recorder l.index
