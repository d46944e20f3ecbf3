use Rattle.recorder.proofs.Calls.{Underway}
use Rattle.memories.specs.Memories.{dram_select}
use Rattle.memories.specs.Rams.{words_of}
use Rattle.memories.proofs.WordLaws.{selects}
use Rattle.memories.proofs.distributed_ram.dram_select.Given as goal

abbrev pub invariant-loop-index : goal.invariant-loop-index
invariant-loop-index l = Underway l.fn.recorder (dram_select l.reads.0 0 (words_of l.words) l.fn.other.0) l.recorder (selects l.words l.reads.0 l.index l.selected.0)
