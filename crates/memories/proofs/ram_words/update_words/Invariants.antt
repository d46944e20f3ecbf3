use Rattle.recorder.proofs.Calls.{Underway}
use Rattle.memories.specs.Memories.{update_words}
use Rattle.memories.specs.Rams.{words_of}
use Rattle.memories.proofs.WordLaws.{updates}
use Rattle.memories.proofs.ram_words.update_words.Given as goal

abbrev pub invariant-loop-index : goal.invariant-loop-index
invariant-loop-index l = Underway l.fn.recorder (update_words (words_of l.words) l.clock.0 l.edge) l.recorder (updates l.words l.clock.0 l.edge l.index)
