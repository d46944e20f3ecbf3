use Rattle.std.proofs.Common.{◌≡◌, length, []}
use Rattle.recorder.proofs.Calls.{Underway}
use Rattle.memories.specs.Memories.{candidates_from}
use Rattle.memories.specs.Rams.{words_of}
use Rattle.memories.proofs.WordLaws.{gathers}
use Rattle.memories.proofs.select.select_of.Given as goal

abbrev pub invariant-loop-index : goal.invariant-loop-index
invariant-loop-index g l = (length l.nodes ≡ g.row.N) × Underway l.fn.recorder (candidates_from l.reads.0 l.address 0 (words_of l.words) []) l.recorder (gathers l.words l.reads.0 l.address l.index l.nodes)
