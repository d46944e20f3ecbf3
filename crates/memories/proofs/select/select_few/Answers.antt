use Rattle.std.proofs.Common.{refl}
use Rattle.recorder.proofs.Calls.{writes_then, writes_err}
use Rattle.memories.specs.Rams.{select_word}
use Rattle.memories.specs.Steps.{pick_word}
use Rattle.memories.proofs.select.select_few.Goals as goal

pub returns-in_err-zero-clause-wrote : goal.returns-in_err-zero-clause-wrote
unfolding select_word
returns-in_err-zero-clause-wrote c = writes_err c.in_err-zero.ensures _ _ c.from_residual.result _ refl c.from_residual.ensures.1

pub returns-then-words-le64-clause-wrote : goal.returns-then-words-le64-clause-wrote
unfolding select_word pick_word
returns-then-words-le64-clause-wrote c = writes_then c.in_ok-zero.ensures _ refl c.select_of.ensures.wrote

pub returns-else-words-le64-clause-wrote : goal.returns-else-words-le64-clause-wrote
unfolding select_word pick_word
returns-else-words-le64-clause-wrote c = writes_then c.in_ok-zero.ensures _ refl c.select_of-else-words-le64.ensures.wrote
