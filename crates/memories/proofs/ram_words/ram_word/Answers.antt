use Rattle.std.proofs.Common.{refl}
use Rattle.recorder.proofs.Calls.{writes_then, writes_err, writes_pure}
use Rattle.memories.specs.Memories.{ram_word}
use Rattle.memories.proofs.ram_words.ram_word.Goals as goal

pub returns-in_err-signal : goal.returns-in_err-signal
unfolding ram_word
returns-in_err-signal c = (writes_err c.in_err-signal.ensures _ _ c.from_residual.result _ refl c.from_residual.ensures.1)

pub returns-in_err-current : goal.returns-in_err-current
unfolding ram_word
returns-in_err-current c = (writes_then c.in_ok-signal.ensures _ refl (writes_err c.in_err-current.ensures _ _ c.from_residual-in_err-current.result _ refl c.from_residual-in_err-current.ensures.1))

pub returns-in_err-once : goal.returns-in_err-once
unfolding ram_word
returns-in_err-once c = (writes_then c.in_ok-signal.ensures _ refl (writes_then c.in_ok-current.ensures _ refl (writes_err c.in_err-once.ensures _ _ c.from_residual-in_err-once.result _ refl c.from_residual-in_err-once.ensures.1)))

pub returns-in_err-next : goal.returns-in_err-next
unfolding ram_word
returns-in_err-next c = (writes_then c.in_ok-signal.ensures _ refl (writes_then c.in_ok-current.ensures _ refl (writes_then c.in_ok-once.ensures _ refl (writes_err c.in_err-next.ensures _ _ c.from_residual-in_err-next.result _ refl c.from_residual-in_err-next.ensures.1))))

pub returns : goal.returns
unfolding ram_word
returns c = (writes_then c.in_ok-signal.ensures _ refl (writes_then c.in_ok-current.ensures _ refl (writes_then c.in_ok-once.ensures _ refl (writes_then c.in_ok-next.ensures _ refl writes_pure))))
