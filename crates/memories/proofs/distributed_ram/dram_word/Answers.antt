use Rattle.std.proofs.Common.{refl}
use Rattle.recorder.proofs.Calls.{writes_then, writes_err, writes_pure}
use Rattle.memories.specs.Steps.{dram_word}
use Rattle.memories.proofs.distributed_ram.dram_word.Goals as goal

pub returns-in_err-word : goal.returns-in_err-word
unfolding dram_word
returns-in_err-word c = (writes_err c.in_err-word.ensures _ _ c.from_residual.result _ refl c.from_residual.ensures.1)

pub returns-in_err-register : goal.returns-in_err-register
unfolding dram_word
returns-in_err-register c = (writes_then c.in_ok-word.ensures _ refl (writes_err c.in_err-register.ensures _ _ c.from_residual-in_err-register.result _ refl c.from_residual-in_err-register.ensures.1))

pub returns : goal.returns
unfolding dram_word
returns c = (writes_then c.in_ok-word.ensures _ refl (writes_then c.in_ok-register.ensures _ refl writes_pure))
