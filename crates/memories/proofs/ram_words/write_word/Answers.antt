use Rattle.std.proofs.Common.{refl}
use Rattle.recorder.proofs.Calls.{writes_then, writes_err, writes_as}
use Rattle.memories.specs.Rams.{port_in}
use Rattle.memories.proofs.WordLaws.{write_word_lem}
use Rattle.memories.proofs.ram_words.write_word.Goals as goal

pub returns-in_err-found : goal.returns-in_err-found
returns-in_err-found c = writes_as (write_word_lem (port_in c.args.port) c.args.width c.args.address c.args.index c.args.old.0) (writes_err c.in_err-found.ensures _ _ c.from_residual.result _ refl c.from_residual.ensures.1)

pub returns-in_err-write : goal.returns-in_err-write
returns-in_err-write c = writes_as (write_word_lem (port_in c.args.port) c.args.width c.args.address c.args.index c.args.old.0) (writes_then c.in_ok-found.ensures _ refl (writes_err c.in_err-write.ensures _ _ c.from_residual-in_err-write.result _ refl c.from_residual-in_err-write.ensures.1))

pub returns : goal.returns
returns c = writes_as (write_word_lem (port_in c.args.port) c.args.width c.args.address c.args.index c.args.old.0) (writes_then c.in_ok-found.ensures _ refl (writes_then c.in_ok-write.ensures _ refl c.mux.ensures))
