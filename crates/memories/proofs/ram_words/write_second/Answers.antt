use Rattle.std.proofs.Common.{ap}
use Rattle.std.specs.Prelude.{Option}
use Rattle.recorder.proofs.Calls.{writes_as, writes_pure}
use Rattle.memories.specs.declared.Port.{Port}
use Rattle.memories.specs.Memories.{write_second}
use Rattle.memories.specs.Rams.{second_in}
use Rattle.memories.proofs.ram_words.write_second.Goals as goal

pub returns-in-Some : goal.returns-in-Some
returns-in-Some c = writes_as (ap (λ (b : Option Port). write_second (second_in b) c.args.width c.args.address c.args.index c.args.old.0) c.in-Some.is) c.write_word.ensures

pub returns-in-None : goal.returns-in-None
returns-in-None c = writes_as (ap (λ (b : Option Port). write_second (second_in b) c.args.width c.args.address c.args.index c.args.old.0) c.in-None.is) writes_pure
