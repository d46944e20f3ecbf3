use Rattle.std.proofs.Common.{arith}
use Rattle.coding.proofs.Emitting.{emits_computable}
use Rattle.runner.proofs.code.emit.Goals as goal

pub put-requires : goal.put-requires
put-requires c = (c.requires.0, omega arith, c.requires.4, omega arith, emits_computable c.wide-e.ensures (c.computable.ensures _ _ _ c.requires.2 c.requires.4 c.if-not-computable.false))
