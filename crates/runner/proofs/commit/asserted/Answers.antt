use Rattle.std.proofs.Common.{ℕ, arith, ap, get_or}
use Rattle.evaluation.proofs.Committing.{level_inside, level_is}
use Rattle.runner.proofs.commit.asserted.Goals as goal

pub bounds-bytes-signal_offset : goal.bounds-bytes-signal_offset
bounds-bytes-signal_offset c = omega (arith, c.signal_offset.ensures, level_inside c.args.m.now.signals.now c.args.bytes.now c.requires.0 c.requires.1 c.requires.2)

pub returns : goal.returns
returns c = level_is c.args.m.now.signals.now c.args.bytes.now c.requires.0 c.requires.1 c.requires.2 c.args.active (ap (λ (n : ℕ). get_or c.args.bytes.now n 0) c.signal_offset.ensures)
