use Rattle.std.proofs.Common.{◌≡◌, drop}
use Rattle.converter.specs.Entry.{any_short}
use Rattle.converter.proofs.short_work.Given as goal

abbrev pub invariant-loop-size : goal.invariant-loop-size
invariant-loop-size l = any_short l.sizes ≡ any_short (drop l.size-index l.sizes)
