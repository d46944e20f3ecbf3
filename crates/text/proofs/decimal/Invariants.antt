-- The digits of the rest, and then those that are put, are the number's.
use Rattle.std.proofs.Common.{◌≡◌, ◌++◌, ◌^◌, ◌<◌, ◌≤◌, drop, length}
use Rattle.text.specs.Decimal.{decimal}
use Rattle.text.proofs.decimal.Given as goal

abbrev pub invariant-loop-rest : goal.invariant-loop-rest
invariant-loop-rest l = (0 < l.i) × (l.i ≤ 20) × (length l.figures ≡ 20) × (l.rest < 10 ^ l.i) × (decimal l.rest ++ drop l.i l.figures ≡ decimal l.n)

abbrev pub decreases-loop-rest : goal.decreases-loop-rest
decreases-loop-rest l = l.rest
