use Rattle.std.proofs.Common.{◌≡◌, ◌+◌, ◌-◌}
use Rattle.converter.specs.Banked.{key_is, first_with}
use Rattle.converter.proofs.collect.find_key.Given as goal

abbrev pub invariant-loop-i : goal.invariant-loop-i
invariant-loop-i l = l.i + first_with (λ j. key_is l.parts l.values j l.a l.b) (l.count - l.i) l.i ≡ first_with (λ j. key_is l.parts l.values j l.a l.b) l.count 0
