use Rattle.std.proofs.Common.{arith}
use Rattle.std.proofs.lemmas.Bool.{eq-eqb, ne_eqb}
use Rattle.recorder.proofs.Calls.{writes_pure}
use Rattle.wires.proofs.expressions.levelled.Goals as goal

pub returns-then-active-eq1 : goal.returns-then-active-eq1
returns-then-active-eq1 c = rw (eq-eqb c.args.active 1 (omega (arith, c.if-active-eq1.true))) writes_pure

pub returns-else-active-eq1 : goal.returns-else-active-eq1
returns-else-active-eq1 c = rw (ne_eqb c.args.active 1 (λ z. omega (arith, c.if-active-eq1.false, z))) c.not.ensures
