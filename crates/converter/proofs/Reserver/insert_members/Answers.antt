use Rattle.std.proofs.Common.{refl, ap, arith, length, List}
use Rattle.behaviour.specs.Banks.{Member}
use Rattle.converter.proofs.Walking.{members_few}
use Rattle.converter.proofs.Inserting.{inserting_step, inserting_err, inserting_end}
use Rattle.converter.proofs.Reserver.insert_members.Goals as goal

pub returns-in_err-insert_wire : goal.returns-in_err-insert_wire
returns-in_err-insert_wire c = inserting_err c.loop-cell.invariant c.in-Some.ensures.steps c.word-wire.ensures refl refl refl c.in_err-insert_wire.ensures c.from_residual.result c.from_residual.ensures.1

pub overflow_add-lsb : goal.overflow_add-lsb
overflow_add-lsb c = omega (arith, c.loop-cell.invariant.placed, ap (λ (ms : List Member). length ms) c.in-Some.ensures.steps, members_few c.args.members, c.ranges.members)

pub loop-cell-preserved : goal.loop-cell-preserved
loop-cell-preserved c = inserting_step c.loop-cell.invariant c.in-Some.ensures.steps c.word-wire.ensures refl refl refl c.in_ok-insert_wire.ensures

pub returns : goal.returns
returns c = inserting_end c.loop-cell.invariant c.in-None.ensures.steps.0
