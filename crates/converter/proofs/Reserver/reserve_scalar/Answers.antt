use Rattle.std.proofs.Common.{arith}
use Rattle.netlist.specs.declared.Bit.TheVariants.{Wire}
use Rattle.lowering.specs.Reserve.{insert_wire, reserve_scalar}
use Rattle.converter.proofs.Reserving.{declared_then, declared_err}
use Rattle.converter.proofs.Reserver.reserve_scalar.Goals as goal

pub returns-in_err-signal : goal.returns-in_err-signal
unfolding reserve_scalar
returns-in_err-signal c = declared_err (λ m s. insert_wire m (Wire c.args.wire) (record { signal = s; lsb = 0; width = 1 })) _ c.in_err-signal.ensures c.from_residual.result c.from_residual.ensures.1

pub returns : goal.returns
unfolding reserve_scalar
returns c =
    declared_then (λ m s. insert_wire m (Wire c.args.wire) (record { signal = s; lsb = 0; width = 1 })) c.in_ok-signal.ensures
    (λ limits room p s. (p, record { numbered = s; placed = omega arith; narrow = omega arith })) c.insert_wire.ensures
