use Rattle.lowering.specs.Reserve.{insert_bits}
use Rattle.converter.specs.Tables.{held_bits}
use Rattle.converter.proofs.Reserving.{declared_then, declared_err}
use Rattle.converter.proofs.Reserver.reserve_vector.Goals as goal

pub returns-in_err-signal : goal.returns-in_err-signal
returns-in_err-signal c = declared_err (λ m s. insert_bits m s c.args.n 0 (held_bits c.args.fields.words.now c.args.content c.args.fields.at c.args.n)) _ c.in_err-signal.ensures c.from_residual.result c.from_residual.ensures.1

pub returns : goal.returns
returns c =
    declared_then (λ m s. insert_bits m s c.args.n 0 (held_bits c.args.fields.words.now c.args.content c.args.fields.at c.args.n)) c.in_ok-signal.ensures
    (λ limits room p s. (p.0, s, p.1)) c.insert_bits.ensures
