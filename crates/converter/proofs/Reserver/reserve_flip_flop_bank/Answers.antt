use Rattle.behaviour.specs.Banks.{outputs_of}
use Rattle.lowering.specs.Reserve.{insert_wires}
use Rattle.converter.specs.Tables.{map_in}
use Rattle.converter.specs.Members.{members_left}
use Rattle.std.proofs.Common.{arith}
use Rattle.converter.proofs.Reserving.{reserves_as, declared_then, declared_err}
use Rattle.converter.proofs.Inserting.{bank_vector}
use Rattle.converter.proofs.Reserver.reserve_flip_flop_bank.Goals as goal

pub returns-in_err-signal : goal.returns-in_err-signal
returns-in_err-signal c =
    reserves_as (λ limits p. bank_vector (map_in c.args.self.now) c.args.owner (members_left c.args.members) c.width-width.ensures)
    (declared_err (λ m s. insert_wires m s c.width-width.result 0 (outputs_of (members_left c.args.members))) _ c.in_err-signal.ensures c.from_residual.result c.from_residual.ensures.1)

pub returns : goal.returns
returns c =
    reserves_as (λ limits p. bank_vector (map_in c.args.self.now) c.args.owner (members_left c.args.members) c.width-width.ensures)
    (declared_then (λ m s. insert_wires m s c.width-width.result 0 (outputs_of (members_left c.args.members))) c.in_ok-signal.ensures
    (λ limits room p s. (p.0, s, omega (arith, p.1, c.width-width.ensures), omega (arith, c.width-width.ensures))) c.insert_members.ensures)
