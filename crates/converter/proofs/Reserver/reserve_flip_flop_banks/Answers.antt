use Rattle.std.proofs.Common.{arith}
use Rattle.converter.proofs.BanksReserved.{banks_start, banks_step, banks_err, banks_done}
use Rattle.converter.proofs.Reserver.reserve_flip_flop_banks.Goals as goal

pub loop-b-init : goal.loop-b-init
loop-b-init c = banks_start c.args.banks c.args.self.now

pub returns-in_err-reserve_flip_flop_bank : goal.returns-in_err-reserve_flip_flop_bank
returns-in_err-reserve_flip_flop_bank c = banks_err c.args.banks c.loop-b.invariant c.loop-b-test.true c.members.ensures c.in_err-reserve_flip_flop_bank.ensures c.from_residual.result c.from_residual.ensures.1

pub loop-b-preserved : goal.loop-b-preserved
loop-b-preserved c = banks_step c.args.banks c.loop-b.invariant c.loop-b-test.true c.members.ensures c.in_ok-reserve_flip_flop_bank.ensures

pub returns : goal.returns
returns c = banks_done c.args.banks c.loop-b.invariant (omega arith)
