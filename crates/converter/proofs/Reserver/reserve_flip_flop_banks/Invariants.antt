use Rattle.converter.proofs.BanksReserved.{BanksLoop}
use Rattle.converter.proofs.Reserver.reserve_flip_flop_banks.Given as goal

abbrev pub invariant-loop-b : goal.invariant-loop-b
invariant-loop-b l = BanksLoop l.banks l.fn.self l.self l.b
