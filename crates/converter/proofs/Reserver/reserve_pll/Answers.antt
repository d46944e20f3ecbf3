use Rattle.converter.proofs.CellSignals.{pll_err, pll_done}
use Rattle.converter.proofs.Reserver.reserve_pll.Goals as goal

pub returns-in_err-reserve_absent : goal.returns-in_err-reserve_absent
returns-in_err-reserve_absent c = pll_err c.args.cell c.args.owner c.args.self.now c.from.ensures c.in_err-reserve_absent.ensures c.from_residual.result c.from_residual.ensures.1

pub returns : goal.returns
returns c = pll_done c.args.cell c.args.owner c.args.self.now c.from.ensures c.in_ok-reserve_absent.ensures c.from-2.ensures c.word.ensures c.reserve_absent-2.ensures
