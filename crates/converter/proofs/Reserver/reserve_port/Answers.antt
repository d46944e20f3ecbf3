use Rattle.converter.proofs.PortSignals.{output_err, output_done, input_done}
use Rattle.converter.proofs.Reserver.reserve_port.Goals as goal

pub returns-in_err-signal : goal.returns-in_err-signal
returns-in_err-signal c = output_err c.args.port c.args.p c.args.self.now c.word-width.ensures c.word.ensures c.if-word-eq1.true _ c.in_err-signal.ensures c.from_residual.result c.from_residual.ensures.1

pub returns-then-word-eq1 : goal.returns-then-word-eq1
returns-then-word-eq1 c = output_done c.args.port c.args.p c.args.self.now c.word-width.ensures c.word.ensures c.if-word-eq1.true c.in_ok-signal.ensures

pub returns : goal.returns
returns c = input_done c.args.port c.args.p c.args.self.now c.word-width.ensures c.word.ensures c.if-word-eq1.false c.from.ensures c.reserve_vector.ensures
