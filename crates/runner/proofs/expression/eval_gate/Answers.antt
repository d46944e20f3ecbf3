use Rattle.evaluation.proofs.Answers.{gate_asks, gate_done}
use Rattle.runner.proofs.expression.eval_gate.Goals as goal

pub gate-requires : goal.gate-requires
gate-requires c = gate_asks c.requires.0 c.requires.1 c.requires.2 c.requires.3 c.expr_offset-to.ensures c.operand-a.ensures c.operand-b.ensures

pub returns : goal.returns
returns c = gate_done c.requires.0 c.requires.1 c.requires.2 c.requires.3 c.expr_offset-to.ensures c.operand-a.ensures c.operand-b.ensures c.gate.ensures
