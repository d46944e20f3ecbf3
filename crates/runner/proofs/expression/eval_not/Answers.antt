use Rattle.evaluation.proofs.Answers.{not_asks, not_done}
use Rattle.runner.proofs.expression.eval_not.Goals as goal

pub gate-requires : goal.gate-requires
gate-requires c = not_asks c.requires.0 c.requires.1 c.expr_offset-to.ensures c.operand-a.ensures

pub returns : goal.returns
returns c = not_done c.requires.0 c.requires.1 c.expr_offset-to.ensures c.operand-a.ensures c.gate.ensures
