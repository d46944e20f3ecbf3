use Rattle.evaluation.proofs.Answers.{equal_less, equal_asks, equal_room, equal_done}
use Rattle.runner.proofs.expression.eval_equal.Goals as goal

pub overflow_sub-end : goal.overflow_sub-end
overflow_sub-end c = equal_less c.requires.0 c.requires.1 c.expr_offset-to.ensures c.operand-a.ensures c.operand-b.ensures c.wide.ensures c.expr_offset-end.ensures

pub equal-same-requires : goal.equal-same-requires
equal-same-requires c = equal_asks c.requires.0 c.requires.1 c.expr_offset-to.ensures c.operand-a.ensures c.operand-b.ensures c.wide.ensures c.expr_offset-end.ensures

pub put_bit-requires : goal.put_bit-requires
put_bit-requires c = equal_room c.requires.0 c.requires.1 c.expr_offset-to.ensures c.operand-a.ensures c.operand-b.ensures c.wide.ensures c.expr_offset-end.ensures

pub returns : goal.returns
returns c = equal_done c.requires.0 c.requires.1 c.expr_offset-to.ensures c.operand-a.ensures c.operand-b.ensures c.wide.ensures c.expr_offset-end.ensures c.equal-same.ensures c.put_bit.ensures
