use Rattle.evaluation.proofs.Answers.{const_asks, const_done}
use Rattle.runner.proofs.expression.eval_const.Goals as goal

pub put_number-requires : goal.put_number-requires
put_number-requires c = const_asks c.requires.0 c.requires.1 c.expr_offset-to.ensures c.wide-w.ensures c.long-v.ensures

pub returns : goal.returns
returns c = const_done c.requires.0 c.requires.1 c.expr_offset-to.ensures c.wide-w.ensures c.long-v.ensures c.put_number.ensures
