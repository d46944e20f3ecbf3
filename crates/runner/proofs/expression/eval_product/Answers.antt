use Rattle.evaluation.proofs.Answers.{product_first_there, product_second_there, product_room, product_done}
use Rattle.evaluation.proofs.InBytes.{number_small}
use Rattle.runner.proofs.expression.eval_product.Goals as goal

pub number-p-requires : goal.number-p-requires
number-p-requires c = product_first_there c.requires.0 c.requires.1 c.operand-a.ensures

pub number-q-requires : goal.number-q-requires
number-q-requires c = product_second_there c.requires.0 c.requires.1 c.operand-b.ensures

pub product-requires : goal.product-requires
product-requires c = (number_small c.args.values.now c.operand-a.result (product_first_there c.requires.0 c.requires.1 c.operand-a.ensures) 0 _ c.number-p.ensures, number_small c.args.values.now c.operand-b.result (product_second_there c.requires.0 c.requires.1 c.operand-b.ensures) 0 _ c.number-q.ensures)

pub put_number-requires : goal.put_number-requires
put_number-requires c = product_room c.requires.0 c.requires.1 c.expr_offset-to.ensures

pub returns : goal.returns
returns c = product_done c.requires.0 c.requires.1 c.expr_offset-to.ensures c.operand-a.ensures c.operand-b.ensures c.product.result c.number-p.ensures c.number-q.ensures c.product.ensures c.put_number.ensures
