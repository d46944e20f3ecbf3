use Rattle.std.proofs.Common.{arith, refl}
use Rattle.evaluation.specs.Ready.{expr_in}
use Rattle.evaluation.proofs.ByKind.{words_enough}
use Rattle.evaluation.proofs.Evaluating.{word_inside}
use Rattle.evaluation.proofs.Whole.{ready, evaluated_computes}
use Rattle.runner.proofs.Models.{prepared_of}
use Rattle.runner.proofs.expression.eval_expr.Goals as goal

pub overflow_add-kind : goal.overflow_add-kind
overflow_add-kind c = let rd = ready (prepared_of c.args.m.now) c.requires.1 c.requires.0 c.start-at.ensures in let i = word_inside rd 1 (omega (arith, words_enough (expr_in c.args.m.now.exprs.now c.args.e))) in record { fits = omega (arith, c.well_formed) }

pub offset_bounds-m-at : goal.offset_bounds-m-at
offset_bounds-m-at c = let rd = ready (prepared_of c.args.m.now) c.requires.1 c.requires.0 c.start-at.ensures in let i = word_inside rd 1 (omega (arith, words_enough (expr_in c.args.m.now.exprs.now c.args.e))) in record { fits = omega (arith, c.well_formed) }

pub bounds-m-at : goal.bounds-m-at
bounds-m-at c = let rd = ready (prepared_of c.args.m.now) c.requires.1 c.requires.0 c.start-at.ensures in word_inside rd 1 (omega (arith, words_enough (expr_in c.args.m.now.exprs.now c.args.e)))

pub eval_operands-requires : goal.eval_operands-requires
eval_operands-requires c = (ready (prepared_of c.args.m.now) c.requires.1 c.requires.0 c.start-at.ensures, refl, c.if-kind-eq-READ.false)

pub returns-else-kind-eq-READ : goal.returns-else-kind-eq-READ
returns-else-kind-eq-READ c = evaluated_computes (prepared_of c.args.m.now) c.requires.1 c.eval_operands.ensures
