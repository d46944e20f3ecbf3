use Rattle.evaluation.proofs.Answers.{mux_select_there, mux_moves_first, mux_moves_second, mux_done_first, mux_done_second}
use Rattle.runner.proofs.expression.eval_mux.Goals as goal

pub bounds-values-s : goal.bounds-values-s
bounds-values-s c = mux_select_there c.requires.0 c.requires.1 c.expr_offset-to.ensures c.operand-s.ensures c.wide-w.ensures

pub copy_within-requires : goal.copy_within-requires
copy_within-requires c = let z = mux_moves_first c.requires.0 c.requires.1 c.expr_offset-to.ensures c.operand-s.ensures c.wide-w.ensures c.operand-t.ensures in (z.0, z.1)

pub copy_within-requires-else-values-s-eq1 : goal.copy_within-requires-else-values-s-eq1
copy_within-requires-else-values-s-eq1 c = let z = mux_moves_second c.requires.0 c.requires.1 c.expr_offset-to.ensures c.operand-s.ensures c.wide-w.ensures c.operand-f.ensures in (z.0, z.1)

pub returns-then-values-s-eq1 : goal.returns-then-values-s-eq1
returns-then-values-s-eq1 c = mux_done_first c.requires.0 c.requires.1 c.expr_offset-to.ensures c.operand-s.ensures c.wide-w.ensures c.operand-t.ensures c.if-values-s-eq1.true c.copy_within.ensures

pub returns-else-values-s-eq1 : goal.returns-else-values-s-eq1
returns-else-values-s-eq1 c = mux_done_second c.requires.0 c.requires.1 c.expr_offset-to.ensures c.operand-s.ensures c.wide-w.ensures c.operand-f.ensures c.if-values-s-eq1.false c.copy_within-else-values-s-eq1.ensures
