use Rattle.std.proofs.Common.{arith}
use Rattle.ordering.specs.Words.{model_in}
use Rattle.evaluation.proofs.Preparing.{sorting_zeroed}
use Rattle.runner.proofs.sort.sort.Goals as goal

pub sort_along-k-requires : goal.sort_along-k-requires
sort_along-k-requires c = (omega arith, c.requires.1, sorting_zeroed (model_in c.args.m.now.exprs.now c.args.m.now.stmts.now) c.args.m.now.expr_count c.guess_order.new.marks (c.fill.ensures.after (λ _ e. e)))
