use Rattle.std.proofs.Common.{arith, sym, ap, ◌∙◌}
use Rattle.ordering.specs.Words.{model_in as part_in}
use Rattle.simulation.specs.Tick.{looped}
use Rattle.evaluation.proofs.Preparing.{sorting_zeroed, model_is, sorted_unlooped, sorted_ordered}
use Rattle.runner.proofs.Models.{no_fault_of}
use Rattle.runner.proofs.prepare.prepare.Goals as goal

pub sort-requires : goal.sort-requires
sort-requires c = (omega arith, omega arith, sorting_zeroed (part_in c.args.m.now.exprs.now c.args.m.now.stmts.now) c.args.m.now.expr_count c.args.marks.now (c.fill.ensures.after (λ _ e. e)))

pub returns-then-n-order-clause-unlooped : goal.returns-then-n-order-clause-unlooped
returns-then-n-order-clause-unlooped c = sym (sorted_unlooped (no_fault_of c.args.m.now) c.args.m.now.expr_counted c.sort.ensures c.if-sort-n.true)

pub returns-then-n-order-clause-ordered : goal.returns-then-n-order-clause-ordered
returns-then-n-order-clause-ordered c = sorted_ordered (no_fault_of c.args.m.now) c.args.m.now.expr_counted c.sort.ensures c.if-sort-n.true c.if-n-order.true

pub returns-then-sort-n-clause-unlooped : goal.returns-then-sort-n-clause-unlooped
returns-then-sort-n-clause-unlooped c = sym (sorted_unlooped (no_fault_of c.args.m.now) c.args.m.now.expr_counted c.sort.ensures c.if-sort-n.true)

pub returns-in-Some-clause-looped : goal.returns-in-Some-clause-looped
returns-in-Some-clause-looped c = sym (c.in-Some.ensures ∙ ap looped (model_is c.args.m.now.signals.now c.args.m.now.exprs.now c.args.m.now.stmts.now))

pub returns-in-None-clause-unlooped : goal.returns-in-None-clause-unlooped
returns-in-None-clause-unlooped c = sym (c.in-None.ensures ∙ ap looped (model_is c.args.m.now.signals.now c.args.m.now.exprs.now c.args.m.now.stmts.now))
