use Rattle.std.proofs.Common.{arith, refl, ℕ}
use Rattle.simulation.specs.Model.{lists_of}
use Rattle.simulation.specs.Index.{widths_in}
use Rattle.simulation.specs.Fault.{expr_test, stmt_test}
use Rattle.simulation.proofs.Firsts.{whole_small, cut_small, fault_below, cut_signals, cut_exprs, cut_stmts, first_of_all}
use Rattle.model_check.proofs.check.first_fault.Goals as goal

pub returns-in-Err : goal.returns-in-Err
returns-in-Err c = cut_signals c.args.widest (lists_of c.args.m) c.in-Err.ensures

pub overflow_add-result : goal.overflow_add-result
overflow_add-result c = omega (arith, whole_small _ c.in-Ok.ensures, cut_small _ c.in-Err-count_whole.ensures, c.well_formed)

pub returns-in-Err-count_whole : goal.returns-in-Err-count_whole
returns-in-Err-count_whole c = cut_exprs c.args.widest (lists_of c.args.m) c.in-Ok.ensures c.in-Err-count_whole.ensures

pub overflow_add-result-in-Err-count_whole-2 : goal.overflow_add-result-in-Err-count_whole-2
overflow_add-result-in-Err-count_whole-2 c = omega (arith, whole_small _ c.in-Ok-count_whole.ensures, cut_small _ c.in-Err-count_whole-2.ensures, c.well_formed)

pub overflow_add-result-in-Err-count_whole-2-2 : goal.overflow_add-result-in-Err-count_whole-2-2
overflow_add-result-in-Err-count_whole-2-2 c = omega (arith, whole_small _ c.in-Ok.ensures, whole_small _ c.in-Ok-count_whole.ensures, cut_small _ c.in-Err-count_whole-2.ensures, c.well_formed)

pub returns-in-Err-count_whole-2 : goal.returns-in-Err-count_whole-2
returns-in-Err-count_whole-2 c = cut_stmts c.args.widest (lists_of c.args.m) c.in-Ok.ensures c.in-Ok-count_whole.ensures c.in-Err-count_whole-2.ensures

pub returns-in-Some : goal.returns-in-Some
returns-in-Some c = first_of_all c.args.widest (lists_of c.args.m) c.in-Ok.ensures c.in-Ok-count_whole.ensures c.in_default.ensures c.in-Some.ensures refl refl

pub overflow_add-result-in-Some-expr_fault : goal.overflow_add-result-in-Some-expr_fault
overflow_add-result-in-Some-expr_fault c = omega (arith, whole_small _ c.in-Ok.ensures, fault_below (expr_test c.args.widest (widths_in c.args.m.signals.now) (widths_in c.args.m.exprs.now)) c.args.m.exprs.now _ c.in-Some-expr_fault.ensures, c.well_formed)

pub returns-in-Some-expr_fault : goal.returns-in-Some-expr_fault
returns-in-Some-expr_fault c = first_of_all c.args.widest (lists_of c.args.m) c.in-Ok.ensures c.in-Ok-count_whole.ensures c.in_default.ensures c.in_default-signal_fault.ensures c.in-Some-expr_fault.ensures refl

pub overflow_add-result-in-Some-stmt_fault : goal.overflow_add-result-in-Some-stmt_fault
overflow_add-result-in-Some-stmt_fault c = omega (arith, whole_small _ c.in-Ok-count_whole.ensures, fault_below (λ (j : ℕ) r. stmt_test (widths_in c.args.m.signals.now) (widths_in c.args.m.exprs.now) r) c.args.m.stmts.now _ c.in-Some-stmt_fault.ensures, c.well_formed)

pub overflow_add-result-in-Some-stmt_fault-2 : goal.overflow_add-result-in-Some-stmt_fault-2
overflow_add-result-in-Some-stmt_fault-2 c = omega (arith, whole_small _ c.in-Ok.ensures, whole_small _ c.in-Ok-count_whole.ensures, fault_below (λ (j : ℕ) r. stmt_test (widths_in c.args.m.signals.now) (widths_in c.args.m.exprs.now) r) c.args.m.stmts.now _ c.in-Some-stmt_fault.ensures, c.well_formed)

pub returns-in-Some-stmt_fault : goal.returns-in-Some-stmt_fault
returns-in-Some-stmt_fault c = first_of_all c.args.widest (lists_of c.args.m) c.in-Ok.ensures c.in-Ok-count_whole.ensures c.in_default.ensures c.in_default-signal_fault.ensures c.in_default-expr_fault.ensures c.in-Some-stmt_fault.ensures

pub returns-in-None : goal.returns-in-None
returns-in-None c = first_of_all c.args.widest (lists_of c.args.m) c.in-Ok.ensures c.in-Ok-count_whole.ensures c.in_default.ensures c.in_default-signal_fault.ensures c.in_default-expr_fault.ensures c.in-None.ensures
