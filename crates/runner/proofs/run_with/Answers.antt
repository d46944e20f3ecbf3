use Rattle.std.proofs.Common.{refl, sym}
use Rattle.std.proofs.lemmas.Result.{err_from_is_err_and}
use Rattle.std.specs.Prelude.{Err}
use Rattle.simulation.specs.Model.{lists_of}
use Rattle.simulation.specs.Run.{fired_of}
use Rattle.simulation.specs.Fault.{call_of}
use Rattle.runner.proofs.Call.{checked_none, answers_refused, answers_tried, same_works}
use Rattle.runner.proofs.run_with.Goals as goal

pub run_checked-requires : goal.run_checked-requires
run_checked-requires c = let a = c.args in let c₀ = call_of (lists_of a.m) a.bytes.now a.ticks.now (fired_of a.fired) a.works.now.bits.now a.works.now.exprs.now a.works.now.signals.now in let k = c.check_call.ensures in same_works c₀ k.kept.bits k.kept.exprs k.zeros (checked_none c₀ (sym c.in_ok-check_call.ensures.answer))

pub returns-in_err-check_call-clause-answers : goal.returns-in_err-check_call-clause-answers
returns-in_err-check_call-clause-answers c = let a = c.args in let p = err_from_is_err_and c.from_residual.result c.from_residual.ensures.1 in rw (p.1, p.2) (answers_refused (call_of (lists_of a.m) a.bytes.now a.ticks.now (fired_of a.fired) a.works.now.bits.now a.works.now.exprs.now a.works.now.signals.now) _ (Err c.in_err-check_call.field-0.0) refl c.in_err-check_call.ensures.answer)

pub returns-clause-answers : goal.returns-clause-answers
returns-clause-answers c = let a = c.args in answers_tried (call_of (lists_of a.m) a.bytes.now a.ticks.now (fired_of a.fired) a.works.now.bits.now a.works.now.exprs.now a.works.now.signals.now) c.in_ok-check_call.ensures.answer c.run_checked.ensures.tries
