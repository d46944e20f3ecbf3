use Rattle.std.proofs.Common.{◌∙◌}
use Rattle.simulation.proofs.Calls.{work_same, checked_fault, checked_fine}
use Rattle.simulation.specs.Fault.{call_of}
use Rattle.simulation.specs.Run.{fired_of}
use Rattle.simulation.specs.Model.{lists_of}
use Rattle.model_check.proofs.call.check_call.Goals as goal

pub returns-in-Some-clause-answer : goal.returns-in-Some-clause-answer
returns-in-Some-clause-answer c = checked_fault c.args.widest (call_of (lists_of c.args.m) c.args.bytes.now c.args.ticks.now (fired_of c.args.fired) c.args.work_bits.now c.args.work_exprs.now c.args.work_signals.now) _ c.in-Some.ensures.fault

pub returns-in-None-clause-answer : goal.returns-in-None-clause-answer
returns-in-None-clause-answer c = checked_fine c.args.widest (call_of (lists_of c.args.m) c.args.bytes.now c.args.ticks.now (fired_of c.args.fired) c.args.work_bits.now c.args.work_exprs.now c.args.work_signals.now) c.in-None.ensures.fault (c.call_fault.ensures ∙ work_same (lists_of c.args.m) c.args.bytes.now c.args.ticks.now (fired_of c.args.fired) c.args.work_bits.now c.args.work_exprs.now c.args.work_signals.now c.malformed.new.bytes c.malformed.auto.bytes)
