use Rattle.std.proofs.Common.{◌∙◌}
use Rattle.simulation.specs.Model.{lists_of}
use Rattle.runner.specs.Whole.{list_call}
use Rattle.runner.proofs.WholeList.{signals_readable, checked_fault, checked_fine, work_same}
use Rattle.runner.proofs.whole.check_list.Goals as goal

pub list_fault-requires : goal.list_fault-requires
list_fault-requires c = signals_readable (lists_of c.args.m) c.in-None.ensures.fault

pub returns-in-Some-clause-answer : goal.returns-in-Some-clause-answer
returns-in-Some-clause-answer c = let a = c.args in checked_fault (list_call (lists_of a.m) a.list.heads.now a.list.bits.now a.bytes.now a.works.now.bits.now a.works.now.exprs.now a.works.now.signals.now a.answers.now a.shown.now) _ c.in-Some.ensures.fault

pub returns-in-None-clause-answer : goal.returns-in-None-clause-answer
returns-in-None-clause-answer c =
    let a = c.args in
    checked_fine (list_call (lists_of a.m) a.list.heads.now a.list.bits.now a.bytes.now a.works.now.bits.now a.works.now.exprs.now a.works.now.signals.now a.answers.now a.shown.now) c.in-None.ensures.fault
    (c.list_fault.ensures ∙ work_same (lists_of a.m) a.list.heads.now a.list.bits.now a.bytes.now a.works.now.bits.now a.works.now.exprs.now a.works.now.signals.now c.malformed.new.bytes a.answers.now a.shown.now c.malformed.auto.bytes)
