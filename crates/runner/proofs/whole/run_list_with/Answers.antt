use Rattle.std.proofs.Common.{refl}
use Rattle.simulation.specs.Model.{lists_of}
use Rattle.runner.specs.Whole.{list_call}
use Rattle.runner.proofs.WholeList.{checked_none, list_made}
use Rattle.runner.proofs.whole.run_list_with.Goals as goal

pub run_fitting-requires : goal.run_fitting-requires
run_fitting-requires c = let a = c.args in checked_none (list_call (lists_of a.m) a.list.heads.now a.list.bits.now a.bytes.now a.works.now.bits.now a.works.now.exprs.now a.works.now.signals.now a.answers.now a.shown.now) c.check_list.ensures.answer c.in_ok-check_list.was refl c.check_list.ensures.same.bits_long c.check_list.ensures.same.exprs_long c.check_list.ensures.same.signals_long

pub returns-clause-leaves : goal.returns-clause-leaves
returns-clause-leaves c = let a = c.args in list_made (list_call (lists_of a.m) a.list.heads.now a.list.bits.now a.bytes.now a.works.now.bits.now a.works.now.exprs.now a.works.now.signals.now a.answers.now a.shown.now) c.check_list.ensures.answer c.in_ok-check_list.was refl c.run_fitting.ensures.runs refl
