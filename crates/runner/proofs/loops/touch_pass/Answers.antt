use Rattle.std.proofs.Common.{refl, sym, ◌∙◌}
use Rattle.ordering.proofs.Touching.{touching_step, touching_end}
use Rattle.ordering.proofs.Fields.{read_count}
use Rattle.simulation.specs.Index.{records_in}
use Rattle.recorder.specs.Read.{read_expr}
use Rattle.runner.proofs.Models.{tabled_of, faultless_of}
use Rattle.runner.proofs.loops.touch_pass.Goals as goal

pub loop-e-preserved : goal.loop-e-preserved
loop-e-preserved c = touching_step (faultless_of c.args.m.now).widest (faultless_of c.args.m.now).sound (c.args.m.now.expr_counted ∙ sym (read_count read_expr (records_in c.args.m.now.exprs.now) (tabled_of c.args.m.now).readable)) c.requires.0 c.loop-e.invariant c.loop-e-test.true c.touch_one-found.ensures.found c.touch_one-found.ensures.marks_are refl

pub returns : goal.returns
returns c = touching_end c.loop-e.invariant (c.args.m.now.expr_counted ∙ sym (read_count read_expr (records_in c.args.m.now.exprs.now) (tabled_of c.args.m.now).readable)) c.loop-e-test.false
