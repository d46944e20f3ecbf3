use Rattle.std.proofs.Common.{sym, ◌∙◌}
use Rattle.ordering.proofs.Sorted.{passing_step, passing_end}
use Rattle.ordering.proofs.Fields.{read_count}
use Rattle.simulation.specs.Index.{records_in}
use Rattle.recorder.specs.Read.{read_expr}
use Rattle.runner.proofs.Models.{tabled_of}
use Rattle.runner.proofs.sort.sort_pass.Goals as goal

pub loop-e-preserved : goal.loop-e-preserved
loop-e-preserved c = passing_step c.loop-e.invariant c.loop-e-test.true c.requires.0 c.sort_one-count.ensures

pub returns : goal.returns
returns c = passing_end c.loop-e.invariant (c.args.m.now.expr_counted ∙ sym (read_count read_expr (records_in c.args.m.now.exprs.now) (tabled_of c.args.m.now).readable)) c.loop-e-test.false
