use Rattle.std.proofs.Common.{arith, ◌∙◌}
use Rattle.wires.proofs.Laws.{roomy_yes, roomy_no, concat_one, concat_more}
use Rattle.recorder.proofs.Calls.{writes_as, writes_pure, writes_refuse}
use Rattle.wires.proofs.expressions.concat_parts.Goals as goal

pub returns-then-parts-end : goal.returns-then-parts-end
returns-then-parts-end c = writes_as (roomy_no c.args.n c.args.parts.now _ c.if-parts-end.true) writes_refuse

pub returns-then-end-eq1 : goal.returns-then-end-eq1
returns-then-end-eq1 c = writes_as (roomy_yes c.args.n c.args.parts.now _ c.if-parts-end.false ∙ concat_one c.args.parts.now c.if-end-eq1.true (omega arith)) writes_pure

pub returns : goal.returns
returns c = writes_as (roomy_yes c.args.n c.args.parts.now _ c.if-parts-end.false ∙ concat_more c.args.parts.now c.args.n c.if-parts-end.false c.if-end-eq1.false) c.concat.ensures
