use Rattle.std.proofs.Common.{◌∙◌, ap, Some, None}
use Rattle.std.proofs.lemmas.Iterator.Consumers.{YieldsList-from_first, nth_from_yields_List}
use Rattle.simulation.specs.Index.{records_in}
use Rattle.recorder.specs.Records.{left}
use Rattle.simulation.proofs.Walking.{width_got}
use Rattle.model_check.proofs.widths.walk_to.Goals as goal

pub returns-in-Some : goal.returns-in-Some
returns-in-Some c =
    let l = c.args.list.now in
    c.word.ensures ∙ width_got l c.args.i (Some c.in-Some.fields.now) (nth_from_yields_List (Some c.in-Some.fields) c.nth.new.self c.args.i c.in-Some.ensures.ran (YieldsList-from_first (λ r. r.now) left (records_in l) (ap records_in c.new.ensures)))

pub returns-in-None : goal.returns-in-None
returns-in-None c =
    let l = c.args.list.now in
    width_got l c.args.i None (nth_from_yields_List None c.nth.new.self c.args.i c.in-None.ensures.ran (YieldsList-from_first (λ r. r.now) left (records_in l) (ap records_in c.new.ensures)))
