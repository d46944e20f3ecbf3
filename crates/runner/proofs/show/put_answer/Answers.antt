use Rattle.std.proofs.Common.{ℕ, [], ◌∷◌, sym, ap, ap₂, ◌∙◌}
use Rattle.simulation.specs.Run.{Ran}
use Rattle.simulation.specs.Run.{answer_of}
use Rattle.recorder.specs.Lists.{over}
use Rattle.runner.specs.Calls.{answer_words}
use Rattle.runner.proofs.Showing.{over_two}
use Rattle.runner.proofs.show.put_answer.Goals as goal

pub returns-in-Ok : goal.returns-in-Ok
returns-in-Ok c = over_two c.args.answers.now c.args.at 0 0 ∙ ap (λ (r : Ran). over c.args.answers.now c.args.at (answer_words (answer_of r))) (sym c.in-Ok.is)

pub returns-in-Err : goal.returns-in-Err
returns-in-Err c = over_two c.args.answers.now c.args.at c.number.result c.place.result ∙ ap₂ (λ (a b : ℕ). over c.args.answers.now c.args.at (a ∷ b ∷ [])) c.number.ensures c.place.ensures ∙ ap (λ (r : Ran). over c.args.answers.now c.args.at (answer_words (answer_of r))) (sym c.in-Err.is)
