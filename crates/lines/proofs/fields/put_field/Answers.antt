use Rattle.std.proofs.Common.{rules, tests, ◌≡◌, ◌∷◌}
use Rattle.text.proofs.Appending.{then_text, then_full, appended_as}
use Rattle.text.specs.Decimal.{decimal}
use Rattle.lines.specs.Lines.{field}
use Rattle.lines.proofs.fields.put_field.Goals as goal

pub returns-then-mark-eq45 : goal.returns-then-mark-eq45
unfolding field
returns-then-mark-eq45 c = search (rules, tests)

pub returns-in_err-put_byte : goal.returns-in_err-put_byte
unfolding field
returns-in_err-put_byte c =
    let e : 32 ∷ c.args.mark ∷ decimal c.args.n ≡ field c.args.mark c.args.n = search (rules, tests) in
    appended_as e (then_full (c.args.mark ∷ decimal c.args.n) c.in_err-put_byte.ensures c.from_residual.ensures.0)

pub returns-in_ok-put_byte : goal.returns-in_ok-put_byte
unfolding field
returns-in_ok-put_byte c =
    let e : 32 ∷ c.args.mark ∷ decimal c.args.n ≡ field c.args.mark c.args.n = search (rules, tests) in
    appended_as e (then_text c.in_ok-put_byte.ensures c.put_marked-else-mark-eq45.ensures)
