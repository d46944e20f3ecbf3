use Rattle.std.proofs.Common.{sym, ◌∙◌, ◌≡◌, true}
use Rattle.fusing.specs.Join.{among}
use Rattle.std.proofs.Common.{get_or}
use Rattle.fusing.proofs.Joining.{covers_flat, covers_all, not_both}
use Rattle.fusing.proofs.join.covers.Goals as goal
use Rattle.fusing.proofs.join.covers.Goals.{then-has, else-has, then-has-2, else-has-2}

pub returns-then-flat : goal.returns-then-flat
returns-then-flat c = λ z. covers_flat _ _ (sym c.flat.ensures ∙ c.if-flat.true)

pub returns-then-has-3 : goal.returns-then-has-3
returns-then-has-3 c =
    let third : (among c.args.s (get_or c.args.v.inputs 2 0) ≡ true) × (c.if-has.value ≡ true) = elim c.if-has-2.branch [ then-has-2 w ↦ (sym (sym c.if-has-3.true ∙ w.value-is ∙ w.has-then-has-2.ensures), w.if-has-2.true) | else-has-2 w ↦ absurd (not_both c.if-has-2.value c.if-has-3.true (w.value-is ∙ w.if-has-2.false)) ] in
    let second : (among c.args.s (get_or c.args.v.inputs 1 0) ≡ true) × (c.has.result ≡ true) = elim c.if-has.branch [ then-has w ↦ (sym (sym third.1 ∙ w.value-is ∙ w.has-then-has.ensures), w.if-has.true) | else-has w ↦ absurd (not_both c.if-has.value third.1 (w.value-is ∙ w.if-has.false)) ] in
    λ z. covers_all _ _ (sym c.has.ensures ∙ second.1) second.0 third.0 (sym c.has-then-has-3.ensures ∙ z)
