use Rattle.std.proofs.Common.{sym, ap, ◌∙◌}
use Rattle.netlist.specs.declared.fields.Fields.{Fields}
use Rattle.reader.proofs.SectionLaws.{clock_other, clock_single, clock_same, clock_differs}
use Rattle.reader.proofs.sections.one_clock.Goals as goal

pub returns-in_default : goal.returns-in_default
returns-in_default c = clock_other _ _ (λ z. c.in_default.not-BlockRam (c.kind.ensures ∙ z))

pub returns-then-word-eq0 : goal.returns-then-word-eq0
returns-then-word-eq0 c = clock_single _ _ (sym c.kind.ensures ∙ c.in-BlockRam.is) (sym c.word.ensures ∙ c.if-word-eq0.true)

pub returns-then-word : goal.returns-then-word
returns-then-word c =
    let cell = c.args.cell in
    clock_same cell.words.now cell.at (sym c.kind.ensures ∙ c.in-BlockRam.is) _ (ap (λ (f : Fields). f.at) c.second_port-second.ensures) (λ z. c.if-word-eq0.false (c.word.ensures ∙ z)) _ _ c.word-2.ensures (cc) _ _ c.if-word.true c.word-then-word.ensures (cc)

pub returns-else-word : goal.returns-else-word
returns-else-word c =
    let cell = c.args.cell in
    clock_differs cell.words.now cell.at (sym c.kind.ensures ∙ c.in-BlockRam.is) _ (ap (λ (f : Fields). f.at) c.second_port-second.ensures) (λ z. c.if-word-eq0.false (c.word.ensures ∙ z)) _ _ c.word-2.ensures (cc) c.if-word.false
