use Rattle.std.proofs.Common.{sym, ◌∙◌, arith}
use Rattle.reader.proofs.SectionLaws.{answers}
use Rattle.reader.proofs.check.Goals as goal

pub returns : goal.returns
returns c =
    let a = c.args in
    answers a.limits a.words.now c.in-Some.end _ _ _ _ (grind arith) c.word-4.ensures c.word.ensures c.word-2.ensures c.word-3.ensures (sym c.trailer_fits.ensures ∙ c.if-not-trailer_fits.false) _ c.check_sections.ensures
