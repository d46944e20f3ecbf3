use Rattle.std.proofs.Common.{sym, ◌∙◌, arith}
use Rattle.converter.proofs.Keys.{join_none, fit, clock_is, bank_small, join_there, join_new, joined_as}
use Rattle.converter.proofs.collect.join_bank.Goals.{then-bank-count, else-bank-count}
use Rattle.converter.proofs.collect.join_bank.Goals as goal

pub returns-in_default : goal.returns-in_default
returns-in_default c = λ limits ls c' small fits keyed p q s. join_none c.args.cell.words.now c.args.cell.at (λ e. c.in_default.not-FlipFlop (c.kind.ensures ∙ e)) limits ls c' c.args.parts.now c.args.values.now c.args.count keyed

pub returns-then-bank : goal.returns-then-bank
returns-then-bank c = λ limits ls c' small fits keyed p q s.
    let words = c.args.cell.words.now in
    let at = c.args.cell.at in
    let flop = sym c.kind.ensures ∙ c.in-FlipFlop.is in
    absurd (omega (arith, bank_small words at flop limits small fits ls c' c.args.parts.now c.args.values.now c.args.count keyed (clock_is words at flop limits small fits c.word.ensures c.word-2.ensures c.key-a.ensures) (c.reset_key-b.ensures.is limits small (fit words at flop limits small fits)) c.find_key-bank.ensures, s, c.if-bank.true))

pub returns : goal.returns
returns c = λ limits ls c' small fits keyed p q s.
    let words = c.args.cell.words.now in
    let at = c.args.cell.at in
    let flop = sym c.kind.ensures ∙ c.in-FlipFlop.is in
    let clock = clock_is words at flop limits small fits c.word.ensures c.word-2.ensures c.key-a.ensures in
    let reset = c.reset_key-b.ensures.is limits small (fit words at flop limits small fits) in
    elim c.if-bank-count.branch [
      | then-bank-count w ↦
          let h = join_new words at flop limits small fits ls c' c.args.parts.now c.args.values.now c.args.count keyed clock reset c.find_key-bank.ensures w.if-bank-count.true p q in
          joined_as (w.parts-is ∙ w.store.ensures) (w.values-is ∙ w.store-then-bank-count.ensures) h
      | else-bank-count w ↦
          let h = join_there words at flop limits small fits ls c' c.args.parts.now c.args.values.now c.args.count keyed clock reset c.find_key-bank.ensures w.if-bank-count.false in
          joined_as w.parts-is w.values-is h
    ]
