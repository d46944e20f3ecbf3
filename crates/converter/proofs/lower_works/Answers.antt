use Rattle.std.proofs.Common.{sym, ◌∙◌, refl}
use Rattle.recorder.specs.Lists.{lists}
use Rattle.converter.proofs.Calls.{works_short, works_done, keeps_err, keeps_ok}
use Rattle.converter.proofs.lower_works.Goals as goal

pub returns-then-short_work-clause-wrote : goal.returns-then-short_work-clause-wrote
returns-then-short_work-clause-wrote c = works_short _ _ _ _ _ c.args.buffers.now (record { first = c.fill.ensures.after (λ y p. p); second = c.fill-2.ensures.after (λ y p. p); third = c.fill-3.ensures.after (λ y p. p) }) c.short_work.ensures c.if-short_work.true

pub returns-then-is_err-clause-wrote : goal.returns-then-is_err-clause-wrote
returns-then-is_err-clause-wrote c =
    works_done _ _ _ _ _ c.args.buffers.now (record { first = c.fill.ensures.after (λ y p. p); second = c.fill-2.ensures.after (λ y p. p); third = c.fill-3.ensures.after (λ y p. p) }) c.short_work.ensures c.if-short_work.false (record { first = c.fill-4.ensures.after (λ y p. p); second = c.fill-5.ensures.after (λ y p. p) }) (refl, refl, refl) c.lower_checked-r.new.signals c.lower_checked-r.new.exprs c.lower_checked-r.new.stmts c.lower_checked-r.ensures.wrote c.lower_checked-r.auto.signals c.lower_checked-r.auto.exprs c.lower_checked-r.auto.stmts
    (keeps_err c.lower_checked-r.result (sym c.is_err.ensures.value ∙ c.if-is_err.true) (lists c.lower_checked-r.new.signals c.lower_checked-r.new.exprs c.lower_checked-r.new.stmts) (λ i. lists (c.fill-then-is_err.ensures.after (λ y p. p) i) (c.fill-then-is_err-2.ensures.after (λ y p. p) i) (c.fill-then-is_err-3.ensures.after (λ y p. p) i)))

pub returns-else-is_err-clause-wrote : goal.returns-else-is_err-clause-wrote
returns-else-is_err-clause-wrote c =
    works_done _ _ _ _ _ c.args.buffers.now (record { first = c.fill.ensures.after (λ y p. p); second = c.fill-2.ensures.after (λ y p. p); third = c.fill-3.ensures.after (λ y p. p) }) c.short_work.ensures c.if-short_work.false (record { first = c.fill-4.ensures.after (λ y p. p); second = c.fill-5.ensures.after (λ y p. p) }) (refl, refl, refl) c.lower_checked-r.new.signals c.lower_checked-r.new.exprs c.lower_checked-r.new.stmts c.lower_checked-r.ensures.wrote c.lower_checked-r.auto.signals c.lower_checked-r.auto.exprs c.lower_checked-r.auto.stmts
    (keeps_ok c.lower_checked-r.result (sym c.is_err.ensures.value ∙ c.if-is_err.false) (lists c.lower_checked-r.new.signals c.lower_checked-r.new.exprs c.lower_checked-r.new.stmts) _)
