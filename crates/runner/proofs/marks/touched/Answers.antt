use Rattle.std.proofs.Common.{arith, ℕ, ◌+◌, ◌-◌, take, drop, sym, ap, ◌∙◌, false}
use Rattle.ordering.specs.Words.{driver_marked}
use Rattle.ordering.specs.Marks.{marked}
use Rattle.settle.specs.Tests.{any}
use Rattle.ordering.proofs.Fields.{kind_inside, read_inside, word_least, operands_inside, touched_none, touched_read, touched_driver, touched_operands}
use Rattle.runner.proofs.Models.{tabled_of}
use Rattle.runner.proofs.marks.touched.Goals as goal

pub overflow_add-kind : goal.overflow_add-kind
overflow_add-kind c = omega (arith, kind_inside c.args.m.now.exprs.now c.args.m.now.stmts.now (tabled_of c.args.m.now).readable c.args.e c.requires c.start-at.result c.start-at.ensures)

pub offset_bounds-m-at : goal.offset_bounds-m-at
offset_bounds-m-at c = omega (arith, kind_inside c.args.m.now.exprs.now c.args.m.now.stmts.now (tabled_of c.args.m.now).readable c.args.e c.requires c.start-at.result c.start-at.ensures)

pub bounds-m-at : goal.bounds-m-at
bounds-m-at c = kind_inside c.args.m.now.exprs.now c.args.m.now.stmts.now (tabled_of c.args.m.now).readable c.args.e c.requires c.start-at.result c.start-at.ensures

pub bounds-m-at-then-kind-eq-READ : goal.bounds-m-at-then-kind-eq-READ
bounds-m-at-then-kind-eq-READ c = read_inside c.args.m.now.exprs.now c.args.m.now.stmts.now (tabled_of c.args.m.now).readable c.args.e c.requires c.start-at.result c.start-at.ensures c.if-kind-eq-READ.true

pub overflow_sub-wide : goal.overflow_sub-wide
overflow_sub-wide c = omega (arith, word_least c.args.m.now.exprs.now c.args.m.now.stmts.now (tabled_of c.args.m.now).readable c.args.e c.requires c.start-at.result c.start-at.ensures, c.wide.ensures)

pub any_marked-requires : goal.any_marked-requires
any_marked-requires c = omega (arith, operands_inside c.args.m.now.exprs.now c.args.m.now.stmts.now (tabled_of c.args.m.now).readable c.args.e c.requires c.start-at.result c.start-at.ensures, c.wide.ensures)

pub returns-then-kind-eq-CONST : goal.returns-then-kind-eq-CONST
returns-then-kind-eq-CONST c = touched_none c.args.m.now.exprs.now c.args.m.now.stmts.now (tabled_of c.args.m.now).readable c.args.e c.requires c.start-at.result c.start-at.ensures c.args.marks.now c.args.s c.if-kind-eq-CONST.true

pub returns-then-y-s : goal.returns-then-y-s
returns-then-y-s c = touched_read c.args.m.now.exprs.now c.args.m.now.stmts.now (tabled_of c.args.m.now).readable c.args.e c.requires c.start-at.result c.start-at.ensures c.args.marks.now c.args.s c.if-kind-eq-READ.true (sym c.wide-y.ensures ∙ c.if-y-s.true)

pub returns-then-kind-eq-READ : goal.returns-then-kind-eq-READ
returns-then-kind-eq-READ c = touched_driver c.args.m.now.exprs.now c.args.m.now.stmts.now (tabled_of c.args.m.now).readable c.args.e c.requires c.start-at.result c.start-at.ensures c.args.marks.now c.args.s c.if-kind-eq-READ.true (λ z. c.if-y-s.false (c.wide-y.ensures ∙ z)) (c.driver_marked.ensures ∙ ap (λ (y : ℕ). driver_marked c.args.m.now.stmts.now c.args.marks.now y false) c.wide-y.ensures)

pub returns : goal.returns
returns c = touched_operands c.args.m.now.exprs.now c.args.m.now.stmts.now (tabled_of c.args.m.now).readable c.args.e c.requires c.start-at.result c.start-at.ensures c.args.marks.now c.args.s c.if-kind-eq-CONST.false c.if-kind-eq-READ.false (c.any_marked.ensures ∙ ap (λ (k : ℕ). any (marked c.args.marks.now) (take (k - 3) (drop (c.start-at.result + 3) c.args.m.now.exprs.now))) c.wide.ensures)
