use Rattle.std.proofs.Common.{arith, ℕ, ◌+◌, ◌-◌, take, drop, ap, ◌∙◌, true}
use Rattle.ordering.specs.Words.{driver_marked}
use Rattle.ordering.specs.Marks.{marked}
use Rattle.settle.specs.Tests.{all}
use Rattle.ordering.proofs.Fields.{kind_inside, read_inside, word_least, operands_inside, ready_none, ready_driver, ready_operands}
use Rattle.runner.proofs.Models.{tabled_of}
use Rattle.runner.proofs.marks.ready.Goals as goal

pub overflow_add-kind : goal.overflow_add-kind
overflow_add-kind c = omega (arith, kind_inside c.args.m.now.exprs.now c.args.m.now.stmts.now (tabled_of c.args.m.now).readable c.args.e c.requires c.start-at.result c.start-at.ensures)

pub offset_bounds-m-at : goal.offset_bounds-m-at
offset_bounds-m-at c = omega (arith, kind_inside c.args.m.now.exprs.now c.args.m.now.stmts.now (tabled_of c.args.m.now).readable c.args.e c.requires c.start-at.result c.start-at.ensures)

pub bounds-m-at : goal.bounds-m-at
bounds-m-at c = kind_inside c.args.m.now.exprs.now c.args.m.now.stmts.now (tabled_of c.args.m.now).readable c.args.e c.requires c.start-at.result c.start-at.ensures

pub bounds-m-at-then-kind-eq-READ : goal.bounds-m-at-then-kind-eq-READ
bounds-m-at-then-kind-eq-READ c = read_inside c.args.m.now.exprs.now c.args.m.now.stmts.now (tabled_of c.args.m.now).readable c.args.e c.requires c.start-at.result c.start-at.ensures c.if-kind-eq-READ.true

pub overflow_sub-wide : goal.overflow_sub-wide
overflow_sub-wide c = omega (arith, word_least c.args.m.now.exprs.now c.args.m.now.stmts.now (tabled_of c.args.m.now).readable c.args.e c.requires c.start-at.result c.start-at.ensures, c.wide-2.ensures)

pub all_marked-requires : goal.all_marked-requires
all_marked-requires c = omega (arith, operands_inside c.args.m.now.exprs.now c.args.m.now.stmts.now (tabled_of c.args.m.now).readable c.args.e c.requires c.start-at.result c.start-at.ensures, c.wide-2.ensures)

pub returns-then-kind-eq-CONST : goal.returns-then-kind-eq-CONST
returns-then-kind-eq-CONST c = ready_none c.args.m.now.exprs.now c.args.m.now.stmts.now (tabled_of c.args.m.now).readable c.args.e c.requires c.start-at.result c.start-at.ensures c.args.marks.now c.if-kind-eq-CONST.true

pub returns-then-kind-eq-READ : goal.returns-then-kind-eq-READ
returns-then-kind-eq-READ c = ready_driver c.args.m.now.exprs.now c.args.m.now.stmts.now (tabled_of c.args.m.now).readable c.args.e c.requires c.start-at.result c.start-at.ensures c.args.marks.now c.if-kind-eq-READ.true (c.driver_marked.ensures ∙ ap (λ (y : ℕ). driver_marked c.args.m.now.stmts.now c.args.marks.now y true) c.wide.ensures)

pub returns : goal.returns
returns c = ready_operands c.args.m.now.exprs.now c.args.m.now.stmts.now (tabled_of c.args.m.now).readable c.args.e c.requires c.start-at.result c.start-at.ensures c.args.marks.now c.if-kind-eq-CONST.false c.if-kind-eq-READ.false (c.all_marked.ensures ∙ ap (λ (k : ℕ). all (marked c.args.marks.now) (take (k - 3) (drop (c.start-at.result + 3) c.args.m.now.exprs.now))) c.wide-2.ensures)
