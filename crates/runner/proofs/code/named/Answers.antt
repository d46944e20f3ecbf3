use Rattle.std.proofs.Common.{arith}
use Rattle.coding.proofs.Emitting.{is_marked, named_other, named_plain, named_reset}
use Rattle.evaluation.proofs.Committing.{fields_inside, register_inside, value_read}
use Rattle.runner.proofs.Models.{stated_of}
use Rattle.runner.proofs.code.named.Goals as goal

pub overflow_add-at : goal.overflow_add-at
overflow_add-at c = omega (arith, fields_inside (stated_of c.args.m.now) c.requires)

pub offset_bounds-m-at : goal.offset_bounds-m-at
offset_bounds-m-at c = omega (arith, fields_inside (stated_of c.args.m.now) c.requires)

pub bounds-m-at : goal.bounds-m-at
bounds-m-at c = fields_inside (stated_of c.args.m.now) c.requires

pub overflow_add-at-2 : goal.overflow_add-at-2
overflow_add-at-2 c = omega (arith, fields_inside (stated_of c.args.m.now) c.requires)

pub offset_bounds-m-at-2 : goal.offset_bounds-m-at-2
offset_bounds-m-at-2 c = omega (arith, fields_inside (stated_of c.args.m.now) c.requires)

pub bounds-m-at-2 : goal.bounds-m-at-2
bounds-m-at-2 c = omega (arith, fields_inside (stated_of c.args.m.now) c.requires)

pub returns-then-m-at-ne-REG : goal.returns-then-m-at-ne-REG
returns-then-m-at-ne-REG c = λ z k q b x h. named_other (stated_of c.args.m.now) c.args.marks.now (is_marked c.args.marks.now c.is_marked.ensures c.wide.ensures c.if-not-is_marked.false) q b x h c.if-m-at-ne-REG.true

pub bounds-m-at-3 : goal.bounds-m-at-3
bounds-m-at-3 c = omega (arith, register_inside (stated_of c.args.m.now) c.requires c.if-m-at-ne-REG.false)

pub returns-then-m-at-eq0 : goal.returns-then-m-at-eq0
returns-then-m-at-eq0 c = λ z k q b x h. named_plain (stated_of c.args.m.now) c.args.marks.now (is_marked c.args.marks.now c.is_marked.ensures c.wide.ensures c.if-not-is_marked.false) q b x h c.if-m-at-eq0.true

pub bounds-m-at-4 : goal.bounds-m-at-4
bounds-m-at-4 c = value_read (stated_of c.args.m.now) c.requires c.if-m-at-ne-REG.false c.if-m-at-eq0.false

pub returns : goal.returns
returns c = λ z k q b x h. named_reset (stated_of c.args.m.now) c.args.marks.now (is_marked c.args.marks.now c.is_marked.ensures c.wide.ensures c.if-not-is_marked.false) q b x h (is_marked c.args.marks.now c.is_marked-2.ensures c.wide-2.ensures z)
