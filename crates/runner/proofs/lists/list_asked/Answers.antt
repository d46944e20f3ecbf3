use Rattle.std.proofs.Common.{arith}
use Rattle.evaluation.proofs.Committing.{fields_inside, register_inside, control_reset, control_enable}
use Rattle.runner.proofs.Listing.{control_asks, asked_none, asked_both}
use Rattle.runner.proofs.Models.{stated_of}
use Rattle.runner.proofs.lists.list_asked.Goals as goal

pub overflow_add-at : goal.overflow_add-at
overflow_add-at c = omega (arith, fields_inside (stated_of c.args.m.now) c.requires.0, c.well_formed)

pub offset_bounds-m-at : goal.offset_bounds-m-at
offset_bounds-m-at c = omega (arith, fields_inside (stated_of c.args.m.now) c.requires.0, c.well_formed)

pub bounds-m-at : goal.bounds-m-at
bounds-m-at c = omega (arith, fields_inside (stated_of c.args.m.now) c.requires.0)

pub returns-then-m-at-ne-REG-clause-listed : goal.returns-then-m-at-ne-REG-clause-listed
returns-then-m-at-ne-REG-clause-listed c = (asked_none (stated_of c.args.m.now) c.requires.4 c.if-m-at-ne-REG.true).1

pub list_control-requires : goal.list_control-requires
list_control-requires c = let f = control_asks c.args.marks.now (control_reset (stated_of c.args.m.now) c.requires.0 c.if-m-at-ne-REG.false) c.requires.3 in (c.requires.1, c.requires.2, c.requires.4, f.0, f.1)

pub enable_at-requires : goal.enable_at-requires
enable_at-requires c = register_inside (stated_of c.args.m.now) c.requires.0 c.if-m-at-ne-REG.false

pub list_control-requires-2 : goal.list_control-requires-2
list_control-requires-2 c =
    let p = c.list_control in
    let f = control_asks p.new.marks (control_enable (stated_of c.args.m.now) c.requires.0 c.if-m-at-ne-REG.false c.enable_at.ensures) (omega (arith, c.requires.3, p.auto.marks)) in
    (omega (arith, c.requires.1, p.auto.order), c.in_ok-a.ensures.few, c.in_ok-a.ensures.listed.0, f.0, f.1)

pub returns-clause-listed : goal.returns-clause-listed
returns-clause-listed c = let p = c.in_ok-a.ensures in let q = c.in_ok-b.ensures in (asked_both (stated_of c.args.m.now) (p.kept, p.listed) c.enable_at.ensures (q.kept, q.listed)).1
