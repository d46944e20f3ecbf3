use Rattle.std.proofs.Common.{arith, refl}
use Rattle.evaluation.proofs.Committing.{fields_inside, register_inside, value_read, target_marked, loaded_other, loaded_next, loaded_none, loaded_absent, loaded_reset}
use Rattle.runner.proofs.commit.loaded.Goals as goal

pub overflow_add-at : goal.overflow_add-at
overflow_add-at c = record { fits = omega (arith, c.well_formed, fields_inside c.requires.1.stated c.requires.0) }

pub offset_bounds-stmts-at : goal.offset_bounds-stmts-at
offset_bounds-stmts-at c = record { fits = omega (arith, c.well_formed, fields_inside c.requires.1.stated c.requires.0) }

pub bounds-stmts-at : goal.bounds-stmts-at
bounds-stmts-at c = omega (arith, fields_inside c.requires.1.stated c.requires.0)

pub returns-then-stmts-at-ne-REG : goal.returns-then-stmts-at-ne-REG
returns-then-stmts-at-ne-REG c = λ k q b. loaded_other c.requires.1.stated c.args.marks.now q b c.if-stmts-at-ne-REG.true

pub bounds-stmts-at-2 : goal.bounds-stmts-at-2
bounds-stmts-at-2 c = omega (arith, fields_inside c.requires.1.stated c.requires.0)

pub bounds-marks-wide : goal.bounds-marks-wide
bounds-marks-wide c = omega (arith, c.wide.ensures, target_marked c.requires.1.stated c.requires.0 c.requires.1.room)

pub bounds-stmts-at-then-mark-eq-NEXT : goal.bounds-stmts-at-then-mark-eq-NEXT
bounds-stmts-at-then-mark-eq-NEXT c = fields_inside c.requires.1.stated c.requires.0

pub returns-then-mark-eq-NEXT : goal.returns-then-mark-eq-NEXT
returns-then-mark-eq-NEXT c = λ k q b. loaded_next c.requires.1.stated c.args.marks.now q b c.if-stmts-at-ne-REG.false c.wide.ensures refl c.if-mark-eq-NEXT.true

pub returns-then-mark-ne-RESET : goal.returns-then-mark-ne-RESET
returns-then-mark-ne-RESET c = λ k q b. loaded_none c.requires.1.stated c.args.marks.now q b c.if-stmts-at-ne-REG.false c.wide.ensures refl c.if-mark-eq-NEXT.false c.if-mark-ne-RESET.true

pub bounds-stmts-at-3 : goal.bounds-stmts-at-3
bounds-stmts-at-3 c = omega (arith, register_inside c.requires.1.stated c.requires.0 c.if-stmts-at-ne-REG.false)

pub returns-then-stmts-at-eq0 : goal.returns-then-stmts-at-eq0
returns-then-stmts-at-eq0 c = λ k q b. loaded_absent c.requires.1.stated c.args.marks.now q b c.if-stmts-at-ne-REG.false c.wide.ensures refl c.if-mark-ne-RESET.false c.if-stmts-at-eq0.true

pub bounds-stmts-at-4 : goal.bounds-stmts-at-4
bounds-stmts-at-4 c = value_read c.requires.1.stated c.requires.0 c.if-stmts-at-ne-REG.false c.if-stmts-at-eq0.false

pub returns : goal.returns
returns c = λ k q b. loaded_reset c.requires.1.stated c.args.marks.now q b c.if-stmts-at-ne-REG.false c.wide.ensures refl c.if-mark-ne-RESET.false c.if-stmts-at-eq0.false
