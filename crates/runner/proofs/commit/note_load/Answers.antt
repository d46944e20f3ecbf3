use Rattle.std.proofs.Common.{arith}
use Rattle.simulation.specs.Run.{fired_of, firing}
use Rattle.evaluation.proofs.Committing.{fields_inside, target_marked, notes_none, notes_set}
use Rattle.runner.proofs.Models.{stated_of}
use Rattle.runner.proofs.commit.note_load.Goals as goal

pub overflow_add-at : goal.overflow_add-at
overflow_add-at c = record { fits = omega (arith, c.well_formed, fields_inside (stated_of c.args.m.now) c.requires.1) }

pub offset_bounds-m-at : goal.offset_bounds-m-at
offset_bounds-m-at c = record { fits = omega (arith, c.well_formed, fields_inside (stated_of c.args.m.now) c.requires.1) }

pub bounds-m-at : goal.bounds-m-at
bounds-m-at c = omega (arith, fields_inside (stated_of c.args.m.now) c.requires.1)

pub returns-then-m-at-ne-REG : goal.returns-then-m-at-ne-REG
returns-then-m-at-ne-REG c = λ k q b. notes_none (stated_of c.args.m.now) (firing (fired_of c.args.fired)) q b c.if-m-at-ne-REG.true

pub bounds-m-at-2 : goal.bounds-m-at-2
bounds-m-at-2 c = omega (arith, fields_inside (stated_of c.args.m.now) c.requires.1)

pub bounds-marks-t : goal.bounds-marks-t
bounds-marks-t c = omega (arith, c.wide-t.ensures, target_marked (stated_of c.args.m.now) c.requires.1 c.requires.2)

pub returns : goal.returns
returns c = λ k q b. notes_set (stated_of c.args.m.now) (firing (fired_of c.args.fired)) q b c.load_of.result c.wide-t.ensures c.requires.2 (c.load_of.ensures k q b)
