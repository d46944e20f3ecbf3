use Rattle.std.proofs.Common.{arith}
use Rattle.simulation.specs.Run.{fired_of, firing}
use Rattle.evaluation.proofs.Committing.{register_inside, control_reset, control_enable, mark_reset, mark_still, mark_next, mark_off}
use Rattle.runner.proofs.Models.{stated_of}
use Rattle.runner.proofs.commit.load_of.Goals as goal

pub control-requires : goal.control-requires
control-requires c = (c.requires.0, control_reset (stated_of c.args.m.now) c.requires.1 c.requires.2)

pub returns-then-control : goal.returns-then-control
returns-then-control c = λ k q b. mark_reset (stated_of c.args.m.now) (firing (fired_of c.args.fired)) c.requires.2 q b c.control.ensures c.if-control.true

pub bounds-m-at : goal.bounds-m-at
bounds-m-at c = omega (arith, register_inside (stated_of c.args.m.now) c.requires.1 c.requires.2)

pub bounds-m-at-2 : goal.bounds-m-at-2
bounds-m-at-2 c = omega (arith, register_inside (stated_of c.args.m.now) c.requires.1 c.requires.2)

pub returns-then-not-fires : goal.returns-then-not-fires
returns-then-not-fires c = λ k q b. mark_still (stated_of c.args.m.now) (firing (fired_of c.args.fired)) c.requires.2 q b c.control.ensures c.if-control.false c.fires.ensures c.if-not-fires.true

pub enable_at-requires : goal.enable_at-requires
enable_at-requires c = register_inside (stated_of c.args.m.now) c.requires.1 c.requires.2

pub control-requires-2 : goal.control-requires-2
control-requires-2 c = (c.requires.0, control_enable (stated_of c.args.m.now) c.requires.1 c.requires.2 c.enable_at.ensures)

pub returns-then-control-2 : goal.returns-then-control-2
returns-then-control-2 c = λ k q b. mark_next (stated_of c.args.m.now) (firing (fired_of c.args.fired)) c.requires.2 q b c.control.ensures c.if-control.false c.fires.ensures c.enable_at.ensures c.control-2.ensures c.if-not-fires.false c.if-control-2.true

pub returns : goal.returns
returns c = λ k q b. mark_off (stated_of c.args.m.now) (firing (fired_of c.args.fired)) c.requires.2 q b c.control.ensures c.if-control.false c.fires.ensures c.enable_at.ensures c.control-2.ensures c.if-control-2.false
