use Rattle.std.proofs.Common.{arith}
use Rattle.evaluation.proofs.Committing.{fields_inside, stated, load_asks, load_stored}
use Rattle.runner.proofs.Models.{prepared_of}
use Rattle.runner.proofs.commit.store_load.Goals as goal

pub loaded-requires : goal.loaded-requires
loaded-requires c = (c.requires.2, record { signals = c.args.m.now.signals.now; stated = stated (prepared_of c.args.m.now); room = c.requires.1 })

pub overflow_add-at : goal.overflow_add-at
overflow_add-at c = record { fits = omega (arith, c.well_formed, fields_inside (stated (prepared_of c.args.m.now)) c.requires.2) }

pub offset_bounds-m-at : goal.offset_bounds-m-at
offset_bounds-m-at c = record { fits = omega (arith, c.well_formed, fields_inside (stated (prepared_of c.args.m.now)) c.requires.2) }

pub bounds-m-at : goal.bounds-m-at
bounds-m-at c = omega (arith, fields_inside (stated (prepared_of c.args.m.now)) c.requires.2)

pub store-requires : goal.store-requires
store-requires c = let z = load_asks (prepared_of c.args.m.now) c.args.marks.now _ c.requires.2 c.in-Some.ensures c.requires.0 c.wide.ensures c.wide-in-Some.ensures in (z.2, z.3, z.4, z.5)

pub returns-in-Some : goal.returns-in-Some
returns-in-Some c = λ k q b. load_stored (prepared_of c.args.m.now) q b (c.in-Some.ensures k q b) c.wide.ensures c.wide-in-Some.ensures c.store.ensures
