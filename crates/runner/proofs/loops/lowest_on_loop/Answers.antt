use Rattle.std.proofs.Common.{arith}
use Rattle.ordering.proofs.Touching.{lowest_found, none_found}
use Rattle.runner.proofs.Models.{faultless_of, counted_of}
use Rattle.runner.proofs.loops.lowest_on_loop.Goals as goal

pub returns-then-on_loop : goal.returns-then-on_loop
returns-then-on_loop c = lowest_found (faultless_of c.args.m.now).widest (faultless_of c.args.m.now).sound c.loop-s.invariant.0 (omega (arith, counted_of c.args.m.now)) c.on_loop.ensures c.if-on_loop.true

pub returns : goal.returns
returns c = none_found (faultless_of c.args.m.now).widest (faultless_of c.args.m.now).sound c.loop-s.invariant.0 (omega (arith, counted_of c.args.m.now))
