use Rattle.std.proofs.Common.{arith, ap, length, inl}
use Rattle.simulation.specs.Index.{records_in}
use Rattle.recorder.proofs.Left.{records_count}
use Rattle.simulation.proofs.index.count.Goals as goal

pub count-requires-clause-fits : goal.count-requires-clause-fits
count-requires-clause-fits c = inl (omega (arith, records_count c.args.list.now, ap (λ l. length (records_in l)) c.new.ensures, c.well_formed))
