use Rattle.recorder.specs.Words.{raw_of}
use Rattle.simulation.specs.Model.{lists_of}
use Rattle.simulation.specs.Wellformed.{largest}
use Rattle.simulation.proofs.Sound.{signals_read}
use Rattle.runner.proofs.tables.CheckedModel.new.Goals as goal

pub ports_end-requires : goal.ports_end-requires
ports_end-requires c = record { readable = signals_read largest (raw_of (lists_of c.args.m)) c.requires.0 }
