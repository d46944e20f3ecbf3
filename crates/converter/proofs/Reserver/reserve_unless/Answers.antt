use Rattle.recorder.specs.Calls.{label_of}
use Rattle.converter.proofs.Reserving.{reserves_none, reserves_as}
use Rattle.converter.proofs.CellSignals.{unless_there, unless_not}
use Rattle.converter.proofs.Reserver.reserve_unless.Goals as goal

pub returns-then-held-ne0 : goal.returns-then-held-ne0
returns-then-held-ne0 c = reserves_as (λ limits p. unless_there c.args.self.now (label_of c.args.label) c.args.owner c.args.wire c.held.ensures c.if-held-ne0.true) reserves_none

pub returns : goal.returns
returns c = reserves_as (λ limits p. unless_not c.args.self.now (label_of c.args.label) c.args.owner c.args.wire c.held.ensures c.if-held-ne0.false) c.reserve_scalar.ensures
