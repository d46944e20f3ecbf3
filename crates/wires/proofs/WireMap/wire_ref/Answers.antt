use Rattle.wires.proofs.Laws.{wire_missing, wire_held}
use Rattle.wires.proofs.WireMap.wire_ref.Goals as goal

pub returns-then-signal-eq0 : goal.returns-then-signal-eq0
returns-then-signal-eq0 c = wire_missing _ _ _ c.word-signal.ensures c.if-signal-eq0.true

pub returns : goal.returns
returns c = wire_held _ _ _ c.word-signal.ensures c.word-place.ensures c.if-signal-eq0.false
