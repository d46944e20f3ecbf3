use Rattle.wires.proofs.OnceLaws.{once_as, once_pure, wire_known, wire_new, plain_err, once_noted}
use Rattle.wires.proofs.Emitter.wire_once.Goals as goal

pub returns-then-known-self : goal.returns-then-known-self
returns-then-known-self c = once_as (wire_known _ _ _ _ c.known-known.ensures c.if-known-self.true) once_pure

pub returns-in_err-e : goal.returns-in_err-e
returns-in_err-e c = once_as (wire_new _ _ _ _ c.known-known.ensures c.if-known-self.false) (plain_err _ c.from_residual.result _ c.from_residual.ensures.1 c.in_err-e.ensures _)

pub returns : goal.returns
returns c = once_as (wire_new _ _ _ _ c.known-known.ensures c.if-known-self.false) (once_noted _ _ {e = c.args.self.now} c.args.self.now.begun c.in_ok-e.ensures c.note.ensures)
