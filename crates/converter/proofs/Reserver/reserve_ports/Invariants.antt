use Rattle.converter.proofs.Rows.{PortsLoop, PortIs}
use Rattle.converter.proofs.Reserver.reserve_ports.Given as goal

abbrev pub invariant-loop-p : goal.invariant-loop-p
invariant-loop-p l = PortsLoop l.ports.words.now l.ports.at l.n l.fn.self l.self l.p × PortIs l.ports.words.now l.ports.at l.n l.fn.self l.p l.port
