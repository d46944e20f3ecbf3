use Rattle.std.proofs.Common.{refl, ap, sym, ◌+◌}
use Rattle.wires.proofs.OnceLaws.{once_then, once_err}
use Rattle.wires.proofs.OnMap.{map_on}
use Rattle.netlist.specs.Fields.{bits_at}
use Rattle.memories.specs.Rams.{first_exprs}
use Rattle.memories.proofs.PortLaws.{address_on, data_on, gate_on, port_last}
use Rattle.memories.proofs.ports.first_port.Goals as goal

pub returns-in_err-writes-clause-wrote : goal.returns-in_err-writes-clause-wrote
unfolding first_exprs
returns-in_err-writes-clause-wrote c =
    (once_err _ c.from_residual.result _ c.from_residual.ensures.1 (address_on refl _ c.args.shift c.args.address c.requires.0 c.in_err-writes.ensures) _)

pub returns-in_err-reads-clause-wrote : goal.returns-in_err-reads-clause-wrote
unfolding first_exprs
returns-in_err-reads-clause-wrote c =
    let q1 = map_on refl c.in_ok-writes.ensures.same in
    (once_then (address_on refl _ c.args.shift c.args.address c.requires.0 c.in_ok-writes.ensures) _
    (once_err _ c.from_residual-in_err-reads.result _ c.from_residual-in_err-reads.ensures.1 (address_on q1 _ c.args.shift c.args.address c.requires.0 c.in_err-reads.ensures) _))

pub returns-in_err-data-clause-wrote : goal.returns-in_err-data-clause-wrote
unfolding first_exprs
returns-in_err-data-clause-wrote c =
    let q1 = map_on refl c.in_ok-writes.ensures.same in
    let q2 = map_on q1 c.in_ok-reads.ensures.same in
    (once_then (address_on refl _ c.args.shift c.args.address c.requires.0 c.in_ok-writes.ensures) _
    (once_then (address_on q1 _ c.args.shift c.args.address c.requires.0 c.in_ok-reads.ensures) _
    (once_err _ c.from_residual-in_err-data.result _ c.from_residual-in_err-data.ensures.1 (data_on q2 (ap (bits_at c.args.fields.words.now (c.args.fields.at + 43)) (sym c.word-width.ensures)) c.in_err-data.ensures) _)))

pub returns-in_err-gate-clause-wrote : goal.returns-in_err-gate-clause-wrote
unfolding first_exprs
returns-in_err-gate-clause-wrote c =
    let q1 = map_on refl c.in_ok-writes.ensures.same in
    let q2 = map_on q1 c.in_ok-reads.ensures.same in
    let q3 = map_on q2 c.in_ok-data.ensures.same in
    (once_then (address_on refl _ c.args.shift c.args.address c.requires.0 c.in_ok-writes.ensures) _
    (once_then (address_on q1 _ c.args.shift c.args.address c.requires.0 c.in_ok-reads.ensures) _
    (once_then (data_on q2 (ap (bits_at c.args.fields.words.now (c.args.fields.at + 43)) (sym c.word-width.ensures)) c.in_ok-data.ensures) _
    (once_err _ c.from_residual-in_err-gate.result _ c.from_residual-in_err-gate.ensures.1 (gate_on q3 (sym c.control.ensures) (sym c.optional_control.ensures) c.in_err-gate.ensures) _))))

pub returns-clause-wrote : goal.returns-clause-wrote
unfolding first_exprs
returns-clause-wrote c =
    let q1 = map_on refl c.in_ok-writes.ensures.same in
    let q2 = map_on q1 c.in_ok-reads.ensures.same in
    let q3 = map_on q2 c.in_ok-data.ensures.same in
    let q4 = map_on q3 c.in_ok-gate.ensures.same in
    (once_then (address_on refl _ c.args.shift c.args.address c.requires.0 c.in_ok-writes.ensures) _
    (once_then (address_on q1 _ c.args.shift c.args.address c.requires.0 c.in_ok-reads.ensures) _
    (once_then (data_on q2 (ap (bits_at c.args.fields.words.now (c.args.fields.at + 43)) (sym c.word-width.ensures)) c.in_ok-data.ensures) _
    (once_then (gate_on q3 (sym c.control.ensures) (sym c.optional_control.ensures) c.in_ok-gate.ensures) _
    (port_last _ (sym c.optional_control-2.ensures))))))
