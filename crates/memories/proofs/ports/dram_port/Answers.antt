use Rattle.std.proofs.Common.{refl, sym, arith}
use Rattle.wires.proofs.OnceLaws.{once_then, once_err, once_pure}
use Rattle.wires.proofs.OnMap.{map_on}
use Rattle.memories.specs.Rams.{dram_exprs}
use Rattle.memories.proofs.PortLaws.{address_on, bits_on, control_on}
use Rattle.memories.proofs.ports.dram_port.Goals as goal

pub returns-in_err-writes : goal.returns-in_err-writes
unfolding dram_exprs
returns-in_err-writes c =
    (once_err _ c.from_residual.result _ c.from_residual.ensures.1 (address_on refl _ 0 4 (omega arith) c.in_err-writes.ensures) _)

pub returns-in_err-reads : goal.returns-in_err-reads
unfolding dram_exprs
returns-in_err-reads c =
    let q1 = map_on refl c.in_ok-writes.ensures.same in
    (once_then (address_on refl _ 0 4 (omega arith) c.in_ok-writes.ensures) _
    (once_err _ c.from_residual-in_err-reads.result _ c.from_residual-in_err-reads.ensures.1 (address_on q1 _ 0 4 (omega arith) c.in_err-reads.ensures) _))

pub returns-in_err-data : goal.returns-in_err-data
unfolding dram_exprs
returns-in_err-data c =
    let q1 = map_on refl c.in_ok-writes.ensures.same in
    let q2 = map_on q1 c.in_ok-reads.ensures.same in
    (once_then (address_on refl _ 0 4 (omega arith) c.in_ok-writes.ensures) _
    (once_then (address_on q1 _ 0 4 (omega arith) c.in_ok-reads.ensures) _
    (once_err _ c.from_residual-in_err-data.result _ c.from_residual-in_err-data.ensures.1 (bits_on q2 0 4 (sym c.bits-input.ensures) (omega arith) c.in_err-data.ensures) _)))

pub returns-in_err-asserted : goal.returns-in_err-asserted
unfolding dram_exprs
returns-in_err-asserted c =
    let q1 = map_on refl c.in_ok-writes.ensures.same in
    let q2 = map_on q1 c.in_ok-reads.ensures.same in
    let q3 = map_on q2 c.in_ok-data.ensures.same in
    (once_then (address_on refl _ 0 4 (omega arith) c.in_ok-writes.ensures) _
    (once_then (address_on q1 _ 0 4 (omega arith) c.in_ok-reads.ensures) _
    (once_then (bits_on q2 0 4 (sym c.bits-input.ensures) (omega arith) c.in_ok-data.ensures) _
    (once_err _ c.from_residual-in_err-asserted.result _ c.from_residual-in_err-asserted.ensures.1 (control_on q3 (sym c.control.ensures) c.in_err-asserted.ensures) _))))

pub returns : goal.returns
unfolding dram_exprs
returns c =
    let q1 = map_on refl c.in_ok-writes.ensures.same in
    let q2 = map_on q1 c.in_ok-reads.ensures.same in
    let q3 = map_on q2 c.in_ok-data.ensures.same in
    let q4 = map_on q3 c.in_ok-asserted.ensures.same in
    (once_then (address_on refl _ 0 4 (omega arith) c.in_ok-writes.ensures) _
    (once_then (address_on q1 _ 0 4 (omega arith) c.in_ok-reads.ensures) _
    (once_then (bits_on q2 0 4 (sym c.bits-input.ensures) (omega arith) c.in_ok-data.ensures) _
    (once_then (control_on q3 (sym c.control.ensures) c.in_ok-asserted.ensures) _
    once_pure))))
