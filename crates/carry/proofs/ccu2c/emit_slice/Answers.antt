use Rattle.std.proofs.Common.{sym, ◌∙◌, refl}
use Rattle.wires.proofs.OnceLaws.{once_then, once_err, plain_then, plain_err, plain_keep, seen_plain, once_as, plain_as}
use Rattle.wires.proofs.OnMap.{map_on, bits_on, assign_on}
use Rattle.wires.specs.Wires.{wires_in}
use Rattle.wires.specs.Once.{seen_in}
use Rattle.cells.proofs.Laws.{row_from, two_inputs}
use Rattle.carry.proofs.ccu2c.emit_slice.Goals as goal

pub returns-in_err-ids : goal.returns-in_err-ids
returns-in_err-ids c =
    let q0 = refl in
    once_as (row_from (wires_in c.args.emitter.now.map) (seen_in c.args.emitter.now) c.args.inputs c.args.init c.args.inject c.args.sum c.args.carry.0 c.gated_carry-gated.ensures)
    (once_err _ c.from_residual.result _ c.from_residual.ensures.1 (bits_on q0 _ _ c.in_err-ids.ensures) _)

pub returns-in_err-lut4 : goal.returns-in_err-lut4
returns-in_err-lut4 c =
    let q0 = refl in
    let q1 = map_on q0 c.in_ok-ids.ensures.same in
    once_as (row_from (wires_in c.args.emitter.now.map) (seen_in c.args.emitter.now) c.args.inputs c.args.init c.args.inject c.args.sum c.args.carry.0 c.gated_carry-gated.ensures)
    (once_then (bits_on q0 _ _ c.in_ok-ids.ensures) _
    (plain_err _ c.from_residual-in_err-lut4.result _ c.from_residual-in_err-lut4.ensures.1 c.in_err-lut4.ensures _))

pub returns-in_err-lut2 : goal.returns-in_err-lut2
returns-in_err-lut2 c =
    let q0 = refl in
    let q1 = map_on q0 c.in_ok-ids.ensures.same in
    let q2 = map_on q1 c.in_ok-lut4.ensures.same in
    once_as (row_from (wires_in c.args.emitter.now.map) (seen_in c.args.emitter.now) c.args.inputs c.args.init c.args.inject c.args.sum c.args.carry.0 c.gated_carry-gated.ensures)
    (once_then (bits_on q0 _ _ c.in_ok-ids.ensures) _
    (plain_then c.in_ok-lut4.ensures _
    (plain_err _ c.from_residual-in_err-lut2.result _ c.from_residual-in_err-lut2.ensures.1 (plain_as (two_inputs c.in_ok-ids.ids c.args.init) c.in_err-lut2.ensures) _)))

pub returns-in_err-value : goal.returns-in_err-value
returns-in_err-value c =
    let q0 = refl in
    let q1 = map_on q0 c.in_ok-ids.ensures.same in
    let q2 = map_on q1 c.in_ok-lut4.ensures.same in
    let q3 = map_on q2 c.in_ok-lut2.ensures.same in
    once_as (row_from (wires_in c.args.emitter.now.map) (seen_in c.args.emitter.now) c.args.inputs c.args.init c.args.inject c.args.sum c.args.carry.0 c.gated_carry-gated.ensures)
    (once_then (bits_on q0 _ _ c.in_ok-ids.ensures) _
    (plain_then c.in_ok-lut4.ensures _
    (plain_then (plain_as (two_inputs c.in_ok-ids.ids c.args.init) c.in_ok-lut2.ensures) _
    (plain_err _ c.from_residual-in_err-value.result _ c.from_residual-in_err-value.ensures.1 c.in_err-value.ensures _))))

pub returns-in_err-assign_wire : goal.returns-in_err-assign_wire
returns-in_err-assign_wire c =
    let q0 = refl in
    let q1 = map_on q0 c.in_ok-ids.ensures.same in
    let q2 = map_on q1 c.in_ok-lut4.ensures.same in
    let q3 = map_on q2 c.in_ok-lut2.ensures.same in
    let q4 = map_on q3 c.in_ok-value.ensures.same in
    once_as (row_from (wires_in c.args.emitter.now.map) (seen_in c.args.emitter.now) c.args.inputs c.args.init c.args.inject c.args.sum c.args.carry.0 c.gated_carry-gated.ensures)
    (once_then (bits_on q0 _ _ c.in_ok-ids.ensures) _
    (plain_then c.in_ok-lut4.ensures _
    (plain_then (plain_as (two_inputs c.in_ok-ids.ids c.args.init) c.in_ok-lut2.ensures) _
    (plain_then c.in_ok-value.ensures _
    (plain_err _ c.from_residual-in_err-assign_wire.result _ c.from_residual-in_err-assign_wire.ensures.1 (assign_on q4 _ _ c.in_err-assign_wire.ensures) _)))))

pub returns : goal.returns
returns c =
    let q0 = refl in
    let q1 = map_on q0 c.in_ok-ids.ensures.same in
    let q2 = map_on q1 c.in_ok-lut4.ensures.same in
    let q3 = map_on q2 c.in_ok-lut2.ensures.same in
    let q4 = map_on q3 c.in_ok-value.ensures.same in
    let q5 = map_on q4 c.in_ok-assign_wire.ensures.same in
    once_as (row_from (wires_in c.args.emitter.now.map) (seen_in c.args.emitter.now) c.args.inputs c.args.init c.args.inject c.args.sum c.args.carry.0 c.gated_carry-gated.ensures)
    (once_then (bits_on q0 _ _ c.in_ok-ids.ensures) _
    (plain_then c.in_ok-lut4.ensures _
    (plain_then (plain_as (two_inputs c.in_ok-ids.ids c.args.init) c.in_ok-lut2.ensures) _
    (plain_then c.in_ok-value.ensures _
    (plain_then (assign_on q4 _ _ c.in_ok-assign_wire.ensures) _
    (plain_keep (sym (seen_plain c.in_ok-assign_wire.ensures ∙ seen_plain c.in_ok-value.ensures ∙ seen_plain c.in_ok-lut2.ensures ∙ seen_plain c.in_ok-lut4.ensures)) c.mux.ensures))))))
