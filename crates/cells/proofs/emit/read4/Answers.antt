use Rattle.std.proofs.Common.{refl, ◌≡◌, length, rules}
use Rattle.wires.proofs.OnceLaws.{once_as, once_then, once_err, once_pure}
use Rattle.wires.proofs.OnMap.{map_on, bit_on}
use Rattle.wires.specs.Wires.{wires_in}
use Rattle.wires.specs.Once.{seen_in}
use Rattle.cells.proofs.Laws.{read_four}
use Rattle.cells.proofs.emit.read4.Goals as goal

pub returns-in_err-a : goal.returns-in_err-a
returns-in_err-a c =
    let four : length c.args.inputs ≡ 4 = search rules in
    let q0 = refl in
    once_as (read_four (wires_in c.args.emitter.now.map) (seen_in c.args.emitter.now) c.args.inputs four)
    (once_err _ c.from_residual.result _ c.from_residual.ensures.1 (bit_on q0 _ c.in_err-a.ensures) _)

pub returns-in_err-b : goal.returns-in_err-b
returns-in_err-b c =
    let four : length c.args.inputs ≡ 4 = search rules in
    let q0 = refl in
    let q1 = map_on q0 c.in_ok-a.ensures.same in
    once_as (read_four (wires_in c.args.emitter.now.map) (seen_in c.args.emitter.now) c.args.inputs four)
    (once_then (bit_on q0 _ c.in_ok-a.ensures) _
    (once_err _ c.from_residual-in_err-b.result _ c.from_residual-in_err-b.ensures.1 (bit_on q1 _ c.in_err-b.ensures) _))

pub returns-in_err-c : goal.returns-in_err-c
returns-in_err-c c =
    let four : length c.args.inputs ≡ 4 = search rules in
    let q0 = refl in
    let q1 = map_on q0 c.in_ok-a.ensures.same in
    let q2 = map_on q1 c.in_ok-b.ensures.same in
    once_as (read_four (wires_in c.args.emitter.now.map) (seen_in c.args.emitter.now) c.args.inputs four)
    (once_then (bit_on q0 _ c.in_ok-a.ensures) _
    (once_then (bit_on q1 _ c.in_ok-b.ensures) _
    (once_err _ c.from_residual-in_err-c.result _ c.from_residual-in_err-c.ensures.1 (bit_on q2 _ c.in_err-c.ensures) _)))

pub returns-in_err-d : goal.returns-in_err-d
returns-in_err-d c =
    let four : length c.args.inputs ≡ 4 = search rules in
    let q0 = refl in
    let q1 = map_on q0 c.in_ok-a.ensures.same in
    let q2 = map_on q1 c.in_ok-b.ensures.same in
    let q3 = map_on q2 c.in_ok-c.ensures.same in
    once_as (read_four (wires_in c.args.emitter.now.map) (seen_in c.args.emitter.now) c.args.inputs four)
    (once_then (bit_on q0 _ c.in_ok-a.ensures) _
    (once_then (bit_on q1 _ c.in_ok-b.ensures) _
    (once_then (bit_on q2 _ c.in_ok-c.ensures) _
    (once_err _ c.from_residual-in_err-d.result _ c.from_residual-in_err-d.ensures.1 (bit_on q3 _ c.in_err-d.ensures) _))))

pub returns : goal.returns
returns c =
    let four : length c.args.inputs ≡ 4 = search rules in
    let q0 = refl in
    let q1 = map_on q0 c.in_ok-a.ensures.same in
    let q2 = map_on q1 c.in_ok-b.ensures.same in
    let q3 = map_on q2 c.in_ok-c.ensures.same in
    let q4 = map_on q3 c.in_ok-d.ensures.same in
    once_as (read_four (wires_in c.args.emitter.now.map) (seen_in c.args.emitter.now) c.args.inputs four)
    (once_then (bit_on q0 _ c.in_ok-a.ensures) _
    (once_then (bit_on q1 _ c.in_ok-b.ensures) _
    (once_then (bit_on q2 _ c.in_ok-c.ensures) _
    (once_then (bit_on q3 _ c.in_ok-d.ensures) _
    (once_pure)))))
