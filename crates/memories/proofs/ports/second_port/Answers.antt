use Rattle.std.proofs.Common.{refl, ap, sym, ◌∙◌, ◌+◌, get_or}
use Rattle.netlist.specs.Netlist.{SecondPort}
use Rattle.wires.specs.Wires.{wires_in}
use Rattle.wires.specs.Once.{seen_in}
use Rattle.wires.proofs.OnceLaws.{once_then, once_err, once_as, once_pure}
use Rattle.wires.proofs.OnMap.{map_on}
use Rattle.netlist.specs.Fields.{word_at}
use Rattle.memories.specs.Steps.{second_at}
use Rattle.memories.proofs.PortLaws.{address_on, data_on, gate_on, second_last, second_none, second_some, second_same_at}
use Rattle.memories.proofs.ports.second_port.Goals as goal

pub returns-then-word-eq0-clause-wrote : goal.returns-then-word-eq0-clause-wrote
returns-then-word-eq0-clause-wrote c = once_as (second_none (wires_in c.args.emitter.now.map) (seen_in c.args.emitter.now) c.args.shift c.args.address (word_at c.args.fields.words.now (c.args.fields.at + 42)) (second_at c.args.fields.words.now c.args.fields.at) c.args.second_address (sym c.word.ensures ∙ c.if-word-eq0.true)) once_pure

pub returns-in_err-addressed-clause-wrote : goal.returns-in_err-addressed-clause-wrote
returns-in_err-addressed-clause-wrote c =
    once_as (second_some (wires_in c.args.emitter.now.map) (seen_in c.args.emitter.now) c.args.shift c.args.address (word_at c.args.fields.words.now (c.args.fields.at + 42)) (second_at c.args.fields.words.now c.args.fields.at) c.args.second_address (second_same_at c.args.fields.words.now c.args.fields.at c.args.fields c.second_port-second.ensures c.word-width.ensures refl) (λ e. c.if-word-eq0.false (c.word.ensures ∙ e)))
    (once_err _ c.from_residual.result _ c.from_residual.ensures.1 (address_on refl _ c.args.shift c.args.address c.requires.0 c.in_err-addressed.ensures) _)

pub returns-in_err-data-clause-wrote : goal.returns-in_err-data-clause-wrote
returns-in_err-data-clause-wrote c =
    let q1 = map_on refl c.in_ok-addressed.ensures.same in
    once_as (second_some (wires_in c.args.emitter.now.map) (seen_in c.args.emitter.now) c.args.shift c.args.address (word_at c.args.fields.words.now (c.args.fields.at + 42)) (second_at c.args.fields.words.now c.args.fields.at) c.args.second_address (second_same_at c.args.fields.words.now c.args.fields.at c.args.fields c.second_port-second.ensures c.word-width.ensures refl) (λ e. c.if-word-eq0.false (c.word.ensures ∙ e)))
    (once_then (address_on refl _ c.args.shift c.args.address c.requires.0 c.in_ok-addressed.ensures) _
    (once_err _ c.from_residual-in_err-data.result _ c.from_residual-in_err-data.ensures.1 (data_on q1 refl c.in_err-data.ensures) _))

pub returns-in_err-gate-clause-wrote : goal.returns-in_err-gate-clause-wrote
returns-in_err-gate-clause-wrote c =
    let q1 = map_on refl c.in_ok-addressed.ensures.same in
    let q2 = map_on q1 c.in_ok-data.ensures.same in
    once_as (second_some (wires_in c.args.emitter.now.map) (seen_in c.args.emitter.now) c.args.shift c.args.address (word_at c.args.fields.words.now (c.args.fields.at + 42)) (second_at c.args.fields.words.now c.args.fields.at) c.args.second_address (second_same_at c.args.fields.words.now c.args.fields.at c.args.fields c.second_port-second.ensures c.word-width.ensures refl) (λ e. c.if-word-eq0.false (c.word.ensures ∙ e)))
    (once_then (address_on refl _ c.args.shift c.args.address c.requires.0 c.in_ok-addressed.ensures) _
    (once_then (data_on q1 refl c.in_ok-data.ensures) _
    (once_err _ c.from_residual-in_err-gate.result _ c.from_residual-in_err-gate.ensures.1 (gate_on q2 (sym c.control.ensures) (sym c.optional_control.ensures) c.in_err-gate.ensures) _)))

pub returns-clause-wrote : goal.returns-clause-wrote
returns-clause-wrote c =
    let q1 = map_on refl c.in_ok-addressed.ensures.same in
    let q2 = map_on q1 c.in_ok-data.ensures.same in
    let q3 = map_on q2 c.in_ok-gate.ensures.same in
    once_as (second_some (wires_in c.args.emitter.now.map) (seen_in c.args.emitter.now) c.args.shift c.args.address (word_at c.args.fields.words.now (c.args.fields.at + 42)) (second_at c.args.fields.words.now c.args.fields.at) c.args.second_address (second_same_at c.args.fields.words.now c.args.fields.at c.args.fields c.second_port-second.ensures c.word-width.ensures refl) (λ e. c.if-word-eq0.false (c.word.ensures ∙ e)))
    (once_then (address_on refl _ c.args.shift c.args.address c.requires.0 c.in_ok-addressed.ensures) _
    (once_then (data_on q1 refl c.in_ok-data.ensures) _
    (once_then (gate_on q2 (sym c.control.ensures) (sym c.optional_control.ensures) c.in_ok-gate.ensures) _
    (second_last _ (sym c.optional_control-2.ensures) (ap (λ (p : SecondPort). p.output) (second_same_at c.args.fields.words.now c.args.fields.at c.args.fields c.second_port-second.ensures c.word-width.ensures refl))))))

pub returns-clause-wire : goal.returns-clause-wire
returns-clause-wire c = c.first_wire.ensures ∙ ap (λ (p : SecondPort). get_or p.output 0 0) (second_same_at c.args.fields.words.now c.args.fields.at c.args.fields c.second_port-second.ensures c.word-width.ensures refl)
