use Rattle.std.proofs.Common.{refl, ap, sym, ◌∙◌, ℕ}
use Rattle.netlist.specs.Fields.{ram_at}
use Rattle.wires.specs.declared.WireMap.{WireMap}
use Rattle.wires.specs.Wires.{wires_in}
use Rattle.wires.specs.Once.{seen_in}
use Rattle.wires.proofs.OnceLaws.{once_as, once_then, once_err, plain_keep, plain_as, plain_swept}
use Rattle.wires.proofs.OnMap.{map_on, once_on}
use Rattle.memories.specs.Memories.{second_exprs, own_read}
use Rattle.memories.specs.Rams.{port_in, port_with, second_in, second_with, expr_in, second_addressed}
use Rattle.memories.specs.Steps.{ram_body, second_at}
use Rattle.netlist.specs.Reader.{address_width, shift_of}
use Rattle.behaviour.specs.Behaviour.{shift_in}
use Rattle.memories.proofs.CellLaws.{body_first, addressed_split, output_addressed, body_addressed}
use Rattle.memories.specs.Memories.{second_output}
use Rattle.memories.proofs.block_ram.with_work.Goals as goal

pub returns-in_err-first-clause-wrote : goal.returns-in_err-first-clause-wrote
returns-in_err-first-clause-wrote c = once_as (addressed_split (wires_in c.args.emitter.now.map) c.args.emitter.now.map.constants (seen_in c.args.emitter.now) c.args.owner (ram_at c.args.fields.words.now c.args.fields.at) c.args.write_address c.args.read_address c.args.second_address (c.shift_in-shift.ensures ∙ ap (λ (k : ℕ). shift_in (shift_of k)) c.word-2.ensures) (c.address_width-address.ensures ∙ ap address_width c.word.ensures)) (once_err _ c.from_residual.result _ c.from_residual.ensures.1 c.in_err-first.ensures.wrote _)

pub returns-in_err-second-clause-wrote : goal.returns-in_err-second-clause-wrote
returns-in_err-second-clause-wrote c = once_as (addressed_split (wires_in c.args.emitter.now.map) c.args.emitter.now.map.constants (seen_in c.args.emitter.now) c.args.owner (ram_at c.args.fields.words.now c.args.fields.at) c.args.write_address c.args.read_address c.args.second_address (c.shift_in-shift.ensures ∙ ap (λ (k : ℕ). shift_in (shift_of k)) c.word-2.ensures) (c.address_width-address.ensures ∙ ap address_width c.word.ensures)) (once_then c.in_ok-first.ensures.wrote _ (once_err _ c.from_residual-in_err-second.result _ c.from_residual-in_err-second.ensures.1 (once_on (map_on refl c.in_ok-first.ensures.wrote.same) (λ m. second_exprs m (seen_in c.first_port.new.emitter) c.shift_in-shift.result c.address_width-address.result (second_addressed (ram_at c.args.fields.words.now c.args.fields.at).second c.args.second_address)) c.in_err-second.ensures.wrote) _))

pub returns-clause-wrote : goal.returns-clause-wrote
returns-clause-wrote c =
    once_as (addressed_split (wires_in c.args.emitter.now.map) c.args.emitter.now.map.constants (seen_in c.args.emitter.now) c.args.owner (ram_at c.args.fields.words.now c.args.fields.at) c.args.write_address c.args.read_address c.args.second_address (c.shift_in-shift.ensures ∙ ap (λ (k : ℕ). shift_in (shift_of k)) c.word-2.ensures) (c.address_width-address.ensures ∙ ap address_width c.word.ensures))
    (once_then c.in_ok-first.ensures.wrote _
    (once_then (once_on (map_on refl c.in_ok-first.ensures.wrote.same) (λ m. second_exprs m (seen_in c.first_port.new.emitter) c.shift_in-shift.result c.address_width-address.result (second_addressed (ram_at c.args.fields.words.now c.args.fields.at).second c.args.second_address)) c.in_ok-second.ensures.wrote) _
    (plain_keep refl
    (plain_as (body_addressed (wires_in c.args.emitter.now.map) c.args.emitter.now.map.constants c.args.owner (port_with (ram_at c.args.fields.words.now c.args.fields.at).output c.in_ok-first.first) (own_read (seen_in c.second_port.new.emitter) (ram_at c.args.fields.words.now c.args.fields.at).output) (second_with (second_at c.args.fields.words.now c.args.fields.at).output c.in_ok-second.second) (own_read (seen_in c.second_port.new.emitter) (second_output (second_addressed (ram_at c.args.fields.words.now c.args.fields.at).second c.args.second_address))) c.address_width-address.result (ram_at c.args.fields.words.now c.args.fields.at) c.args.write_address c.args.read_address c.args.second_address
    ∙ body_first (wires_in c.args.emitter.now.map) c.args.emitter.now.map.constants c.args.owner (ram_at c.args.fields.words.now c.args.fields.at).output (second_at c.args.fields.words.now c.args.fields.at).output c.in_ok-first.first c.in_ok-second.second c.address_width-address.result (ram_at c.args.fields.words.now c.args.fields.at) c.in_ok-first.ensures.wire c.in_ok-second.ensures.wire c.first_own.ensures (c.second_own.ensures ∙ ap (own_read (seen_in c.second_port.new.emitter)) (output_addressed (ram_at c.args.fields.words.now c.args.fields.at).second c.args.second_address))
    ∙ ap (λ (m : WireMap). ram_body (wires_in m) m.constants c.args.owner (port_in c.in_ok-first.first) (expr_in c.first_own.result) (second_in c.in_ok-second.second) (expr_in c.second_own.result) c.address_width-address.result (ram_at c.args.fields.words.now c.args.fields.at)) (sym (c.in_ok-second.ensures.wrote.same.map ∙ c.in_ok-first.ensures.wrote.same.map)))
    (plain_swept _ {e = c.second_port.new.emitter} c.ram_body-r.result c.swept.ensures.same c.ram_body-r.ensures.wrote (record { recorder = refl; seen = refl; first = refl; map = refl; size = refl }) refl c.swept.ensures.left)))))
