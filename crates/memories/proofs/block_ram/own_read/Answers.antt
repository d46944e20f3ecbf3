use Rattle.std.proofs.Common.{ap, ◌∙◌, ℕ, ◌+◌, get_or}
use Rattle.wires.specs.Once.{seen_in}
use Rattle.memories.proofs.PortLaws.{own_known, own_unknown, own_other}
use Rattle.memories.proofs.block_ram.own_read.Goals.{else-n-eq1-via-then-n-eq1+else-known-emitter, else-n-eq1-via-else-n-eq1}
use Rattle.memories.proofs.block_ram.own_read.Goals as goal

pub returns-then-known-emitter : goal.returns-then-known-emitter
returns-then-known-emitter c = own_known c.args.emitter.now.first c.args.emitter.now.seen.now c.args.fields.words.now (c.args.fields.at + c.args.offset) c.args.n (c.word-known.ensures ∙ ap (λ (i : ℕ). get_or c.args.emitter.now.seen.now i 0) c.word.ensures) c.if-n-eq1.true c.if-known-emitter.true

pub returns-else-n-eq1 : goal.returns-else-n-eq1
returns-else-n-eq1 c = elim c.else-n-eq1.branch [
  | else-n-eq1-via-then-n-eq1+else-known-emitter w ↦ own_unknown c.args.emitter.now.first c.args.emitter.now.seen.now c.args.fields.words.now (c.args.fields.at + c.args.offset) c.args.n (c.word-known.ensures ∙ ap (λ (i : ℕ). get_or c.args.emitter.now.seen.now i 0) c.word.ensures) w.if-n-eq1.true w.if-known-emitter.false
  | else-n-eq1-via-else-n-eq1 w ↦ own_other (seen_in c.args.emitter.now) c.args.fields.words.now (c.args.fields.at + c.args.offset) c.args.n w.if-n-eq1.false
]
