use Rattle.std.proofs.Common.{ap, sym, ◌∙◌, arith}
use Rattle.netlist.specs.Fields.{ram_at}
use Rattle.refusal.specs.declared.Refusal.TheVariants.{BufferTooShort}
use Rattle.wires.proofs.OnceLaws.{once_as, once_refused}
use Rattle.memories.specs.Rams.{work_of}
use Rattle.recorder.specs.Writer.{refuse}
use Rattle.address_mux.proofs.Addresses.{at_most_yes, at_most_no}
use Rattle.address_mux.proofs.Levels.{both_yes, both_first, both_second}
use Rattle.memories.proofs.block_ram.in_work.Goals.{then-works-work-via-then-works-work, then-works-work-via-else-works-work+then-works-work-2}
use Rattle.memories.proofs.block_ram.in_work.Goals as goal

pub returns-then-works-work-clause-wrote : goal.returns-then-works-work-clause-wrote
returns-then-works-work-clause-wrote c = elim c.then-works-work.branch [
  | then-works-work-via-then-works-work w ↦ once_as (both_first (work_of (ram_at c.args.fields.words.now c.args.fields.at)) c.args.works.now.parts.now c.args.works.now.values.now _ (omega (arith, w.if-works-work.true, c.block_ram_work-work.ensures)) ∙ ap (refuse 1) (sym c.block_ram_work-work.ensures)) (once_refused _ (BufferTooShort c.block_ram_work-work.result) c.swept.ensures.same c.swept.ensures.left)
  | then-works-work-via-else-works-work+then-works-work-2 w ↦ once_as (both_second (work_of (ram_at c.args.fields.words.now c.args.fields.at)) c.args.works.now.parts.now c.args.works.now.values.now _ (omega (arith, w.if-works-work.false, c.block_ram_work-work.ensures)) (omega (arith, w.if-works-work-2.true, c.block_ram_work-work.ensures)) ∙ ap (refuse 1) (sym c.block_ram_work-work.ensures)) (once_refused _ (BufferTooShort c.block_ram_work-work.result) c.swept.ensures.same c.swept.ensures.left)
]

pub returns-then-depth-gt16384-clause-wrote : goal.returns-then-depth-gt16384-clause-wrote
returns-then-depth-gt16384-clause-wrote c =
    once_as (both_yes (work_of (ram_at c.args.fields.words.now c.args.fields.at)) c.args.works.now.parts.now c.args.works.now.values.now _ (omega (arith, c.if-works-work.false, c.block_ram_work-work.ensures)) (omega (arith, c.if-works-work-2.false, c.block_ram_work-work.ensures)) ∙ at_most_no 16384 _ _ (omega (arith, c.if-depth-gt16384.true, c.word-depth.ensures)) ∙ ap (refuse 1) (sym c.word-depth.ensures))
    (once_refused _ (BufferTooShort c.word-depth.result) c.swept-then-depth-gt16384.ensures.same c.swept-then-depth-gt16384.ensures.left)

pub returns-clause-wrote : goal.returns-clause-wrote
returns-clause-wrote c = once_as (both_yes (work_of (ram_at c.args.fields.words.now c.args.fields.at)) c.args.works.now.parts.now c.args.works.now.values.now _ (omega (arith, c.if-works-work.false, c.block_ram_work-work.ensures)) (omega (arith, c.if-works-work-2.false, c.block_ram_work-work.ensures)) ∙ at_most_yes 16384 _ _ (omega (arith, c.if-depth-gt16384.false, c.word-depth.ensures))) c.with_work.ensures.wrote
