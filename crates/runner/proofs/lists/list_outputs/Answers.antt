use Rattle.std.proofs.Common.{arith, ap, ◌∙◌, inl, ◌+◌, set}
use Rattle.std.specs.declared.iter.Enumerate.{Enumerate}
use Rattle.recorder.specs.declared.records.Records.{Records}
use Rattle.recorder.proofs.Left.{few}
use Rattle.runner.proofs.Listing.{outputs_start, outputs_end, outputs_three, outputs_other, outputs_taken}
use Rattle.runner.proofs.Models.{read_signals_of}
use Rattle.runner.proofs.Turns.{turns_numbered}
use Rattle.runner.proofs.lists.list_outputs.Goals as goal

pub loop-s-init-derived : goal.loop-s-init-derived
loop-s-init-derived c = ((tt, tt, inl (few c.into_iter-s-iterator.ensures.into_iter_gives c.enumerate-s-items.ensures.source c.enumerate-s-items.ensures.count c.new.ensures (omega (arith, c.well_formed)))), tt)

pub loop-s-init : goal.loop-s-init
loop-s-init c = let g = c.into_iter-s-iterator.ensures.into_iter_gives in outputs_start _ _ _ (ap (λ (z : Enumerate Records). z.count) g ∙ c.enumerate-s-items.ensures.count) (turns_numbered g c.enumerate-s-items.ensures.source c.new.ensures)

pub bounds-fields-0 : goal.bounds-fields-0
bounds-fields-0 c = omega (arith, outputs_three (read_signals_of c.args.m.now) c.loop-s.invariant c.in-Some.ensures.steps.0)

pub loop-s-preserved-then-fields-eq-OUTPUT : goal.loop-s-preserved-then-fields-eq-OUTPUT
loop-s-preserved-then-fields-eq-OUTPUT c =
    let s = c.in-Some.ensures.steps in
    let l = c.in_ok-k.ensures.listed in
    rw s.2 (outputs_taken (read_signals_of c.args.m.now) c.loop-s.invariant s.0 c.in_ok-k.ensures.few c.requires (l.0, l.1 ∙ ap (set c.loop-s.order (c.args.from + c.loop-s.k)) s.1))

pub loop-s-preserved : goal.loop-s-preserved
loop-s-preserved c = let s = c.in-Some.ensures.steps in rw s.2 (outputs_other (read_signals_of c.args.m.now) c.loop-s.invariant s.0 c.if-fields-eq-OUTPUT.false)

pub returns-clause-listed : goal.returns-clause-listed
returns-clause-listed c = (outputs_end (read_signals_of c.args.m.now) c.loop-s.invariant c.in-None.ensures.steps.0.0).1
