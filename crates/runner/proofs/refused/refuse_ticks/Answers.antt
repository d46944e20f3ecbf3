use Rattle.std.proofs.Common.{ℕ, ◌≡◌, ◌+◌, ◌-◌, min, length, get_or, take, drop, arith, sym, ap, subst, ◌∙◌}
use Rattle.simulation.specs.Model.{lists_of}
use Rattle.runner.specs.Calls.{handed}
use Rattle.runner.proofs.Running.{Running, running_end, shown_room}
use Rattle.runner.proofs.WholeList.{signals_readable, inputs_in}
use Rattle.runner.proofs.Refusing.{sum_inside, refused_next}
use Rattle.runner.proofs.refused.refuse_ticks.Goals as goal

pub ports_end-ports-requires : goal.ports_end-ports-requires
ports_end-ports-requires c = signals_readable (lists_of c.args.m) (sym c.requires.0)

pub show-to-requires : goal.show-to-requires
show-to-requires c = (signals_readable (lists_of c.args.m) (sym c.requires.0), sum_inside (lists_of c.args.m) c.requires.0 c.args.bytes.now c.requires.1, shown_room c.loop-i.invariant c.loop-i-test.true c.requires.3, c.ports_end-ports.ensures)

pub loop-i-preserved : goal.loop-i-preserved
loop-i-preserved c = let e = c.end_of-end.result in
    let n : e ≡ min (c.loop-i.pos + get_or c.args.list.heads.now c.loop-i.at 0) (length c.args.list.bits.now) = c.end_of-end.ensures ∙ ap (λ (w : ℕ). min (c.loop-i.pos + w) (length c.args.list.bits.now)) c.wide-asked.ensures in
    subst (λ (j : ℕ). Running (lists_of c.args.m) c.args.list.heads.now c.args.list.bits.now c.args.bytes.now c.args.bytes.now c.args.answers.now c.put_answer.new.answers c.args.shown.now c.show-to.new.shown (c.loop-i.at + 3) e j (c.loop-i.i + 1)) (sym c.show-to.ensures.end)
    (refused_next (lists_of c.args.m) c.requires.0 c.args.bytes.now c.requires.1 c.requires.4 c.loop-i.invariant c.loop-i-test.true c.count-count.ensures (inputs_in (lists_of c.args.m) c.requires.0 c.args.bytes.now c.requires.1 c.input_total-inputs.ensures (omega (arith, c.well_formed))) n (ap (λ (w : ℕ). handed c.input_total-inputs.result w (take (e - c.loop-i.pos) (drop c.loop-i.pos c.args.list.bits.now))) c.wide-asked.ensures) c.fired_by-fired.ensures c.tick_refusal-r.ensures c.put_answer.ensures c.show-to.ensures.shows c.put_answer.auto.answers c.show-to.auto.shown)

pub returns : goal.returns
returns c = running_end c.loop-i.invariant c.loop-i-test.false
