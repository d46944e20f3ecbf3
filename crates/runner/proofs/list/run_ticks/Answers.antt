use Rattle.std.proofs.Common.{arith, ℕ, ◌≡◌, ◌+◌, ◌-◌, ◌||◌, Bool, min, length, get_or, take, drop, sym, ap, subst, ◌∙◌}
use Rattle.recorder.specs.Lists.{lists}
use Rattle.runner.specs.Calls.{handed}
use Rattle.runner.proofs.Lagging.{Along, along_long, along_next, along_end}
use Rattle.runner.proofs.Ticking.{ok_made}
use Rattle.runner.proofs.Running.{shown_room}
use Rattle.runner.proofs.Models.{read_signals_of}
use Rattle.runner.proofs.Works.{works_same}
use Rattle.runner.proofs.list.run_ticks.Goals as goal

pub show-to-requires : goal.show-to-requires
show-to-requires c = let b = c.requires.0.bytes_room in (read_signals_of c.args.m.now, omega (arith, along_long c.loop-i.invariant.0 c.requires.10 c.requires.4), shown_room c.loop-i.invariant.0.running c.loop-i-test.true c.requires.9, c.args.m.now.ports_before)

pub loop-i-preserved : goal.loop-i-preserved
loop-i-preserved c = let e = c.end_of-end.result in
    let n : e ≡ min (c.loop-i.pos + get_or c.args.list.heads.now c.loop-i.at 0) (length c.args.list.bits.now) = c.end_of-end.ensures ∙ ap (λ (w : ℕ). min (c.loop-i.pos + w) (length c.args.list.bits.now)) c.wide-asked.ensures in (
      subst (λ (j : ℕ). Along (lists c.args.m.now.signals.now c.args.m.now.exprs.now c.args.m.now.stmts.now) c.args.list.heads.now c.args.list.bits.now c.args.bytes.now c.run_tick-r.new.bytes c.args.answers.now c.put_answer.new.answers c.args.shown.now c.show-to.new.shown (c.loop-i.at + 3) e j (c.loop-i.i + 1) (c.loop-i.late || c.is_ok-late.result)) (sym c.show-to.ensures.end)
          (along_next c.loop-i.invariant.0 c.requires.10 c.requires.4 c.loop-i-test.true c.args.m.now.signal_counted c.requires.7 n (ap (λ (w : ℕ). handed c.args.inputs w (take (e - c.loop-i.pos) (drop c.loop-i.pos c.args.list.bits.now))) c.wide-asked.ensures) c.fired_by-fired.ensures c.run_tick-r.ensures.answered c.run_tick-r.ensures.runs c.put_answer.ensures c.show-to.ensures.shows (ap (λ (b : Bool). c.loop-i.late || b) (c.is_ok-late.ensures.value ∙ ok_made c.run_tick-r.result)) c.run_tick-r.auto.bytes c.put_answer.auto.answers c.show-to.auto.shown),
      c.run_tick-r.ensures.filled,
      works_same c.loop-i.invariant.2 c.run_tick-r.ensures.same,
    )

pub returns-clause-runs : goal.returns-clause-runs
returns-clause-runs c = along_end c.loop-i.invariant.0 c.requires.10 c.requires.4 c.loop-i-test.false c.finish.ensures.finishes
