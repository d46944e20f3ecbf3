use Rattle.std.proofs.Common.{refl, arith}
use Rattle.recorder.proofs.Calls.{writes_as, writes_refuse}
use Rattle.wires.proofs.Laws.{roomy_no}
use Rattle.converter.proofs.Registers.{emits_start, emits_step, emits_err, emits_end}
use Rattle.converter.proofs.register.emit_flip_flop_banks.Goals as goal

pub returns-then-parts-end : goal.returns-then-parts-end
returns-then-parts-end c = record { same = record { signals = refl; exprs = refl; stmts = refl }; so = λ so. writes_as (roomy_no c.args.banks.n c.args.parts.now _ c.if-parts-end.true) writes_refuse }

pub loop-b-init : goal.loop-b-init
loop-b-init c = emits_start c.args.banks c.args.map c.args.parts.now c.args.recorder.now c.if-parts-end.false

pub returns-in_err-emit_flip_flop_bank : goal.returns-in_err-emit_flip_flop_bank
returns-in_err-emit_flip_flop_bank c = emits_err c.args.banks c.args.map c.loop-b.invariant c.loop-b-test.true c.members.ensures _ c.from_residual.result _ c.from_residual.ensures.1 c.in_err-emit_flip_flop_bank.ensures

pub loop-b-preserved : goal.loop-b-preserved
loop-b-preserved c = emits_step c.args.banks c.args.map c.loop-b.invariant c.loop-b-test.true c.members.ensures c.emit_flip_flop_bank.auto.parts c.in_ok-emit_flip_flop_bank.ensures

pub returns : goal.returns
returns c = emits_end c.args.banks c.args.map c.loop-b.invariant (omega arith)
