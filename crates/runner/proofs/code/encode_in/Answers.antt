use Rattle.std.proofs.Common.{arith, ◌+◌, ap₂}
use Rattle.runner.proofs.Planning.{listed_formed, listed_registers, first_formed, planned_all, order_by_registers, order_by_controls, order_by_outputs, order_by_first, order_by_second}
use Rattle.runner.proofs.Models.{prepared_of}
use Rattle.runner.proofs.code.encode_in.Goals as goal

pub list_registers-requires : goal.list_registers-requires
list_registers-requires c = omega arith

pub returns-in_err-registers-clause-kept : goal.returns-in_err-registers-clause-kept
returns-in_err-registers-clause-kept c = order_by_registers c.args.m.now.expr_count c.args.m.now.signal_count c.args.order.now c.fill_forms.new.forms c.list_registers.new.order c.fill_forms.ensures.before c.in_err-registers.ensures.kept

pub list_controls-requires : goal.list_controls-requires
list_controls-requires c = (c.in_ok-registers.ensures.listed, omega (arith, c.in_ok-registers.ensures.few), omega (arith, c.in_ok-registers.ensures.few), omega (arith, c.in_ok-registers.ensures.few))

pub returns-in_err-controls-clause-kept : goal.returns-in_err-controls-clause-kept
returns-in_err-controls-clause-kept c = order_by_controls c.args.m.now.expr_count c.args.m.now.signal_count c.args.order.now c.list_registers.new.order c.list_controls.new.order (order_by_registers c.args.m.now.expr_count c.args.m.now.signal_count c.args.order.now c.fill_forms.new.forms c.list_registers.new.order c.fill_forms.ensures.before c.in_ok-registers.ensures.kept) c.in_err-controls.ensures.kept

pub list_outputs-requires : goal.list_outputs-requires
list_outputs-requires c = omega arith

pub returns-in_err-outputs-clause-kept : goal.returns-in_err-outputs-clause-kept
returns-in_err-outputs-clause-kept c = order_by_outputs c.args.m.now.expr_count c.args.m.now.signal_count c.args.order.now c.list_controls.new.order c.list_outputs.new.order (order_by_controls c.args.m.now.expr_count c.args.m.now.signal_count c.args.order.now c.list_registers.new.order c.list_controls.new.order (order_by_registers c.args.m.now.expr_count c.args.m.now.signal_count c.args.order.now c.fill_forms.new.forms c.list_registers.new.order c.fill_forms.ensures.before c.in_ok-registers.ensures.kept) c.in_ok-controls.ensures.kept) c.in_err-outputs.ensures.kept

pub piece-requires : goal.piece-requires
piece-requires c = (c.requires.0, c.requires.2, ap₂ ◌+◌ c.requires.2 c.requires.3, omega (arith, c.in_ok-registers.ensures.few, c.in_ok-controls.ensures.few), omega (arith, c.in_ok-registers.ensures.few, c.in_ok-controls.ensures.few), omega (arith, c.in_ok-registers.ensures.few, c.in_ok-controls.ensures.few), listed_formed c.args.m.now.expr_count c.args.m.now.signal_count c.fill_forms.new.forms c.list_registers.new.order c.list_controls.new.order c.list_outputs.new.order c.in_ok-registers.ensures.kept c.in_ok-controls.ensures.kept c.in_ok-outputs.ensures.kept (c.fill_forms.ensures.formed (record { prepared = (prepared_of c.args.m.now); started = c.args.m.now.started; driven = c.args.m.now.driven; count = c.args.m.now.expr_counted; room = omega (arith, c.in_ok-registers.ensures.few, c.in_ok-controls.ensures.few) })), omega (arith, c.in_ok-registers.ensures.few, c.in_ok-controls.ensures.few), (listed_registers c.args.m.now.expr_count c.args.m.now.signal_count c.fill_forms.new.forms c.list_registers.new.order c.list_controls.new.order c.list_outputs.new.order c.in_ok-registers.ensures.kept c.in_ok-controls.ensures.kept c.in_ok-outputs.ensures.kept c.in_ok-registers.ensures.few (c.in_ok-registers.ensures.listed)).each, omega (arith, c.in_ok-registers.ensures.few, c.in_ok-controls.ensures.few))

pub returns-in_err-first-clause-kept : goal.returns-in_err-first-clause-kept
returns-in_err-first-clause-kept c = order_by_first c.args.m.now.expr_count c.args.m.now.signal_count c.args.order.now c.list_outputs.new.order c.piece.new.order (order_by_outputs c.args.m.now.expr_count c.args.m.now.signal_count c.args.order.now c.list_controls.new.order c.list_outputs.new.order (order_by_controls c.args.m.now.expr_count c.args.m.now.signal_count c.args.order.now c.list_registers.new.order c.list_controls.new.order (order_by_registers c.args.m.now.expr_count c.args.m.now.signal_count c.args.order.now c.fill_forms.new.forms c.list_registers.new.order c.fill_forms.ensures.before c.in_ok-registers.ensures.kept) c.in_ok-controls.ensures.kept) c.in_ok-outputs.ensures.kept) c.in_err-first.ensures.kept

pub piece-requires-2 : goal.piece-requires-2
piece-requires-2 c = (omega (arith, c.in_ok-outputs.ensures.few), c.requires.2, ap₂ ◌+◌ c.requires.2 c.requires.3, omega (arith, c.in_ok-outputs.ensures.few), omega (arith, c.in_ok-outputs.ensures.few), omega (arith, c.in_ok-outputs.ensures.few), first_formed c.args.m.now.expr_count c.args.m.now.signal_count c.fill_forms.new.forms c.list_registers.new.order c.list_controls.new.order c.list_outputs.new.order c.in_ok-registers.ensures.kept c.in_ok-controls.ensures.kept c.in_ok-outputs.ensures.kept c.piece.new.order c.in_ok-first.ensures.kept (c.fill_forms.ensures.formed (record { prepared = (prepared_of c.args.m.now); started = c.args.m.now.started; driven = c.args.m.now.driven; count = c.args.m.now.expr_counted; room = omega (arith, c.in_ok-outputs.ensures.few) })), omega (arith, c.in_ok-outputs.ensures.few), (λ j q. absurd (omega arith)), omega (arith, c.in_ok-outputs.ensures.few))

pub returns-in_err-second-clause-kept : goal.returns-in_err-second-clause-kept
returns-in_err-second-clause-kept c = order_by_second c.args.m.now.expr_count c.args.m.now.signal_count c.args.order.now c.piece.new.order c.piece-2.new.order (order_by_first c.args.m.now.expr_count c.args.m.now.signal_count c.args.order.now c.list_outputs.new.order c.piece.new.order (order_by_outputs c.args.m.now.expr_count c.args.m.now.signal_count c.args.order.now c.list_controls.new.order c.list_outputs.new.order (order_by_controls c.args.m.now.expr_count c.args.m.now.signal_count c.args.order.now c.list_registers.new.order c.list_controls.new.order (order_by_registers c.args.m.now.expr_count c.args.m.now.signal_count c.args.order.now c.fill_forms.new.forms c.list_registers.new.order c.fill_forms.ensures.before c.in_ok-registers.ensures.kept) c.in_ok-controls.ensures.kept) c.in_ok-outputs.ensures.kept) c.in_ok-first.ensures.kept) c.in_err-second.ensures.kept

pub returns-clause-planned : goal.returns-clause-planned
returns-clause-planned c = planned_all c.args.m.now.expr_count c.args.m.now.signal_count c.fill_forms.new.forms c.list_registers.new.order c.list_controls.new.order c.list_outputs.new.order c.in_ok-registers.ensures.kept c.in_ok-controls.ensures.kept c.in_ok-outputs.ensures.kept c.piece.new.order c.in_ok-first.ensures.kept c.piece-2.new.order c.in_ok-second.ensures.kept
    c.args.m.now.expr_counted c.in_ok-registers.ensures.few c.in_ok-controls.ensures.few c.in_ok-outputs.ensures.few c.in_ok-first.ensures.few (omega arith) c.piece-2.auto.order c.requires.2 c.requires.3 (omega arith)
    (c.in_ok-registers.ensures.listed) (c.in_ok-controls.ensures.listed) (c.in_ok-outputs.ensures.listed)
    (c.in_ok-first.ensures.coded) (c.in_ok-first.ensures.loaded (listed_registers c.args.m.now.expr_count c.args.m.now.signal_count c.fill_forms.new.forms c.list_registers.new.order c.list_controls.new.order c.list_outputs.new.order c.in_ok-registers.ensures.kept c.in_ok-controls.ensures.kept c.in_ok-outputs.ensures.kept c.in_ok-registers.ensures.few (c.in_ok-registers.ensures.listed))) (c.in_ok-first.ensures.driven)
    (c.in_ok-second.ensures.coded) (c.in_ok-second.ensures.driven)

pub returns-clause-kept : goal.returns-clause-kept
returns-clause-kept c = order_by_second c.args.m.now.expr_count c.args.m.now.signal_count c.args.order.now c.piece.new.order c.piece-2.new.order (order_by_first c.args.m.now.expr_count c.args.m.now.signal_count c.args.order.now c.list_outputs.new.order c.piece.new.order (order_by_outputs c.args.m.now.expr_count c.args.m.now.signal_count c.args.order.now c.list_controls.new.order c.list_outputs.new.order (order_by_controls c.args.m.now.expr_count c.args.m.now.signal_count c.args.order.now c.list_registers.new.order c.list_controls.new.order (order_by_registers c.args.m.now.expr_count c.args.m.now.signal_count c.args.order.now c.fill_forms.new.forms c.list_registers.new.order c.fill_forms.ensures.before c.in_ok-registers.ensures.kept) c.in_ok-controls.ensures.kept) c.in_ok-outputs.ensures.kept) c.in_ok-first.ensures.kept) c.in_ok-second.ensures.kept
