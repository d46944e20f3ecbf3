use Rattle.std.proofs.Common.{refl}
use Rattle.wires.specs.Wires.{wires_in}
use Rattle.recorder.specs.Calls.{reset_of}
use Rattle.recorder.proofs.Calls.{writes_as}
use Rattle.wires.proofs.Laws.{writes_after, unread_err}
use Rattle.converter.proofs.Registers.{clock_is}
use Rattle.converter.proofs.register.clock_bank.Goals as goal

pub returns-in_err-clock : goal.returns-in_err-clock
returns-in_err-clock c =
    writes_as (clock_is (wires_in c.args.map) c.args.map.constants c.args.leader.words.now c.args.leader.at c.bit.ensures refl c.args.target.0 c.args.next.0 (reset_of c.args.reset))
    (unread_err _ _ c.from_residual.result _ c.in_err-clock.ensures c.from_residual.ensures.1)

pub returns : goal.returns
returns c =
    writes_as (clock_is (wires_in c.args.map) c.args.map.constants c.args.leader.words.now c.args.leader.at c.bit.ensures c.word.ensures c.args.target.0 c.args.next.0 (reset_of c.args.reset))
    (writes_after _ c.in_ok-clock.ensures c.register.ensures)
