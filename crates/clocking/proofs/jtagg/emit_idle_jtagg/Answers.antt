use Rattle.std.proofs.Common.{refl}
use Rattle.clocking.proofs.Each.{jtagg_split}
use Rattle.recorder.proofs.Calls.{writes_as, writes_then, writes_err}
use Rattle.wires.specs.Wires.{wires_in}
use Rattle.clocking.proofs.jtagg.emit_idle_jtagg.Goals as goal

pub returns-in_err-assign_all : goal.returns-in_err-assign_all
returns-in_err-assign_all c =
    writes_as (jtagg_split (wires_in c.args.map) c.args.fields.words.now c.args.fields.at refl)
    (writes_err c.in_err-assign_all.ensures _ _ c.from_residual.result _ refl c.from_residual.ensures.1)

pub returns-in_err-assign_all-2 : goal.returns-in_err-assign_all-2
returns-in_err-assign_all-2 c =
    writes_as (jtagg_split (wires_in c.args.map) c.args.fields.words.now c.args.fields.at refl)
    (writes_then c.in_ok-assign_all.ensures _ refl
    (writes_err c.in_err-assign_all-2.ensures _ _ c.from_residual-in_err-assign_all-2.result _ refl c.from_residual-in_err-assign_all-2.ensures.1))

pub returns : goal.returns
returns c =
    writes_as (jtagg_split (wires_in c.args.map) c.args.fields.words.now c.args.fields.at c.word.ensures)
    (writes_then c.in_ok-assign_all.ensures _ refl
    (writes_then c.in_ok-assign_all-2.ensures _ refl
    (c.assign_wire.ensures)))
