use Rattle.std.proofs.Common.{arith, ap₂, ◌∙◌, ℕ, length}
use Rattle.simulation.specs.Wellformed.{or_else}
use Rattle.simulation.specs.Run.{fired_of, first_of}
use Rattle.simulation.specs.Fault.{tick_causes}
use Rattle.simulation.proofs.Calls.{input_fits}
use Rattle.model_check.proofs.call.bits.Goals as goal

pub returns : goal.returns
returns c =
    let e = input_fits c.args.signals.now _ (length c.args.bytes.now) c.input_total.ensures c.requires (omega (arith, c.well_formed)) in
    ap₂ or_else c.in_ok-byte_fault.ensures (c.tick_fault.ensures ∙ ap₂ (λ (n k : ℕ). first_of (tick_causes n k c.args.ticks.now (fired_of c.args.fired))) c.count.ensures e)
