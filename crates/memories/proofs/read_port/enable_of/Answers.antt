use Rattle.std.proofs.Common.{ap}
use Rattle.wires.specs.Wires.{wires_in}
use Rattle.wires.proofs.Laws.{reads_ok, reads_as, reads_then, reads_err}
use Rattle.memories.specs.Memories.{enable_of}
use Rattle.memories.proofs.read_port.enable_of.Goals as goal

pub returns-in_err-bit_signal-in-Some : goal.returns-in_err-bit_signal-in-Some
returns-in_err-bit_signal-in-Some c = reads_as (ap (enable_of (wires_in c.args.map) c.args.map.constants) c.in-Some.is) (reads_err _ _ c.from_residual.result _ c.in_err-bit_signal-in-Some.ensures c.from_residual.ensures.1)

pub returns-in_ok-bit_signal-in-Some : goal.returns-in_ok-bit_signal-in-Some
returns-in_ok-bit_signal-in-Some c = reads_as (ap (enable_of (wires_in c.args.map) c.args.map.constants) c.in-Some.is) (reads_then _ c.in_ok-bit_signal-in-Some.ensures reads_ok)

pub returns-in-None : goal.returns-in-None
returns-in-None c = reads_as (ap (enable_of (wires_in c.args.map) c.args.map.constants) c.in-None.is) reads_ok
