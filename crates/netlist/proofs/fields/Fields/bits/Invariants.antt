use Rattle.std.proofs.Common.{◌≡◌, ℕ, ◌+◌, ◌<◌, length, get_or}
use Rattle.netlist.specs.declared.Bit.TheVariants.{Zero}
use Rattle.netlist.specs.Fields.{bit_at}
use Rattle.netlist.proofs.fields.Fields.bits.Given as goal

abbrev pub invariant-loop-k : goal.invariant-loop-k
invariant-loop-k g l = (length l.bit-items ≡ l.k-end) × ((i : ℕ) → i < l.k → get_or l.bit-items i Zero ≡ bit_at l.fields.words.now (l.fields.at + i))
