use Rattle.std.proofs.Common.{ap₂, sym, ◌∙◌, ℕ, ◌+◌, ◌*◌}
use Rattle.optimize.proofs.Halves.{evens_split}
use Rattle.optimize.proofs.lut.even_half.Goals as goal

-- src/lut.rt:29:1
pub returns : goal.returns
returns c = ap₂ (λ (x y : ℕ). x + 16 * y) c.even_bits-low.ensures c.even_bits-high.ensures ∙ sym (evens_split c.args.table)
