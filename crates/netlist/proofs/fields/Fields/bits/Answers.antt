use Rattle.std.proofs.Common.{rules, ap}
use Rattle.netlist.specs.declared.fields.Fields.{Fields}
use Rattle.netlist.proofs.WordLaws.{bits_filled}
use Rattle.netlist.proofs.fields.Fields.bits.Goals as goal

pub returns : goal.returns
returns g c = bits_filled c.args.self.words.now _ _ (ap (λ (f : Fields). f.at) c.from-fields.ensures) _ _ c.loop-k.invariant.0 (search rules)
